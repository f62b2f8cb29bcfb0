-- The parts of a line, one after the other.
use Rattle.std.specs.Prelude.{ℕ, List, [], Option, Some, None, ◌==◌}
use Rattle.std.specs.List.{slice_split}

-- the parts of what comes after a space, if there was one
abbrev pub parts_after : Option (List ℕ) → List (List ℕ)
parts_after None = []
parts_after (Some rest) = slice_split (λ b. b == 32) rest
