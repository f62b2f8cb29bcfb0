-- Texts that are split at a byte.
use Rattle.std.specs.Prelude.{◌≡◌, ℕ, Bool, false, List}
use Rattle.std.specs.List.{list_any}

-- no byte of the text passes the test
abbrev pub HasNone : (ℕ → Bool) → List ℕ → Type 0
HasNone test text = list_any test text ≡ false
