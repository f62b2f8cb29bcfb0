-- What a sink holds and a source has left after a call that may have stopped on the way.
use Rattle.std.specs.Prelude.{ℕ, ◌≤◌, List, length, take, Option}
use Rattle.std.specs.Io.KnownBytes.{Appends, Consumes}

-- the known bytes grow by some first bytes of the piece, from none to all
abbrev pub AppendsPrefix : Option (List ℕ) → Option (List ℕ) → List ℕ → Type 0
AppendsPrefix old new piece = (n : ℕ) × (n ≤ length piece) × Appends old new (take n piece)

-- the known bytes lose some first bytes, and these are such
abbrev pub Loses : (List ℕ → Type 0) → Option (List ℕ) → Option (List ℕ) → Type 0
Loses AreSuch old new = (bytes : List ℕ) × AreSuch bytes × Consumes old new bytes
