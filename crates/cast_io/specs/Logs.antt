-- What a source and a store did: the answers of their calls, as a list.
use Rattle.std.specs.Prelude.{ℕ, ◌≡◌, ◌==◌, if◌then◌else◌, List, [], ◌∷◌, ◌++◌, map, take, Option, Result, Ok, Err}
use Rattle.std.specs.List.{concat}
use Rattle.cast_io.specs.declared.fault.Failed.{Failed}
use Rattle.cast_io.specs.declared.steps.SourceStep.{SourceStep}
use Rattle.cast_io.specs.declared.steps.SourceStep.TheVariants as steps
use Rattle.cast_io.specs.Told.{Grew}

-- the steps so far, where they are told
abbrev pub Log : Type 0
Log = Option (List (SourceStep (List ℕ)))

-- the step of a read by its answer; `buf` is the buffer after it
abbrev pub step_of_read : Result ℕ Failed → List ℕ → SourceStep (List ℕ)
step_of_read (Ok n) buf = if n == 0 then steps.End else steps.Bytes (take n buf)
step_of_read (Err fault) buf = steps.Failed

-- the step of an open of this path by its answer
abbrev pub step_of_open : {T : Type 0} → Result T Failed → List ℕ → SourceStep (List ℕ)
step_of_open (Ok done) path = steps.Opened path
step_of_open (Err fault) path = steps.Failed

-- any steps were taken in between
abbrev pub GoesOn : Log → Log → Type 0
GoesOn old new = (more : List (SourceStep (List ℕ))) × Grew old new more

-- the steps of reads that gave these pieces
abbrev pub pieces_given : List (List ℕ) → List (SourceStep (List ℕ))
pieces_given pieces = map (λ (piece : List ℕ). steps.Bytes piece) pieces

-- the steps were reads that gave these bytes in pieces, and then these others
abbrev pub GaveThen : Log → Log → List ℕ → List (SourceStep (List ℕ)) → Type 0
GaveThen old new bytes more = (pieces : List (List ℕ)) × (concat pieces ≡ bytes)
    × Grew old new (pieces_given pieces ++ more)

-- reads gave exactly these bytes, and one more came to the end
abbrev pub GaveAll : Log → Log → List ℕ → Type 0
GaveAll old new bytes = GaveThen old new bytes (steps.End ∷ [])

-- reads gave exactly these bytes, and no other was made
abbrev pub GaveFirst : Log → Log → List ℕ → Type 0
GaveFirst old new bytes = GaveThen old new bytes []

-- among the steps the file of this path was opened, reads gave exactly these bytes, and one more
-- came to the end, with no step of another kind between
abbrev pub GaveFile : List ℕ → Log → Log → List ℕ → Type 0
GaveFile path old new bytes = (before after : List (SourceStep (List ℕ))) × (pieces : List (List ℕ))
    × (concat pieces ≡ bytes)
    × Grew old new (before ++ (steps.Opened path ∷ (pieces_given pieces ++ steps.End ∷ after)))
