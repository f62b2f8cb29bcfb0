-- What input and files gave in a call: where they tell the steps that they took, the bytes that
-- these gave, and where they tell their bytes, just those.
use Rattle.std.specs.Prelude.{◌≡◌, ℕ, ◌<◌, ◌⊎◌, List, [], ◌∷◌, ◌++◌, length, Option}
use Rattle.std.specs.List.{concat}
use Rattle.cast_io.specs.declared.steps.SourceStep.{SourceStep}
use Rattle.cast_io.specs.declared.steps.SourceStep.TheVariants as steps
use Rattle.cast_io.specs.Logs.{Log, GaveAll, GaveFile, GaveFirst, pieces_given}
use Rattle.cast_io.specs.Told.{Grew}
use Rattle.caster_top.specs.Told.{FilesTold, Holds, Tells}

-- the bytes begin with these, which are more than a script or a configuration may have
abbrev pub BeginsTooLong : List ℕ → List ℕ → Type 0
BeginsTooLong came bytes =
    (8388608 < length came) × (rest : List ℕ) × (bytes ≡ came ++ rest)

-- reads gave first bytes of these that are too many, and no other was made
abbrev pub GaveTooMuch : Log → Log → List ℕ → Type 0
GaveTooMuch old new bytes =
    (came : List ℕ) × BeginsTooLong came bytes × GaveFirst old new came

-- among the steps the file of this path was opened, and reads gave first bytes of these that are
-- too many
abbrev pub GaveTooMuchOf : List ℕ → Log → Log → List ℕ → Type 0
GaveTooMuchOf path old new bytes = (before after : List (SourceStep (List ℕ)))
    × (pieces : List (List ℕ)) × BeginsTooLong (concat pieces) bytes
    × Grew old new (before ++ (steps.Opened path ∷ (pieces_given pieces ++ after)))

-- These bytes are all that the input gave in a call: all that it had, where it tells that, and
-- reads gave exactly them and then came to the end.
abbrev pub InputGave : Option (List ℕ) → Log → Log → List ℕ → Type 0
InputGave left old new bytes = Tells left bytes × GaveAll old new bytes

-- These bytes are all that the file of this path gave in a call: all that it holds, where the files
-- are told, and it was opened, reads gave exactly them and then came to the end.
abbrev pub FileGave : FilesTold → Log → Log → List ℕ → List ℕ → Type 0
FileGave files old new path bytes = Holds files path bytes × GaveFile path old new bytes

-- These bytes came from the input: it gave them all, or they are too many, and it gave the first of
-- them.
abbrev pub InputCame : Option (List ℕ) → Log → Log → List ℕ → Type 0
InputCame left old new bytes =
    Tells left bytes × (GaveAll old new bytes ⊎ GaveTooMuch old new bytes)

-- These bytes came from the file of this path: it gave them all, or they are too many, and it gave
-- the first of them.
abbrev pub FileCame : FilesTold → Log → Log → List ℕ → List ℕ → Type 0
FileCame files old new path bytes =
    Holds files path bytes × (GaveFile path old new bytes ⊎ GaveTooMuchOf path old new bytes)
