-- Which bytes were read, by the steps that were logged before and after.
use Rattle.std.specs.Prelude.{◌≡◌, ℕ, List, [], ◌∷◌, ◌++◌}
use Rattle.std.specs.List.{concat}
use Rattle.cast_io.specs.declared.steps.SourceStep.{SourceStep}
use Rattle.cast_io.specs.declared.steps.SourceStep.TheVariants as steps
use Rattle.cast_io.specs.Logs.{pieces_given}

-- all steps of a source, in order
abbrev pub Steps : Type 0
Steps = List (SourceStep (List ℕ))

-- the steps since then are reads that gave exactly these bytes, in pieces, and one that came to the
-- end
abbrev pub HasRead : Steps → Steps → List ℕ → Type 0
HasRead old new bytes = (pieces : List (List ℕ)) × (concat pieces ≡ bytes)
    × (new ≡ old ++ (pieces_given pieces ++ steps.End ∷ []))

-- among the steps since then the file of this path was opened, reads gave exactly these bytes, in
-- pieces, and one more came to the end, with no step of another kind between
abbrev pub HasReadFile : Steps → Steps → List ℕ → List ℕ → Type 0
HasReadFile old new path bytes = (before after : Steps) × (pieces : List (List ℕ))
    × (concat pieces ≡ bytes)
    × (new ≡ old ++ (before ++ (steps.Opened path ∷ (pieces_given pieces ++ steps.End ∷ after))))
