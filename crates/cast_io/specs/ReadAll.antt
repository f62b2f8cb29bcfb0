-- What reading a source to its end comes to, by what was left of it before and after, and its
-- steps.
use Rattle.std.specs.Prelude.{ℕ, ◌<◌, ◌≤◌, List, [], ◌∷◌, length, Option}
use Rattle.std.specs.Io.KnownBytes.{Consumes, IsAtEnd}
use Rattle.cast_io.specs.declared.reading.ReadAllFault.{ReadAllFault}
use Rattle.cast_io.specs.declared.reading.ReadAllFault.TheVariants.{Failed, Long, Memory}
use Rattle.cast_io.specs.declared.steps.SourceStep.TheVariants as steps
use Rattle.cast_io.specs.Logs.{Log, GaveAll, GaveFirst, GaveThen}

-- These bytes, at most so many, were all that was left: reads gave them, and one more came to the
-- end.
pub record IsReadWhole (limit : ℕ) (left now : Option (List ℕ)) (old new : Log) (bytes : List ℕ)
    : Type 0 where
  pub whole : Consumes left now bytes
  pub ended : IsAtEnd now
  pub within : length bytes ≤ limit
  pub gave : GaveAll old new bytes

-- What the source lost where its bytes were not kept: more than so many; or at most so many, behind
-- which a read failed, or there was no memory.
abbrev pub HasLost : ReadAllFault → ℕ → Option (List ℕ) → Option (List ℕ) → Log → Log → Type 0
HasLost Long limit left now old new =
    (came : List ℕ) × (limit < length came) × Consumes left now came × GaveFirst old new came
HasLost Failed limit left now old new =
    (came : List ℕ) × (length came ≤ limit) × Consumes left now came
    × GaveThen old new came (steps.Failed ∷ [])
HasLost Memory limit left now old new =
    (came : List ℕ) × (length came ≤ limit) × Consumes left now came × GaveFirst old new came
