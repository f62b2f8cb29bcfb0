-- What a caller took from a link and wrote to it, where it sends back what it reads. The tests have
-- such a caller, which is proved over the clauses of the trait alone.
use Rattle.std.specs.Prelude.{ℕ, ◌≡◌, ◌≤◌, List, [], ◌∷◌, ◌++◌, length, ◌⊎◌}
use Rattle.cast_io.specs.declared.steps.LinkStep.{LinkStep}
use Rattle.cast_io.specs.declared.steps.LinkStep.TheVariants as coming
use Rattle.cast_io.specs.declared.steps.Step.{Step}
use Rattle.cast_io.specs.declared.steps.Step.TheVariants as took
use Rattle.cast_io.specs.Told.{LinkTold, StillTold, Grew}

-- the bytes that the steps taken gave
abbrev pub bytes_given : List Step → List ℕ
bytes_given [] = []
bytes_given (took.Bytes bytes ∷ more) = bytes ++ bytes_given more
bytes_given (took.Idle ∷ more) = bytes_given more
bytes_given (took.End ∷ more) = bytes_given more
bytes_given (took.ReadFailed ∷ more) = bytes_given more
bytes_given (took.WriteFailed ∷ more) = bytes_given more

-- the bytes that the steps to come hold
abbrev pub bytes_ahead : List LinkStep → List ℕ
bytes_ahead [] = []
bytes_ahead (coming.Bytes bytes ∷ more) = bytes ++ bytes_ahead more
bytes_ahead (coming.Idle ∷ more) = bytes_ahead more
bytes_ahead (coming.End ∷ more) = bytes_ahead more

-- the link took these steps, of which the bytes came from the front of those to come, and was
-- given these bytes
pub record Exchanged (old new : LinkTold) (taken : List Step) (written : List ℕ) : Type 0 where
  pub given : new.given ≡ old.given
  pub left : StillTold (λ before now. bytes_ahead before ≡ bytes_given taken ++ bytes_ahead now)
      old.left new.left
  pub steps : Grew old.taken new.taken taken
  pub bytes : Grew old.bytes new.bytes written
  pub later : old.faults ≤ new.faults

-- all that was read was written
abbrev pub Copied : LinkTold → LinkTold → List Step → Type 0
Copied old new taken = Exchanged old new taken (bytes_given taken)

-- so many reads were made, or the last one came to the end
abbrev pub IsDone : ℕ → List Step → Type 0
IsDone reads taken =
    (length taken ≡ reads) ⊎ ((before : List Step) × (taken ≡ before ++ took.End ∷ []))

-- where the last step is a read that failed, all that was read was written, and where it is a
-- write that failed, some first bytes of it
abbrev pub IsBroken : Step → List ℕ → List ℕ → Type 0
IsBroken (took.Bytes bytes) read written = ⊥
IsBroken took.Idle read written = ⊥
IsBroken took.End read written = ⊥
IsBroken took.ReadFailed read written = written ≡ read
IsBroken took.WriteFailed read written = (rest : List ℕ) × (read ≡ written ++ rest)
