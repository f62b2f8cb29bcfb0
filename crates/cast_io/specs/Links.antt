-- What a read and a write of a link do to what it tells.
use Rattle.std.specs.Prelude.{ℕ, ◌≡◌, ◌≤◌, min, List, [], ◌∷◌, length, take, drop, Bool, true, false, IsTrue, if◌then◌else◌, Some, Result, is_ok, ⊤, ◌⊎◌, OnOk, OnErr}
use Rattle.std.specs.List.{flat_map}
use Rattle.cast_io.specs.declared.steps.LinkStep.{LinkStep}
use Rattle.cast_io.specs.declared.steps.LinkStep.TheVariants as steps
use Rattle.cast_io.specs.declared.steps.Step.{Step}
use Rattle.cast_io.specs.declared.steps.Step.TheVariants as took
use Rattle.cast_io.specs.declared.link.Got.{Got}
use Rattle.cast_io.specs.declared.link.Got.TheVariants as got
use Rattle.cast_io.specs.Causes.{Rose}
use Rattle.cast_io.specs.Told.{LinkTold, StillTold, Grew}

-- a read that gives bytes gives at least one, and at most as many as the buffer holds
abbrev pub IsGot : Got → ℕ → Type 0
IsGot (got.Bytes n) size = (1 ≤ n) × (n ≤ size)
IsGot got.Idle size = ⊤
IsGot got.End size = ⊤
IsGot got.Failed size = ⊤

-- the read failed
abbrev pub has_failed : Got → Bool
has_failed (got.Bytes n) = false
has_failed got.Idle = false
has_failed got.End = false
has_failed got.Failed = true

-- what a read answered, as a step that was taken; `buf` is the buffer after it
abbrev pub step_of : Got → List ℕ → Step
step_of (got.Bytes n) buf = took.Bytes (take n buf)
step_of got.Idle buf = took.Idle
step_of got.End buf = took.End
step_of got.Failed buf = took.ReadFailed

-- the bytes that a step gave
abbrev pub bytes_of : Step → List ℕ
bytes_of (took.Bytes bytes) = bytes
bytes_of took.Idle = []
bytes_of took.End = []
bytes_of took.ReadFailed = []
bytes_of took.WriteFailed = []

-- all bytes that a link gave in these steps
abbrev pub bytes_in : List Step → List ℕ
bytes_in taken = flat_map bytes_of taken

-- a read or a write failed
abbrev pub is_failure : Step → Bool
is_failure (took.Bytes bytes) = false
is_failure took.Idle = false
is_failure took.End = false
is_failure took.ReadFailed = true
is_failure took.WriteFailed = true

-- the steps to come, where these bytes of the first one are left
abbrev pub ahead : List ℕ → List LinkStep → List LinkStep
ahead [] more = more
ahead (x ∷ xs) more = steps.Bytes (x ∷ xs) ∷ more

-- A read takes from the first step to come and answers what that step is: it fills the buffer or
-- reaches the end of the step's bytes. With no step to come it is at the end. A failed read takes
-- nothing.
abbrev pub TakesStep : Got → List ℕ → List LinkStep → List LinkStep → Type 0
TakesStep (got.Bytes n) buf old new = (bytes : List ℕ) × (more : List LinkStep)
    × (old ≡ steps.Bytes bytes ∷ more) × (n ≡ min (length bytes) (length buf))
    × (take n buf ≡ take n bytes) × (new ≡ ahead (drop n bytes) more)
TakesStep got.Idle buf old new = old ≡ steps.Idle ∷ new
TakesStep got.End buf old new = (old ≡ steps.End ∷ new) ⊎ ((old ≡ []) × (new ≡ []))
TakesStep got.Failed buf old new = new ≡ old

-- what a write adds to the steps taken: itself where it failed
abbrev pub write_steps : (ok : Bool) → List Step
write_steps ok = if ok then [] else took.WriteFailed ∷ []

-- a read went from what the link told before it to what it tells after it
pub record HasRead (old new : LinkTold) (result : Got) (buf : List ℕ) : Type 0 where
  pub given : new.given ≡ old.given
  pub left : StillTold (TakesStep result buf) old.left new.left
  pub taken : Grew old.taken new.taken (step_of result buf ∷ [])
  pub bytes : new.bytes ≡ old.bytes
  pub later : old.faults ≤ new.faults
  pub failed : IsTrue (has_failed result) → Rose old.faults new.faults

-- a write took all of the piece, or after a failure some first bytes of it, none to all; one that
-- was taken whole leaves the count as it was
pub record HasWritten {T E : Type 0} (old new : LinkTold) (result : Result T E) (piece : List ℕ)
    : Type 0 where
  pub given : new.given ≡ old.given
  pub left : new.left ≡ old.left
  pub taken : Grew old.taken new.taken (write_steps (is_ok result))
  pub whole : OnOk result (Grew old.bytes new.bytes piece)
  pub torn : OnErr result
      ((n : ℕ) × (n ≤ length piece) × Grew old.bytes new.bytes (take n piece))
  pub later : old.faults ≤ new.faults
  pub failed : OnErr result (Rose old.faults new.faults)
  pub unharmed : OnOk result (new.faults ≡ old.faults)

-- a link that was just given: it is to take all its steps, took none, was given no bytes
-- and had no fault
pub record IsNewLink (told : LinkTold) : Type 0 where
  pub left : told.left ≡ told.given
  pub taken : (list : List Step) → told.taken ≡ Some list → list ≡ []
  pub bytes : (list : List ℕ) → told.bytes ≡ Some list → list ≡ []
  pub faults : told.faults ≡ 0
