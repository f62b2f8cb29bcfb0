-- The steps of a link from which frames are fetched.
use Rattle.std.specs.Prelude.{◌≡◌, ◌<◌, ◌≤◌, ◌⊎◌, ◌^◌, ℕ, ⊤, Bool, true, false, IsTrue, List, [], ◌∷◌, ◌++◌, length, take}
use Rattle.cast_io.specs.declared.steps.Step.{Step}
use Rattle.cast_io.specs.declared.steps.Step.TheVariants as took
use Rattle.cast_io.specs.Links.{bytes_of, bytes_in, is_failure}
use Rattle.ntrip_fetch.specs.Answered.{IsWanting}

-- a call may follow: the read gave bytes, or found nothing yet
abbrev pub goes_on : Step → Bool
goes_on (took.Bytes bytes) = true
goes_on took.Idle = true
goes_on took.End = false
goes_on took.ReadFailed = false
goes_on took.WriteFailed = false

-- nothing follows a step at which the link ended or failed
abbrev pub IsLastIf : (goes_on : Bool) → List Step → Type 0
IsLastIf true more = ⊤
IsLastIf false more = more ≡ []

-- Behind these bytes each of the steps was needed: the bytes before it were wanting and fewer than
-- 2^62, and no call followed an end or a failure.
abbrev pub AreNeeded : ℕ → List ℕ → List Step → Type 0
AreNeeded most bytes [] = ⊤
AreNeeded most bytes (step ∷ more) =
    IsWanting most bytes × (length bytes < 2 ^ 62) × IsLastIf (goes_on step) more
    × AreNeeded most (bytes ++ bytes_of step) more

-- the last step was a read that answered the end; or the link gave 2^62 bytes or more
abbrev pub HasRunOut : List Step → Type 0
HasRunOut taken = ((front : List Step) × (taken ≡ front ++ took.End ∷ []))
    ⊎ (2 ^ 62 ≤ length (bytes_in taken))

-- the last step was a read or a write that failed
abbrev pub FailsLast : List Step → Type 0
FailsLast taken =
    (front : List Step) × (step : Step) × (taken ≡ front ++ step ∷ []) × IsTrue (is_failure step)

-- the whole request was sent; or its write failed, the link's one step, and some first bytes of it
-- were
abbrev pub IsSent : List ℕ → List Step → List ℕ → Type 0
IsSent request taken sent = (sent ≡ request)
    ⊎ ((n : ℕ) × (n ≤ length request) × (sent ≡ take n request)
    × (taken ≡ took.WriteFailed ∷ []))
