-- What a fetch over one link came to.
use Rattle.std.specs.Prelude.{◌≡◌, ◌<◌, ◌≤◌, ℕ, IsTrue, List, [], length, take, Option, None, Some}
use Rattle.std.specs.List.{concat, list_all}
use Rattle.std.specs.Io.KnownBytes.{Appends}
use Rattle.cast_io.specs.Pieces.{AppendsPrefix}
use Rattle.cast_io.specs.declared.steps.Step.{Step}
use Rattle.cast_io.specs.Causes.{Rose}
use Rattle.cast_io.specs.Told.{LinkTold, Grew}
use Rattle.ntrip_client.specs.declared.answer.Answer.{Answer}
use Rattle.ntrip_client.specs.declared.answer.Answer.TheVariants.{Refused}
use Rattle.ntrip_client.specs.declared.answer.Refusal.TheVariants as refusals
use Rattle.ntrip_client.specs.Answer.{IsAnswer}
use Rattle.ntrip_fetch.specs.declared.target.Target.{Target}
use Rattle.ntrip_fetch.specs.declared.left.Left.{Left}
use Rattle.ntrip_fetch.specs.declared.left.Left.TheVariants.{Enough, Dial, End, LinkFault, BadHead, LongHead, Coding, Table, Status, Done, BadChunk}
use Rattle.ntrip_fetch.specs.declared.left.Try.{Try}
use Rattle.ntrip_fetch.specs.declared.fetch_stage.FetchStage.{FetchStage}
use Rattle.ntrip_fetch.specs.Request.{target_request}
use Rattle.ntrip_fetch.specs.Answered.{answered, IsDone, IsFaulty, MayFollow}
use Rattle.ntrip_fetch.specs.Steps.{AreNeeded, HasRunOut, FailsLast, IsSent, goes_on}
use Rattle.cast_io.specs.Links.{bytes_in}
use Rattle.ntrip_fetch.specs.Writing.{HasWritten}
use Rattle.ntrip_fetch.specs.Stages.{IsAtStage, StageTorn}

-- The link took these steps and was sent the request; by all bytes that it gave, `frames` are those
-- that are wanted of it.
pub record Course (target : Target) (most : ℕ) (before after : LinkTold) (taken : List Step)
    (answer : Answer) (frames : List (List ℕ)) : Type 0 where
  pub given : after.given ≡ before.given
  pub steps : Grew before.taken after.taken taken
  pub needed : AreNeeded most [] taken
  pub later : before.faults ≤ after.faults
  pub sent : List ℕ
  pub bytes : Grew before.bytes after.bytes sent
  pub request : IsSent (target_request target) taken sent
  pub says : IsAnswer (bytes_in taken) answer
  pub first : frames ≡ take most (answered answer (bytes_in taken))

-- Why the link was left: `n` frames of the `most` that were wanted were written, and these were all
-- bytes that it gave.
abbrev pub IsLeft : ℕ → LinkTold → LinkTold → List Step → Answer → ℕ → Left → Type 0
IsLeft most before after taken answer n Enough = n ≡ most
IsLeft most before after taken answer n Dial = ⊥
IsLeft most before after taken answer n End =
    (n < most) × MayFollow answer (bytes_in taken) × HasRunOut taken
IsLeft most before after taken answer n LinkFault =
    (n < most) × MayFollow answer (bytes_in taken) × FailsLast taken
    × Rose before.faults after.faults
IsLeft most before after taken answer n BadHead = answer ≡ Refused refusals.BadHead
IsLeft most before after taken answer n LongHead = answer ≡ Refused refusals.LongHead
IsLeft most before after taken answer n Coding = answer ≡ Refused refusals.Coding
IsLeft most before after taken answer n Table = answer ≡ Refused refusals.Table
IsLeft most before after taken answer n (Status status) =
    answer ≡ Refused (refusals.Status status)
IsLeft most before after taken answer n Done = (n < most) × IsDone answer (bytes_in taken)
IsLeft most before after taken answer n (BadChunk place) =
    (n < most) × IsFaulty answer (bytes_in taken) place

-- these frames were fetched, and the link was left for this
pub record Fetched (target : Target) (most : ℕ) (before after : LinkTold)
    (frames : List (List ℕ)) (tried : Try) : Type 0 where
  pub taken : List Step
  pub answer : Answer
  pub course : Course target most before after taken answer frames
  pub count : tried.frames ≡ length frames
  pub left : IsLeft most before after taken answer tried.frames tried.left

-- the writing of these frames failed
pub record BrokenOff (target : Target) (most : ℕ) (before after : LinkTold)
    (frames : List (List ℕ)) : Type 0 where
  pub taken : List Step
  pub answer : Answer
  pub course : Course target most before after taken answer frames

-- ---- with what the sink holds

-- a fetch over one link wrote just the frames that it fetched
abbrev pub LinkFetched : Target → ℕ → LinkTold → LinkTold → Option (List ℕ) → Option (List ℕ)
    → Try → Type 0
LinkFetched target most before after start now tried =
    (frames : List (List ℕ)) × Fetched target most before after frames tried
    × Appends start now (concat frames)

-- the sink failed: some first bytes of the frames that were wanted were written
abbrev pub LinkBroken : Target → ℕ → LinkTold → LinkTold → Option (List ℕ) → Option (List ℕ)
    → Type 0
LinkBroken target most before after start now =
    (frames : List (List ℕ)) × BrokenOff target most before after frames
    × AppendsPrefix start now (concat frames)

-- ---- behind the request

-- the link took these steps and was written nothing
pub record HasTaken (most : ℕ) (before after : LinkTold) (taken : List Step) : Type 0 where
  pub given : after.given ≡ before.given
  pub steps : Grew before.taken after.taken taken
  pub bytes : Grew before.bytes after.bytes []
  pub needed : AreNeeded most [] taken
  pub later : before.faults ≤ after.faults

-- all that the link gave so far was taken, and the fetch goes on
pub record Receiving (most : ℕ) (before told : LinkTold) (start now : Option (List ℕ))
    (stage : FetchStage) (count given : ℕ) : Type 0 where
  pub taken : List Step
  pub link : HasTaken most before told taken
  pub quiet : IsTrue (list_all goes_on taken)
  pub stands : IsAtStage start now most stage (bytes_in taken) count
  pub size : given ≡ length (bytes_in taken)

-- frames were written as many as are wanted of all bytes that the link gave, and then it was left
pub record HasReceived (most : ℕ) (before after : LinkTold) (start now : Option (List ℕ))
    (tried : Try) : Type 0 where
  pub taken : List Step
  pub link : HasTaken most before after taken
  pub answer : Answer
  pub says : IsAnswer (bytes_in taken) answer
  pub wrote : HasWritten start now (take most (answered answer (bytes_in taken))) tried.frames
  pub left : IsLeft most before after taken answer tried.frames tried.left

-- or the sink failed
pub record ReceivingBroken (most : ℕ) (before after : LinkTold) (start now : Option (List ℕ))
    : Type 0 where
  pub taken : List Step
  pub link : HasTaken most before after taken
  pub torn : StageTorn start now most (bytes_in taken)

-- after one read more the fetch goes on, or the link is left
abbrev pub HeardIs : ℕ → LinkTold → LinkTold → Option (List ℕ) → Option (List ℕ) → FetchStage → ℕ
    → ℕ → Option Left → Type 0
HeardIs most before told start now stage count given None =
    Receiving most before told start now stage count given
HeardIs most before told start now stage count given (Some left) =
    HasReceived most before told start now (record { frames = count; left = left })
