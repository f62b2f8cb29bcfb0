-- How far a fetch is with the bytes that its link gave.
use Rattle.std.specs.Prelude.{◌≡◌, ◌<◌, ℕ, Bool, true, List, [], drop, take, Option, None, Some, is_some}
use Rattle.rtcm_frame.specs.Cut.{IsWaiting}
use Rattle.rtcm_frame.specs.Pending.{Pending}
use Rattle.chunk_body.specs.Machine.{Reading}
use Rattle.chunk_body.specs.Text.{HasEnded, IsBadAt}
use Rattle.source_session.specs.Body.{payload, frames_of}
use Rattle.source_session.specs.Standing.{GoesOnAt}
use Rattle.ntrip_client.specs.declared.answer.Answer.{Answer}
use Rattle.ntrip_client.specs.declared.answer.Answer.TheVariants.{Open, Accepted, Refused}
use Rattle.ntrip_client.specs.declared.answer.Refusal.{Refusal}
use Rattle.ntrip_client.specs.declared.answer.Refusal.TheVariants as refusals
use Rattle.ntrip_client.specs.Answer.{IsAnswer}
use Rattle.ntrip_fetch.specs.declared.left.Left.{Left}
use Rattle.ntrip_fetch.specs.declared.left.Left.TheVariants.{Enough, Dial, End, LinkFault, BadHead, LongHead, Coding, Table, Status, Done, BadChunk}
use Rattle.ntrip_fetch.specs.declared.body.Body.{Body}
use Rattle.ntrip_fetch.specs.declared.fetch_stage.FetchStage.{FetchStage}
use Rattle.ntrip_fetch.specs.declared.fetch_stage.FetchStage.TheVariants as stages
use Rattle.ntrip_fetch.specs.declared.fetch_stage.Decided.{Decided}
use Rattle.ntrip_fetch.specs.declared.fetch_stage.Decided.TheVariants as decisions
use Rattle.ntrip_fetch.specs.Answered.{answered, IsDone, IsFaulty}
use Rattle.ntrip_fetch.specs.Writing.{IsWriting, HasWritten, IsTorn}

-- an answer without a body as what a link is left for
abbrev pub left_of : Refusal → Left
left_of refusals.BadHead = BadHead
left_of refusals.LongHead = LongHead
left_of refusals.Coding = Coding
left_of refusals.Table = Table
left_of (refusals.Status status) = Status status

-- ---- the body

-- The body so far is `text`, and it goes on: all its frames were written, fewer than are wanted.
pub record IsAtBody (start now : Option (List ℕ)) (most : ℕ) (chunks : Option Reading)
    (cutter : Pending) (text : List ℕ) (count : ℕ) : Type 0 where
  pub goes_on : GoesOnAt chunks text
  pub writing : IsWriting start now (payload (is_some chunks) text) cutter count
  pub waits : IsWaiting cutter.bytes
  pub fewer : count < most

-- why a body is left
abbrev pub IsBodyLeft : ℕ → (chunked : Bool) → List ℕ → ℕ → Left → Type 0
IsBodyLeft most chunked text count Enough = count ≡ most
IsBodyLeft most true text count Done = (count < most) × HasEnded text
IsBodyLeft most true text count (BadChunk at) = (count < most) × IsBadAt text at
IsBodyLeft most chunked text count other = ⊥

-- the body is left for this, with as many of its frames written as are wanted
pub record BodyLeft (start now : Option (List ℕ)) (most : ℕ) (chunked : Bool) (text : List ℕ)
    (count : ℕ) (left : Left) : Type 0 where
  pub wrote : HasWritten start now (take most (frames_of chunked text)) count
  pub why : IsBodyLeft most chunked text count left

-- the body goes on, or is left
abbrev pub BodyIs : Option (List ℕ) → Option (List ℕ) → ℕ → Option Reading → Pending → List ℕ → ℕ
    → Option Left → Type 0
BodyIs start now most chunks cutter text count None =
    IsAtBody start now most chunks cutter text count
BodyIs start now most chunks cutter text count (Some left) =
    BodyLeft start now most (is_some chunks) text count left

-- ---- head and body

-- the bytes so far are accepted, and their body goes on
pub record IsAccepted (start now : Option (List ℕ)) (most : ℕ) (body : Body) (bytes : List ℕ)
    (count : ℕ) : Type 0 where
  pub at : ℕ
  pub says : IsAnswer bytes (Accepted at (is_some body.chunks))
  pub stands : IsAtBody start now most body.chunks body.cutter (drop at bytes) count

-- the fetch goes on behind these bytes
abbrev pub IsAtStage : Option (List ℕ) → Option (List ℕ) → ℕ → FetchStage → List ℕ → ℕ → Type 0
IsAtStage start now most (stages.Head head) bytes count =
    (head ≡ bytes) × IsAnswer bytes Open × HasWritten start now [] count
IsAtStage start now most (stages.Body body) bytes count =
    IsAccepted start now most body bytes count

-- why these bytes end a fetch
abbrev pub IsDecided : ℕ → Answer → List ℕ → ℕ → Left → Type 0
IsDecided most answer bytes count Enough = count ≡ most
IsDecided most answer bytes count Dial = ⊥
IsDecided most answer bytes count End = ⊥
IsDecided most answer bytes count LinkFault = ⊥
IsDecided most answer bytes count BadHead = answer ≡ Refused refusals.BadHead
IsDecided most answer bytes count LongHead = answer ≡ Refused refusals.LongHead
IsDecided most answer bytes count Coding = answer ≡ Refused refusals.Coding
IsDecided most answer bytes count Table = answer ≡ Refused refusals.Table
IsDecided most answer bytes count (Status status) = answer ≡ Refused (refusals.Status status)
IsDecided most answer bytes count Done = (count < most) × IsDone answer bytes
IsDecided most answer bytes count (BadChunk place) = (count < most) × IsFaulty answer bytes place

-- the link is left for this, with as many frames written as are wanted
pub record StageLeft (start now : Option (List ℕ)) (most : ℕ) (bytes : List ℕ) (count : ℕ)
    (left : Left) : Type 0 where
  pub answer : Answer
  pub says : IsAnswer bytes answer
  pub wrote : HasWritten start now (take most (answered answer bytes)) count
  pub why : IsDecided most answer bytes count left

-- the fetch goes on, or the link is left
abbrev pub StageIs : Option (List ℕ) → Option (List ℕ) → ℕ → FetchStage → List ℕ → ℕ → Option Left
    → Type 0
StageIs start now most stage bytes count None = IsAtStage start now most stage bytes count
StageIs start now most stage bytes count (Some left) =
    StageLeft start now most bytes count left

-- what came of more bytes of a head
abbrev pub DecidedIs : Option (List ℕ) → Option (List ℕ) → ℕ → List ℕ → List ℕ → ℕ → Decided
    → Type 0
DecidedIs start now most head bytes count decisions.Open =
    (head ≡ bytes) × IsAnswer bytes Open × HasWritten start now [] count
DecidedIs start now most head bytes count (decisions.Refused left) =
    StageLeft start now most bytes count left
DecidedIs start now most head bytes count (decisions.Begun body left) =
    StageIs start now most (stages.Body body) bytes count left

-- a write failed: some first bytes of the frames that are wanted were written
abbrev pub StageTorn : Option (List ℕ) → Option (List ℕ) → ℕ → List ℕ → Type 0
StageTorn start now most bytes =
    (answer : Answer) × IsAnswer bytes answer
    × IsTorn start now (take most (answered answer bytes))
