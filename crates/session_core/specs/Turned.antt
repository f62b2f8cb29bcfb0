-- What a turn makes: a rover that entered its account reads on, and nothing else takes a turn.
use Rattle.std.specs.Prelude.{◌≡◌, ⊤, Bool, true, false, IsTrue, ℕ, List, [], ◌++◌, Option, None, Some}
use Rattle.turn_log.specs.History.{History}
use Rattle.gga_read.specs.declared.Position.{Position}
use Rattle.mount_ring.specs.declared.call.RingCall.{RingCall}
use Rattle.mount_ring.specs.declared.shape.RingShape.{RingShape}
use Rattle.session_calls.specs.Steps.{Step}
use Rattle.session_calls.specs.Rings.{Went}
use Rattle.rover_session.specs.Owed.{reads}
use Rattle.rover_session.specs.Made.{segments_after}
use Rattle.rover_session.specs.Body.{body_of}
use Rattle.rover_session.specs.Standing.{Rover, IsResumable, WasResumable, SameButSegments, frames_sent}
use Rattle.rover_session.specs.Standing as rover_standing
use Rattle.rover_session.specs.declared.session.RoverSession.{RoverSession}
use Rattle.cast_config.specs.declared.config.Config.{Config}
use Rattle.session_model.specs.declared.ending.Ending.{Ending}
use Rattle.session_core.specs.declared.ending.Flow.{Flow}
use Rattle.session_core.specs.declared.ending.Flow.TheVariants as flows
use Rattle.session_core.specs.declared.session_stage.SessionStage.{SessionStage}
use Rattle.session_core.specs.declared.session_stage.SessionStage.TheVariants as stages
use Rattle.session_core.specs.declared.session.Session.{Session}
use Rattle.session_model.specs.Judged.{Opening}
use Rattle.session_model.specs.Run.{Histories}
use Rattle.session_model.specs.Called.{Called, is_halt}
use Rattle.session_core.specs.Standing.{IsMadeBy, StandsFor, is_halted}

-- ---- the answer

-- a session that ended by itself, or was halted, waits to be closed
abbrev pub flow_of : Option Ending → Flow
flow_of None = flows.Open
flow_of (Some end) = flows.Ended

-- A turn that ended the session halted it by this: a place refused the turn, or memory was lacking.
-- Nothing was read then, and nothing appended.
pub record HaltedUnread {H : Type 0} (old now : H) (before after : List ℕ) (end : Ending)
    : Type 0 where
  pub halt : IsTrue (is_halt end)
  pub unread : now ≡ old
  pub unsent : after ≡ before

-- ---- by stage

-- whether it entered an account as a rover
abbrev pub is_rover : SessionStage → Bool
is_rover (stages.Rover account session) = true
is_rover _ = false

-- a rover was not halted, and its newest segment can be read on by this caller
abbrev pub IsReadBy : List RingShape → ℕ → List (History RingCall) → SessionStage → Type 0
IsReadBy shapes me histories (stages.Rover account session) =
    (session.me ≡ me) × (session.halt ≡ None)
    × WasResumable shapes me histories session.segments
IsReadBy shapes me histories _ = ⊤

-- A rover's session made the read of its newest segment, or nothing where it has none, and stands
-- with it for the same bytes. Where it was halted instead, it may have made nothing.
pub record ReadAt (shapes : List RingShape) (alone : Bool) (old now : List (History RingCall))
    (budget : ℕ) (before after : Rover) (ended : Option Ending) (first : Option Position)
    (bytes : List ℕ) (steps : List Step) : Type 0 where
  pub more : List Step
  pub went : Went shapes alone old now before.me more
  pub made : IsMadeBy (is_halted ended) (reads budget before.segments) more
  pub stands : rover_standing.Stands after first bytes (steps ++ more)

-- A turn of a rover's session: what its read took was sent, and it can be read on.
pub record RoverTurned (shapes : List RingShape) (alone : Bool) (old now : List (History RingCall))
    (budget : ℕ) (before after : Rover) (ended : Option Ending) (out_old out_new : List ℕ)
    : Type 0 where
  pub same : SameButSegments before after
  pub resumable : IsResumable shapes before.me now after.segments
  -- what the read took
  pub frames : List (List ℕ)
  pub out : out_new ≡ out_old ++ body_of before.version frames
  pub sent : frames_sent shapes now after.segments
      ≡ frames_sent shapes old before.segments ++ frames
  pub read : (first : Option Position) (bytes : List ℕ) (steps : List Step)
      → rover_standing.Stands before first bytes steps
      → ReadAt shapes alone old now budget before after ended first bytes steps

-- a turn of a rover leaves it one of the same account
abbrev pub TurnedAt : List RingShape → (alone : Bool) → List (History RingCall)
    → List (History RingCall) → ℕ
    → SessionStage → SessionStage → Option Ending → List ℕ → List ℕ → Type 0
TurnedAt shapes alone old now budget (stages.Rover account session) after ended out_old out_new =
    (next : RoverSession) × (after ≡ stages.Rover account next)
    × RoverTurned shapes alone old now budget session next ended out_old
    out_new
TurnedAt shapes alone old now budget _ after ended out_old out_new = ⊤

-- ---- the whole

-- A turn made the read that it owes, of a session that was halted perhaps nothing of it, and sent
-- further bytes, and the session stands with both for the same text.
pub record Turned (c : Config) (alone : Bool) (old now : Histories) (budget : ℕ)
    (session : Session) (opening : Opening) (text : List ℕ) (steps : List Step)
    (sent before after : List ℕ) : Type 0 where
  pub more : List Step
  pub added : List ℕ
  pub out : after ≡ before ++ added
  pub called : Called c alone old now session.me more
  pub made : IsMadeBy (is_halted session.ended) (reads budget (segments_after [] steps)) more
  pub stands : StandsFor c session opening text (steps ++ more) now (sent ++ added)
