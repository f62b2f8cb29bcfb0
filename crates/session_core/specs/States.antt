-- How far a rover is, for whoever gives it its turns; at which mountpoint a session is, and what it
-- holds.
use Rattle.std.specs.Prelude.{ℕ, List, [], ◌∷◌, length, Option, None, Some}
use Rattle.ntrip_head.specs.declared.request.Version.{Version}
use Rattle.rover_cursor.specs.declared.segment.Segment.{Segment}
use Rattle.rover_session.specs.Standing.{Rover as RoverValue}
use Rattle.upstream_relay.specs.Standing.{claim_at}
use Rattle.session_model.specs.declared.ending.Ending.{Ending}
use Rattle.session_core.specs.declared.held.Held.{Held}
use Rattle.session_core.specs.declared.held.Held.TheVariants as holds
use Rattle.session_core.specs.declared.rover_state.RoverState.{RoverState}
use Rattle.session_core.specs.declared.session_stage.SessionStage.{SessionStage}
use Rattle.session_core.specs.declared.session_stage.SessionStage.TheVariants.{Source, Relay, Rover}
use Rattle.session_core.specs.declared.session.Session.{Session}

-- with these segments, the newest first
abbrev pub state_in : Version → List Segment → Option RoverState
state_in version [] = None
state_in version (newest ∷ older) = Some (record {
  version = version;
  mount = newest.mount;
  next = newest.cursor.next;
  segments = length (newest ∷ older);
})

abbrev pub state_of : RoverValue → Option RoverState
state_of rover = state_in rover.version rover.segments

-- of a session that ended so, if it did, at this stage
abbrev pub state_at : Option Ending → SessionStage → Option RoverState
state_at None (Rover account session) = state_of session
state_at _ _ = None

abbrev pub rover_state : Session → Option RoverState
rover_state session = state_at session.ended session.stage

-- ---- where it is

-- the mountpoint of a source or a relay, and of a rover that stands so
abbrev pub mount_at : SessionStage → Option RoverState → Option ℕ
mount_at (Source mount session) rover = Some mount
mount_at (Relay mount session) rover = Some mount
mount_at (Rover account session) (Some rover) = Some rover.mount
mount_at _ _ = None

abbrev pub session_mount : Session → Option ℕ
session_mount session = mount_at session.stage (rover_state session)

-- ---- what it holds

-- an account, or a claim: that of a source, or of a relay that was given one
abbrev pub holding_at : SessionStage → Held
holding_at (Source mount session) = holds.Source mount session.claim
holding_at (Relay mount session) = holds.Relay mount (claim_at session.stage)
holding_at (Rover account session) = holds.Rover account
holding_at _ = holds.Nothing

abbrev pub session_holding : Session → Held
session_holding session = holding_at session.stage
