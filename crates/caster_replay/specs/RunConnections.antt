-- What each act does to the state that a run keeps of a connection, open or closed.
use Rattle.std.specs.Prelude.{◌≡◌, ◌⊎◌, ⊤, ℕ, ◌<◌, Bool, true, false, List, [], length, set, Option, None, Some, is_some, nat_lt, slice_index_or}
use Rattle.std.specs.List.{All}
use Rattle.turn_log.specs.History.{History}
use Rattle.mount_ring.specs.declared.call.RingCall.{RingCall}
use Rattle.mount_ring.specs.History.{state_of}
use Rattle.session_calls.specs.Rings.{history_at}
use Rattle.cast_config.specs.declared.config.Config.{Config}
use Rattle.session_model.specs.declared.ending.Ending.{Ending}
use Rattle.session_model.specs.declared.ending.Last.{Last}
use Rattle.session_model.specs.declared.ending.Last.TheVariants as lasts
use Rattle.session_model.specs.declared.report.Receipt.{Receipt}
use Rattle.session_core.specs.declared.rover_state.RoverState.{RoverState}
use Rattle.session_core.specs.declared.session.Session.{Session}
use Rattle.session_core.specs.States.{rover_state}
use Rattle.session_core.specs.Beginnings.{bare_opening}
use Rattle.session_model.specs.Called.{is_halt}
use Rattle.session_model.specs.Judged.{Opening, sends_head, relays, bare_source, bare_rover}
use Rattle.session_model.specs.Run.{Histories}
use Rattle.session_core.specs.Standing.{Follows}
use Rattle.caster_replay.specs.declared.run_connection.Act.{Act}
use Rattle.caster_replay.specs.declared.run_connection.Act.TheVariants as acts
use Rattle.caster_replay.specs.declared.run_connection.RunConnection.{RunConnection}
use Rattle.caster_replay.specs.declared.run_connection.State.{State}
use Rattle.caster_replay.specs.declared.run_connection.State.TheVariants.{Open, Closed}
use Rattle.caster_replay.specs.declared.opening.Way.{Way}
use Rattle.caster_replay.specs.declared.opening.Way.TheVariants as ways
use Rattle.caster_replay.specs.Calls.{Opens, Feeds, TakesTurn, Closes}
use Rattle.caster_replay.specs.Lives.{Live, live_of, lives_in, place_of}

-- ---- what may happen to it

-- its session waits to be closed
abbrev pub is_ended_at : State → Bool
is_ended_at (Open session) = is_some session.ended
is_ended_at (Closed receipt) = false

-- it goes on
abbrev pub is_open_at : State → Bool
is_open_at (Open session) = true
is_open_at (Closed receipt) = false

-- where it stands, of a rover that goes on and has a segment
abbrev pub rover_at : State → Option RoverState
rover_at (Open session) = rover_state session
rover_at (Closed receipt) = None

-- a rover that stands so has frames to read, over what these mountpoints published
abbrev pub is_behind_by : List (History RingCall) → Option RoverState → Bool
is_behind_by rings None = false
is_behind_by rings (Some rover) =
    nat_lt rover.next (length (state_of (history_at rings rover.mount)).published)

-- it goes on, and has frames to read
abbrev pub is_behind_at : List (History RingCall) → State → Bool
is_behind_at rings (Open session) = is_behind_by rings (rover_state session)
is_behind_at rings (Closed receipt) = false

-- it may be given so many more bytes, or a turn
abbrev pub MayGoOn : Config → Histories → ℕ → State → Type 0
MayGoOn c now more (Open session) = (session.ended ≡ None) × Follows c session now more
MayGoOn c now more (Closed receipt) = ⊤

abbrev pub MayBeClosed : Config → Histories → State → Type 0
MayBeClosed c now (Open session) = Follows c session now 0
MayBeClosed c now (Closed receipt) = ⊤

-- this may happen to it
abbrev pub MayAct : Config → Histories → Act → State → Type 0
MayAct c now (acts.In text) state = MayGoOn c now (length text.now) state
MayAct c now (acts.Turn budget) state = MayGoOn c now 0 state
MayAct c now (acts.Close last) state = MayBeClosed c now state

-- ---- what becomes of it

-- by bytes that came in
abbrev pub FedAt : Config → Histories → Histories → State → State → List ℕ → List ℕ → List ℕ
    → Type 0
FedAt c old now (Open session) after text sent sent_after =
    (next : Session) × (after ≡ Open next) × (next.me ≡ session.me)
    × Feeds c old now session next text sent sent_after
FedAt c old now (Closed receipt) after text sent sent_after =
    (after ≡ Closed receipt) × (now ≡ old) × (sent_after ≡ sent)

-- by a turn, after which it goes on
abbrev pub TurnedAt : Config → Histories → Histories → State → State → ℕ → List ℕ → List ℕ
    → Type 0
TurnedAt c old now (Open session) after budget sent sent_after =
    (next : Session) × (after ≡ Open next) × (next.me ≡ session.me) × (next.ended ≡ None)
    × TakesTurn c old now session next budget sent sent_after
TurnedAt c old now (Closed receipt) after budget sent sent_after =
    (after ≡ Closed receipt) × (now ≡ old) × (sent_after ≡ sent)

-- as it is closed: its receipt is settled, and tells of no halt
abbrev pub ClosedAt : Config → Histories → Histories → Last → State → State → Type 0
ClosedAt c old now last (Open session) after =
    (receipt : Receipt) × (after ≡ Closed receipt) × (receipt.settled ≡ true)
    × (is_halt receipt.ending ≡ false) × Closes c old now session last receipt
ClosedAt c old now last (Closed receipt) after = (after ≡ Closed receipt) × (now ≡ old)

-- one that ended by itself is closed at once
abbrev pub SettledBy : Option Ending → Config → Histories → Histories → State → State → Type 0
SettledBy None c old now before after = (after ≡ before) × (now ≡ old)
SettledBy (Some end) c old now before after = ClosedAt c old now lasts.End before after

abbrev pub SettledAt : Config → Histories → Histories → State → State → Type 0
SettledAt c old now (Open session) after = SettledBy session.ended c old now (Open session) after
SettledAt c old now (Closed receipt) after = (after ≡ Closed receipt) × (now ≡ old)

-- by bytes that came in: where it ended by them, it was closed at once
pub record TakenIn (c : Config) (old now : Histories) (before after : State)
    (text sent sent_after : List ℕ) : Type 0 where
  pub mid : Histories
  pub between : State
  pub fed : FedAt c old mid before between text sent sent_after
  pub settled : SettledAt c mid now between after

-- by what happened to it
abbrev pub ActedAt : Config → Histories → Histories → Act → State → State → List ℕ → List ℕ
    → Type 0
ActedAt c old now (acts.In text) before after sent sent_after =
    TakenIn c old now before after text.now sent sent_after
ActedAt c old now (acts.Turn budget) before after sent sent_after =
    TurnedAt c old now before after budget sent sent_after
ActedAt c old now (acts.Close last) before after sent sent_after =
    ClosedAt c old now last before after × (sent_after ≡ sent)

-- so it becomes of the connection at this place, and the others stay
abbrev pub IsClosedAt : Config → Histories → Histories → Last → ℕ → RunConnection
    → List RunConnection → List RunConnection → Type 0
IsClosedAt c old now last place entry before after =
    (state : State) × ClosedAt c old now last entry.state state
    × (lives_in after ≡ set (lives_in before) place (live_of entry.number state entry.bytes.items))

-- ---- where it stands

-- the connection at this place has this number
abbrev pub HasNumberAt : List RunConnection → ℕ → ℕ → Type 0
HasNumberAt entries place number =
    (place < length entries)
    × ((d : RunConnection) → (slice_index_or entries place d).number ≡ number)

-- this is the connection of the number
pub record IsFoundAt (entries : List RunConnection) (number : ℕ) (entry : RunConnection)
    : Type 0 where
  pub there : HasNumberAt entries (place_of number (lives_in entries)) number
  pub is : entry ≡ slice_index_or entries (place_of number (lives_in entries)) entry

-- and no connection has it
abbrev pub IsMissing : List RunConnection → ℕ → Type 0
IsMissing entries number = HasNumberAt entries (place_of number (lives_in entries)) number → ⊥

-- so it is told where the connection of the number stands as a rover
abbrev pub IsRoverIn : List RunConnection → ℕ → Option RoverState → Type 0
IsRoverIn entries number rover =
    ((entry : RunConnection) × IsFoundAt entries number entry × (rover ≡ rover_at entry.state))
    ⊎ (IsMissing entries number × (rover ≡ None))

-- ---- how it opens

abbrev pub opening_of : Way → Opening
opening_of ways.Head = sends_head
opening_of (ways.Relay relay) = relays relay
opening_of (ways.Bare role mount) = bare_opening role mount.now

-- a relay is one of the configuration's
abbrev pub NamesRelay : Config → Opening → Type 0
NamesRelay c sends_head = ⊤
NamesRelay c (relays n) = n < length c.relay
NamesRelay c (bare_source mount) = ⊤
NamesRelay c (bare_rover mount) = ⊤

-- it just opened, with these bytes sent
abbrev pub HasOpened : Config → Histories → Histories → ℕ → Opening → State → List ℕ → Type 0
HasOpened c old now number opening (Open session) bytes =
    (session.me ≡ number) × Opens c old now session opening bytes
HasOpened c old now number opening (Closed receipt) bytes = ⊥

-- one that asks no other caster was sent nothing as it opened
abbrev pub IsUnsent : Opening → List ℕ → Type 0
IsUnsent sends_head bytes = bytes ≡ []
IsUnsent (relays n) bytes = ⊤
IsUnsent (bare_source mount) bytes = bytes ≡ []
IsUnsent (bare_rover mount) bytes = bytes ≡ []

-- ---- at the end

abbrev pub IsOverAt : State → Type 0
IsOverAt (Open session) = ⊥
IsOverAt (Closed receipt) = ⊤

abbrev pub AreOver : List Live → Type 0
AreOver lives = All (λ (live : Live). IsOverAt live.state) lives
