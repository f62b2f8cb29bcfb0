-- What a recorded run keeps of its connections: the session of one that goes on, and the receipt of
-- one that is over, with all bytes that it was sent.
use Rattle.std.specs.Prelude.{◌≡◌, ℕ, false, nat_lt, List, [], ◌∷◌, map, reverse, None, unwrap_or}
use Rattle.std.specs.List.{prefix_len}
use Rattle.rover_session.specs.Made.{segments_after}
use Rattle.session_script.specs.declared.Event.{Event}
use Rattle.session_script.specs.declared.Event.TheVariants as events
use Rattle.cast_config.specs.declared.config.Config.{Config}
use Rattle.session_model.specs.declared.ending.Last.TheVariants as lasts
use Rattle.session_model.specs.declared.report.Connection.{Connection}
use Rattle.session_model.specs.declared.report.Receipt.{Receipt}
use Rattle.session_core.specs.declared.session.Session.{Session}
use Rattle.session_model.specs.Headings.{Heading}
use Rattle.session_model.specs.Owed.{came_to}
use Rattle.session_model.specs.Endings.{goes_on}
use Rattle.session_model.specs.Replies.{sent_by}
use Rattle.session_model.specs.Reports.{receipt_of}
use Rattle.session_model.specs.Run.{Histories, Connected, judged_of}
use Rattle.session_model.specs.Called.{OthersCalled}
use Rattle.session_core.specs.Standing.{Stands}
use Rattle.caster_replay.specs.declared.run_connection.RunConnection.{RunConnection}
use Rattle.caster_replay.specs.declared.run_connection.State.{State}
use Rattle.caster_replay.specs.declared.run_connection.State.TheVariants.{Open, Closed}

-- ---- of a connection

-- what it was sent, as far as these histories tell
abbrev pub sent_to : Config → Heading → Histories → Connected → List ℕ
sent_to c heading now d =
    sent_by c now.rings d.opening (came_to (judged_of c heading d) d.steps)
    (reverse (segments_after [] d.steps))

-- it goes on: the session stands for it, and the bytes are those that it was sent
pub record IsGoing (c : Config) (heading : Heading) (now : Histories) (d : Connected)
    (session : Session) (bytes : List ℕ) : Type 0 where
  pub me : session.me ≡ d.number
  pub goes : session.ended ≡ None
  pub uncut : d.closed ≡ None
  pub histories : Histories
  pub stands : Stands c session d.opening d.text d.steps histories bytes
  pub others : OthersCalled histories now d.number
  pub bytes_are : bytes ≡ sent_to c heading now d

-- it is over: the receipt and the bytes are what is told of it
pub record IsOver (c : Config) (heading : Heading) (now : Histories) (d : Connected)
    (receipt : Receipt) (bytes : List ℕ) : Type 0 where
  pub stops : goes_on (judged_of c heading d) d.steps d.closed ≡ false
  pub receipt_is : receipt
      ≡ receipt_of (judged_of c heading d) d.steps (unwrap_or d.closed lasts.End)
  pub bytes_are : bytes ≡ sent_to c heading now d

-- so it is, by whether it goes on
abbrev pub IsKept : Config → Heading → Histories → Connected → State → List ℕ → Type 0
IsKept c heading now d (Open session) bytes = IsGoing c heading now d session bytes
IsKept c heading now d (Closed receipt) bytes = IsOver c heading now d receipt bytes

-- ---- of all of them

-- its number, its session or what it came to, and the bytes that it was sent
pub record Live : Type 0 where
  pub number : ℕ
  pub state : State
  pub bytes : List ℕ

-- it is made of these
abbrev pub live_of : ℕ → State → List ℕ → Live
live_of number state bytes = record { number = number; state = state; bytes = bytes }

-- what the program keeps, as such
abbrev pub live_in : RunConnection → Live
live_in entry = live_of entry.number entry.state entry.bytes.items

abbrev pub lives_in : List RunConnection → List Live
lives_in entries = map live_in entries

-- it is kept of this connection
abbrev pub IsLive : Config → (ℕ → Heading) → Histories → Connected → Live → Type 0
IsLive c headings now d live =
    (live.number ≡ d.number) × IsKept c (headings d.number) now d live.state live.bytes

-- the place of a number among what is kept
abbrev pub place_of : ℕ → List Live → ℕ
place_of number lives = prefix_len (λ (live : Live). nat_lt live.number number) lives

-- ---- what is told at the end

-- the event by which a connection comes to its end
abbrev pub end_of : Live → Event
end_of live = events.End live.number

-- what is kept is told so
abbrev pub connection_of : ℕ → Receipt → List ℕ → Connection
connection_of number receipt bytes = record { number = number; receipt = receipt; bytes = bytes }

-- a connection that is over is told by its receipt
abbrev pub IsToldBy : State → ℕ → List ℕ → Connection → Type 0
IsToldBy (Open session) number bytes told = ⊥
IsToldBy (Closed receipt) number bytes told = told ≡ connection_of number receipt bytes

-- the connection is told so
abbrev pub IsTold : Live → Connection → Type 0
IsTold live told = IsToldBy live.state live.number live.bytes told

-- each of them is told, in order
abbrev pub AreTold : List Live → List Connection → Type 0
AreTold [] [] = Unit {0}
AreTold [] (told ∷ more) = ⊥
AreTold (live ∷ lives) [] = ⊥
AreTold (live ∷ lives) (told ∷ more) = IsTold live told × AreTold lives more
