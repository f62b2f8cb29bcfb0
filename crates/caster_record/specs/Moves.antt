-- What a recording caster did, one link after the other, and the events of it.
use Rattle.std.specs.Prelude.{◌≡◌, ℕ, ◌==◌, ◌&&◌, Bool, true, false, if◌then◌else◌, List, [], ◌∷◌, ◌++◌, Option}
use Rattle.std.specs.List.{flat_map, list_any}
use Rattle.cast_io.specs.declared.door.Arrived.TheVariants as arrived
use Rattle.cast_io.specs.declared.steps.Step.{Step}
use Rattle.cast_io.specs.declared.steps.Step.TheVariants as took
use Rattle.cast_io.specs.Doors.{TakesArrival}
use Rattle.cast_io.specs.Told.{LinkTold}
use Rattle.session_script.specs.declared.Event.{Event}
use Rattle.session_script.specs.declared.Event.TheVariants as events
use Rattle.cast_config.specs.declared.config.Config.{Config}
use Rattle.caster_replay.specs.Going.{GoesOn, IsBehind}

-- The door was asked, and a link came under this number, or nobody; or the link of this number was
-- read, with this answer, and what its connection was then sent was written to it, whole or torn.
pub data Move : Type 0 where
  came : ℕ → Move
  nobody : Move
  served : ℕ → Step → Bool → Move

-- ---- the events of a move

-- what a read answered, as an event of the connection
abbrev pub heard_by : ℕ → Step → List Event
heard_by k (took.Bytes bytes) = events.In k bytes ∷ []
heard_by k took.Idle = []
heard_by k took.End = events.End k ∷ []
heard_by k took.ReadFailed = events.Break k ∷ []
heard_by k took.WriteFailed = []

-- a turn of 16 frames, where it has frames to read
abbrev pub turn_if : ℕ → (waiting : Bool) → List Event
turn_if k true = events.Turn k 16 ∷ []
turn_if k false = []

-- a break, where a write was torn of a connection that goes on
abbrev pub break_if : ℕ → (torn : Bool) → List Event
break_if k true = events.Break k ∷ []
break_if k false = []

-- So a link was served: its connection went on; the answer of the read happened, and then a turn,
-- exactly where it goes on and has frames to read; and it broke where a write failed while it went
-- on. Nothing else happened.
pub record Served (c : Config) (k : ℕ) (answer : Step) (torn : Bool) (before after : List Event)
    : Type 0 where
  pub went_on : GoesOn c before k true
  pub behind : Bool
  pub is_behind : IsBehind c (before ++ heard_by k answer) k behind
  pub going : Bool
  pub is_going : GoesOn c ((before ++ heard_by k answer) ++ turn_if k behind) k going
  pub events : after
      ≡ ((before ++ heard_by k answer) ++ turn_if k behind) ++ break_if k (torn && going)

abbrev pub Makes : Config → Move → List Event → List Event → Type 0
Makes c (came k) before after = after ≡ before ++ events.Open k ∷ []
Makes c nobody before after = after ≡ before
Makes c (served k answer torn) before after = Served c k answer torn before after

-- these moves, one after the other
abbrev pub MakeAll : Config → List Move → List Event → List Event → Type 0
MakeAll c [] before after = after ≡ before
MakeAll c (move ∷ moves) before after =
    (between : List Event) × Makes c move before between × MakeAll c moves between after

-- ---- what the moves took of the arrivals to come at the door

-- A move took this of the arrivals to come: a link where one came, and an idle one where nobody
-- did, or nothing where none was to come. No other move asks the door.
abbrev pub Asks : Move → List (Option LinkTold) → List (Option LinkTold) → Type 0
Asks (came k) old new =
    (link : LinkTold) × TakesArrival (λ (told : LinkTold). told) (arrived.Link link) old new
Asks nobody old new = TakesArrival (λ (told : LinkTold). told) arrived.Idle old new
Asks (served k answer torn) old new = new ≡ old

-- these moves, one after the other
abbrev pub AskAll : List Move → List (Option LinkTold) → List (Option LinkTold) → Type 0
AskAll [] old new = new ≡ old
AskAll (move ∷ moves) old new =
    (between : List (Option LinkTold)) × Asks move old between × AskAll moves between new

-- ---- what the link of a number took

abbrev pub torn_step : (torn : Bool) → List Step
torn_step true = took.WriteFailed ∷ []
torn_step false = []

-- its reads, each with the write behind it where that failed
abbrev pub taken_by : ℕ → Move → List Step
taken_by k (came n) = []
taken_by k nobody = []
taken_by k (served n answer torn) = if n == k then answer ∷ torn_step torn else []

abbrev pub taken_in : ℕ → List Move → List Step
taken_in k moves = flat_map (taken_by k) moves

-- a write that failed
abbrev pub is_torn : Step → Bool
is_torn (took.Bytes bytes) = false
is_torn took.Idle = false
is_torn took.End = false
is_torn took.ReadFailed = false
is_torn took.WriteFailed = true

abbrev pub has_torn : ℕ → List Move → Bool
has_torn k moves = list_any is_torn (taken_in k moves)

-- all bytes of the events of a connection
abbrev pub brought_by : ℕ → Event → List ℕ
brought_by k (events.In n bytes) = if n == k then bytes else []
brought_by k event = []

abbrev pub brought_in : ℕ → List Event → List ℕ
brought_in k script = flat_map (brought_by k) script
