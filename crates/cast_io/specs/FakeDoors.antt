-- What contracts see of a door in memory.
use Rattle.std.specs.Prelude.{ℕ, ◌≡◌, ◌==◌, ◌+◌, ◌-◌, ◌&&◌, if◌then◌else◌, List, [], ◌∷◌, map, Bool, true, false, Option, None, Some, option_map}
use Rattle.cast_io.specs.declared.door.Arrived.{Arrived}
use Rattle.cast_io.specs.declared.door.Arrived.TheVariants as arrived
use Rattle.cast_io.specs.Causes.{next_count}
use Rattle.cast_io.specs.Told.{DoorTold}
use Rattle.cast_io.specs.Doors.{accept_failed, TakesArrival}
use Rattle.cast_io.specs.Returns.{with_return}
use Rattle.cast_io.specs.FakeLinks.{LinkState, link_told, is_new_link}

-- a door in memory: the arrivals to come, where `None` is an idle one, the links that came back
-- while they are told, how many links it gave that did not come back, the numbers of the accepts
-- that are to fail, and how many were made and failed
pub record DoorState : Type 0 where
  pub left : List (Option LinkState)
  pub back : Option (List LinkState)
  pub owed : ℕ
  pub fails : List ℕ
  pub calls : ℕ
  pub faults : ℕ

-- a door in memory tells all that a door can tell
abbrev pub door_told : DoorState → DoorTold
door_told door = record {
  left = Some (map (option_map link_told) door.left);
  back = option_map (map link_told) door.back;
  faults = door.faults;
}

-- an arrival that is to come is idle, or a link that is as it was made
abbrev pub is_new_arrival : Option LinkState → Bool
is_new_arrival None = true
is_new_arrival (Some link) = is_new_link link

-- no link came back, and the list is told
abbrev pub none_back : Option (List LinkState) → Bool
none_back None = false
none_back (Some []) = true
none_back (Some (link ∷ links)) = false

-- the door is as it was made
abbrev pub is_new_door : DoorState → Bool
is_new_door door = none_back door.back && (door.faults == 0)

-- a door that is to be given these arrivals and has not been called
pub record IsDoorOf (door : DoorState) (arrivals : List (Option LinkState)) (fails : List ℕ)
    : Type 0 where
  pub left : door.left ≡ arrivals
  pub back : door.back ≡ Some []
  pub owed : door.owed ≡ 0
  pub fails_are : door.fails ≡ fails
  pub calls : door.calls ≡ 0
  pub faults : door.faults ≡ 0

-- how many links the answer gave
abbrev pub links_given : {L : Type 0} → Arrived L → ℕ
links_given (arrived.Link link) = 1
links_given arrived.Idle = 0
links_given arrived.Failed = 0

-- an accept took an arrival, and counted one call, the link that it gave, and its fault where it
-- failed
pub record IsAccepted (old new : DoorState) (result : Arrived LinkState) : Type 0 where
  pub left : TakesArrival (λ link. link) result old.left new.left
  pub back : new.back ≡ old.back
  pub owed : new.owed ≡ old.owed + links_given result
  pub fails : new.fails ≡ old.fails
  pub calls : new.calls ≡ next_count old.calls
  pub faults : new.faults ≡ (if accept_failed result then next_count old.faults else old.faults)

-- a link came back, and nothing else changed
pub record IsLinkBack (old new : DoorState) (link : LinkState) : Type 0 where
  pub back : new.back ≡ with_return old.owed old.back link
  pub owed : new.owed ≡ old.owed - 1
  pub left : new.left ≡ old.left
  pub fails : new.fails ≡ old.fails
  pub calls : new.calls ≡ old.calls
  pub faults : new.faults ≡ old.faults
