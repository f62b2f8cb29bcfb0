-- What contracts see of a street in memory.
use Rattle.std.specs.Prelude.{ℕ, ◌≡◌, ◌||◌, ◌+◌, ◌↔◌, nat_lt, if◌then◌else◌, List, [], length, map, drop, Bool, Option, Some, option_map, Result, Ok, Err, IsErrOf, IsSome, IsTrue}
use Rattle.cast_io.specs.declared.steps.Asked.{Asked}
use Rattle.cast_io.specs.declared.street.StreetFault.{StreetFault}
use Rattle.cast_io.specs.declared.street.StreetFault.TheVariants as refusals
use Rattle.cast_io.specs.Causes.{next_count}
use Rattle.cast_io.specs.Fakes.{fails_next}
use Rattle.cast_io.specs.Told.{StreetTold}
use Rattle.cast_io.specs.FakeLinks.{LinkState, link_told}
use Rattle.cast_io.specs.FakeDoors.{DoorState, door_told}
use Rattle.cast_io.specs.FakeYards.{YardState, IsYardOf}

-- a street in memory: the doors and links to come, what it was asked while that is told, the doors
-- and links that came back while they are told, how many of each it gave that did not come back,
-- the numbers of the calls that are to fail, how many calls were made, its count of faults, its
-- count of links that came back with faults, and its gates and notes
pub record StreetState : Type 0 where
  pub doors : List DoorState
  pub links : List LinkState
  pub asked : Option (List Asked)
  pub doors_back : Option (List DoorState)
  pub doors_owed : ℕ
  pub links_back : Option (List LinkState)
  pub links_owed : ℕ
  pub fails : List ℕ
  pub calls : ℕ
  pub faults : ℕ
  pub link_faults : ℕ
  pub yard : YardState

-- a street in memory tells all that a street can tell
abbrev pub street_told : StreetState → StreetTold
street_told street = record {
  asked = street.asked;
  doors = option_map (map door_told) street.doors_back;
  links = option_map (map link_told) street.links_back;
  faults = street.faults;
  link_faults = street.link_faults;
}

-- a street that is to give these doors and links, and no gates and notes, and has not been called
pub record IsStreetOf (street : StreetState) (doors : List DoorState) (links : List LinkState)
    (fails : List ℕ) : Type 0 where
  pub doors_are : street.doors ≡ doors
  pub links_are : street.links ≡ links
  pub asked : street.asked ≡ Some []
  pub doors_back : street.doors_back ≡ Some []
  pub doors_owed : street.doors_owed ≡ 0
  pub links_back : street.links_back ≡ Some []
  pub links_owed : street.links_owed ≡ 0
  pub fails_are : street.fails ≡ fails
  pub calls : street.calls ≡ 0
  pub faults : street.faults ≡ 0
  pub link_faults : street.link_faults ≡ 0
  pub yard : IsYardOf street.yard [] [] []

-- the next open of so many doors fails: it is told to, or too few doors are left
abbrev pub open_fails : StreetState → ℕ → Bool
open_fails street count =
    fails_next street.calls street.fails || nat_lt (length street.doors) count

-- the next dial fails: it is told to, or no link is left
abbrev pub dial_fails : StreetState → Bool
dial_fails street = fails_next street.calls street.fails || nat_lt (length street.links) 1

-- an answer counts a fault where it was refused
abbrev pub faults_by : (ok : Bool) → ℕ → ℕ
faults_by ok faults = if ok then faults else next_count faults

-- an answer of the street counts a fault where it failed, and not where there was no memory
abbrev pub faults_after_ask : {T : Type 0} → Result T StreetFault → ℕ → ℕ
faults_after_ask (Ok given) faults = faults
faults_after_ask (Err refusals.Failed) faults = next_count faults
faults_after_ask (Err refusals.Memory) faults = faults

-- A call of the street fails where it is to fail, and a failure is counted, as far as what was
-- asked is told.
pub record IsStreetCall {X : Type 0} (fails : Bool) (old new : StreetState)
    (result : Result X StreetFault) : Type 0 where
  pub exact : IsErrOf result refusals.Failed ↔ IsTrue fails
  pub unharmed : IsSome new.asked → new.faults ≡ faults_after_ask result old.faults

-- one more call was counted, and nothing changed that neither an open nor a dial changes
pub record IsAskOf (old new : StreetState) : Type 0 where
  pub doors_back : new.doors_back ≡ old.doors_back
  pub links_back : new.links_back ≡ old.links_back
  pub fails : new.fails ≡ old.fails
  pub calls : new.calls ≡ next_count old.calls
  pub link_faults : new.link_faults ≡ old.link_faults
  pub yard : new.yard ≡ old.yard

-- an open that was answered gave so many of the doors to come; nothing else changed
pub record GaveDoors (ok : Bool) (count : ℕ) (old new : StreetState) : Type 0 where
  pub doors : new.doors ≡ (if ok then drop count old.doors else old.doors)
  pub owed : new.doors_owed ≡ (if ok then old.doors_owed + count else old.doors_owed)
  pub links : new.links ≡ old.links
  pub links_owed : new.links_owed ≡ old.links_owed
  pub same : IsAskOf old new

-- a dial that was answered gave the next link; nothing else changed
pub record GaveLink (ok : Bool) (old new : StreetState) : Type 0 where
  pub links : new.links ≡ (if ok then drop 1 old.links else old.links)
  pub owed : new.links_owed ≡ (if ok then old.links_owed + 1 else old.links_owed)
  pub doors : new.doors ≡ old.doors
  pub doors_owed : new.doors_owed ≡ old.doors_owed
  pub same : IsAskOf old new
