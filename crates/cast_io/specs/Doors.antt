-- What the calls of a door do to what it tells.
use Rattle.std.specs.Prelude.{◌≡◌, ◌≤◌, List, [], ◌∷◌, Option, None, Some, Bool, true, false, IsTrue, ⊤, ◌⊎◌}
use Rattle.cast_io.specs.declared.door.Arrived.{Arrived}
use Rattle.cast_io.specs.declared.door.Arrived.TheVariants as arrived
use Rattle.cast_io.specs.Causes.{Rose}
use Rattle.cast_io.specs.Told.{LinkTold, DoorTold, StillTold, Grew}
use Rattle.cast_io.specs.Links.{IsNewLink}

-- the accept failed
abbrev pub accept_failed : {L : Type 0} → Arrived L → Bool
accept_failed (arrived.Link link) = false
accept_failed arrived.Idle = false
accept_failed arrived.Failed = true

-- An accept takes the first arrival to come, a link or an idle one. With none to come it finds
-- nothing, and a failed one takes nothing. Links are seen through what they tell.
abbrev pub TakesArrival : {L X : Type 0} → (L → X) → Arrived L → List (Option X)
    → List (Option X) → Type 0
TakesArrival told (arrived.Link link) old new = old ≡ Some (told link) ∷ new
TakesArrival told arrived.Idle old new = (old ≡ None ∷ new) ⊎ ((old ≡ []) × (new ≡ []))
TakesArrival told arrived.Failed old new = new ≡ old

-- a link that arrived is new
abbrev pub ArrivesNew : {L : Type 0} → (L → LinkTold) → Arrived L → Type 0
ArrivesNew told (arrived.Link link) = IsNewLink (told link)
ArrivesNew told arrived.Idle = ⊤
ArrivesNew told arrived.Failed = ⊤

-- an accept went from what the door told before it to what it tells after it; one that did not
-- fail leaves the count as it was
pub record HasAccepted {L : Type 0} (told : L → LinkTold) (old new : DoorTold) (result : Arrived L)
    : Type 0 where
  pub left : StillTold (TakesArrival told result) old.left new.left
  pub fresh : ArrivesNew told result
  pub back : new.back ≡ old.back
  pub later : old.faults ≤ new.faults
  pub failed : IsTrue (accept_failed result) → Rose old.faults new.faults
  pub unharmed : accept_failed result ≡ false → new.faults ≡ old.faults

-- the door took a link back, which is told as it is then
pub record HasHungUp (link : LinkTold) (old new : DoorTold) : Type 0 where
  pub left : new.left ≡ old.left
  pub back : Grew old.back new.back (link ∷ [])
  pub faults : new.faults ≡ old.faults

-- a door that was just given: no link came back, and it had no fault
pub record IsNewDoor (told : DoorTold) : Type 0 where
  pub back : (list : List LinkTold) → told.back ≡ Some list → list ≡ []
  pub faults : told.faults ≡ 0
