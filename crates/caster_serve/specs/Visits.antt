-- What a door gave while its worker went on.
use Rattle.std.specs.Prelude.{◌≡◌, List, [], ◌∷◌}
use Rattle.cast_io.specs.declared.door.Arrived.{Arrived}
use Rattle.cast_io.specs.declared.door.Arrived.TheVariants as arrived
use Rattle.cast_io.specs.Doors.{HasAccepted, HasHungUp}
use Rattle.cast_io.specs.Told.{LinkTold, DoorTold}

-- what an accept found, links being seen through what they tell; and what the door told then, and
-- once the worker was ready for the next accept
pub record Visit : Type 0 where
  pub came : Arrived LinkTold
  pub opened : DoorTold
  pub left : DoorTold

abbrev pub HasCome : Arrived LinkTold → DoorTold → DoorTold → Type 0
HasCome came old new = HasAccepted (λ (link : LinkTold). link) old new came

-- A link that came was hung up, and where none came the door tells the same. Behind an accept that
-- failed no worker goes on.
abbrev pub GoesOnBy : Arrived LinkTold → DoorTold → DoorTold → Type 0
GoesOnBy (arrived.Link link) opened left = (now : LinkTold) × HasHungUp now opened left
GoesOnBy arrived.Idle opened left = left ≡ opened
GoesOnBy arrived.Failed opened left = ⊥

-- these were all accepts of the door, one after the other, and the worker went on behind each
abbrev pub WentOn : List Visit → DoorTold → DoorTold → Type 0
WentOn [] before now = now ≡ before
WentOn (visit ∷ visits) before now =
    HasCome visit.came before visit.opened × GoesOnBy visit.came visit.opened visit.left
    × WentOn visits visit.left now
