-- What contracts say of places at the rings of several mountpoints. What the places are asked for
-- is given as T.Turns.
use Rattle.std.specs.Prelude.{List, map}
use Rattle.turn_log.specs.declared.place.Turns.{Ghosts}
use Rattle.mount_ring.specs.declared.ring.Ring.{Ring}
use Rattle.mount_ring.specs.declared.call.RingCall.{RingCall}
use Rattle.mount_ring.specs.declared.call.RingAnswer.{RingAnswer}
use Rattle.mount_ring.specs.declared.outbox.Outbox.{Outbox}
use Rattle.mount_ring.specs.declared.shape.RingShape.{RingShape}
use Rattle.session_calls.specs.Rings.{AllLater, SamePlaces}

-- what places of this type tell, at a ring
abbrev pub AtRing : Type 0 → Type 1
AtRing P = Ghosts P Ring RingCall RingAnswer Outbox RingShape

-- Places stay themselves: they are at the same rings, speak for the same callers, and may lack
-- memory and are alone as before. They have seen more at most, and are worn no less.
pub record StayAtRings {P : Type 0} (ring : AtRing P) (old now : List P) : Type 0 where
  pub same : SamePlaces ring.shape ring.speaks ring.may_lack ring.alone ring.home old now
  pub worn : AllLater (map ring.worn old) (map ring.worn now)
