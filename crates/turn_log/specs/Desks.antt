-- What callers say of a desk.
use Rattle.turn_log.specs.declared.object.Played.{Ghosts}
use Rattle.turn_log.specs.declared.desk.Desk.{Desk}
use Rattle.turn_log.specs.History.{History}
use Rattle.turn_log.specs.Past.{so_far}

module _ {V C A R S : Type 0} {g : Ghosts V C A R S} where
  -- the history of a desk
  abbrev pub desk_seen : Desk V C A R S g → History C
  desk_seen desk = so_far desk.past

  -- what no call changes of the object at the desk
  abbrev pub desk_shape : Desk V C A R S g → S
  desk_shape desk = g.shape desk.value
