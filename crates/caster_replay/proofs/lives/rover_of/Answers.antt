use Rattle.std.proofs.Common.{refl, inl, inr}
use Rattle.caster_replay.proofs.lives.rover_of.Goals as goal

pub returns-in-Some : goal.returns-in-Some
returns-in-Some c = inl (c.in-Some.entry.now, c.in-Some.ensures.found, c.rover.ensures)

pub returns-in-None : goal.returns-in-None
returns-in-None c = inr (c.in-None.ensures.none, refl)
