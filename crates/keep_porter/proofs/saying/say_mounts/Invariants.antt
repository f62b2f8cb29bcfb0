-- The mountpoints so far were found, and their lines were put.
use Rattle.caster_press.specs.Places.{IsSamePlace}
use Rattle.rover_session.specs.Places.{StayAtRings}
use Rattle.keep_porter.proofs.SayLemmas.{SaidAt}
use Rattle.keep_porter.proofs.saying.say_mounts.Given as goal

abbrev pub invariant-loop-mount : goal.invariant-loop-mount
invariant-loop-mount g l = let told = g.P.AtPress.told in record {
  stay : StayAtRings g.T.Turns l.fn.rings l.rings;
  same : IsSamePlace (told l.fn.place) (told l.place);
  said : SaidAt g.T.Turns l.fn.rings l.rings l.me l.config l.by l.mount (told l.fn.place).seen (told l.place).seen;
}
