-- All answers so far were given.
use Rattle.caster_press.specs.Places.{IsSamePlace}
use Rattle.rover_session.specs.Places.{StayAtRings}
use Rattle.keep_porter.proofs.SayLemmas.{GivenAt}
use Rattle.keep_porter.proofs.saying.wait_at.Given as goal

abbrev pub invariant-loop : goal.invariant-loop
invariant-loop g l = let told = g.P.AtPress.told in record {
  can : (goal.iterator-loop g).can_next l.iterator';
  finite : (goal.iterator-loop g).is_finite l.iterator';
  stay : StayAtRings g.T.Turns l.fn.rings l.rings;
  same : IsSamePlace (told l.fn.place) (told l.place);
  given : GivenAt g.T.Turns l.fn.rings l.rings l.me (g.C.Console.told l.fn.console) (g.C.Console.told l.console)
      l.config l.by (told l.fn.place).seen (told l.place).seen;
}
