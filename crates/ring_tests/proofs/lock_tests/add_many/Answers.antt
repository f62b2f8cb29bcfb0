-- A turn leaves the seat where it is.
use Rattle.std.proofs.Common.{IsTrue, sym, ◌∙◌, ap, subst}
use Rattle.ring_tests.proofs.lock_tests.add_many.Goals as goal

pub loop-preserved : goal.loop-preserved
loop-preserved g c = record {
  speaks = subst IsTrue (sym (ap (λ f. f c.args.me) c.turn-taken.ensures.same.1)) c.loop.invariant.speaks;
  home = c.turn-taken.ensures.same.4 ∙ c.loop.invariant.home;
}
