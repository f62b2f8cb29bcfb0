-- A session leaves the seat where it is.
use Rattle.std.proofs.Common.{IsTrue, sym, ◌∙◌, ap, subst}
use Rattle.session_tests.proofs.book_lock_tests.visit_often.Goals as goal

pub loop-preserved : goal.loop-preserved
loop-preserved g c = record {
  speaks = subst IsTrue (sym (ap (λ f. f c.args.me) c.visit-left.ensures.same.1)) c.loop.invariant.speaks;
  home = c.visit-left.ensures.same.4 ∙ c.loop.invariant.home;
  shape = c.visit-left.ensures.same.0 ∙ c.loop.invariant.shape;
}

pub returns : goal.returns
returns g c =
    let shape = c.leave.ensures.shape in
    (c.leave.ensures.home ∙ c.loop.invariant.home, (shape.0, shape.1, shape.2 ∙ c.loop.invariant.shape))
