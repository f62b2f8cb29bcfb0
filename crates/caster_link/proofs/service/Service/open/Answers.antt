-- A session that was opened has all that it asks still to be written.
use Rattle.std.proofs.Common.{Bool, refl, sym, subst, arith, []}
use Rattle.session_model.specs.Judged.{waiting}
use Rattle.session_model.specs.Owed.{closing}
use Rattle.session_core.specs.Closed.{IsSettled}
use Rattle.caster_link.proofs.ClosedLemmas.{unopened}
use Rattle.caster_link.proofs.ServingLemmas.{begins, begins_serving}
use Rattle.caster_link.proofs.service.Service.open.Goals as goal

pub returns-clause-opened : goal.returns-clause-opened
returns-clause-opened c = record {
  goes_on = c.in-Ok.ensures.goes_on;
  restless = refl;
  served = λ histories told. record {
    serving = begins_serving _ _ _ _ _ told _ c.in-Ok.ensures.goes_on
        (begins _ _ _ _ _ _ c.in-Ok.ensures.goes_on c.in-Ok.ensures.me (c.in-Ok.ensures.stands histories)
        c.in-Ok.ensures.asks);
    few = omega arith;
    size = refl;
  };
}

pub returns-in_default-clause-unopened : goal.returns-in_default-clause-unopened
returns-in_default-clause-unopened c = record {
  ending = c.receipt_without_session.ensures.receipt.ending;
  settled = c.receipt_without_session.ensures.settled;
  closed = λ histories told. unopened _ _ _ histories told _
      (subst (λ (b : Bool). IsSettled b (closing waiting []) []) (sym c.receipt_without_session.ensures.settled) refl)
      c.receipt_without_session.ensures.receipt;
}
