-- One pass after another is dealt.
use Rattle.std.proofs.Common.{◌≡◌, ⊎_elim, [], ◌∷◌, length, sym, ◌∙◌, ap, subst, arith, length-append}
use lib.ListN.{get_elem?}
use Rattle.turn_log.specs.LockSteps.{after_deal}
use Rattle.turn_log.specs.Lock.{pass_number, pass_seen, pass_worn, IsPassOf}
use Rattle.turn_log.proofs.LockLists.{at_end}
use Rattle.turn_log.proofs.LockPasses.{left_over}
use Rattle.turn_log.proofs.lock.parts.Turn.deal_all.Goals as goal

pub deal-requires-clause-left : goal.deal-requires-clause-left
deal-requires-clause-left g c =
    let left = c.loop-number.invariant.left in
    let one = left_over _ _ left.0 _ left.2 (omega (arith, left.1, c.loop-number-test.true)) in
    (one.0, one.2)

pub loop-number-preserved : goal.loop-number-preserved
loop-number-preserved g c =
    let was = c.loop-number.invariant in
    let left = was.left in
    let one = left_over _ _ left.0 _ left.2 (omega (arith, left.1, c.loop-number-test.true)) in
    record {
      table = c.deal.ensures.same.0 ∙ was.table;
      left = (
        one.0,
        omega (arith, left.1, one.1),
        c.deal.ensures.same.1 ∙ ap (λ view. (after_deal view, [])) one.2,
      );
      long = let e = ap length c.push_reserved.ensures.items in
          omega (arith, e, was.long, length-append c.loop-number.list.items (c.deal.result ∷ []));
      spare = omega (arith, c.push_reserved.ensures.len, was.spare);
      room = omega (arith, c.push_reserved.ensures.capacity, was.room);
      each = λ i pass at. ⊎_elim
          (λ before. was.each i pass before)
          (λ last. subst (λ p. (pass_number p ≡ i) × (pass_seen p ≡ []) × (pass_worn p ≡ 0)
          × IsPassOf p c.args.self.now) last.1 (
            c.deal.ensures.pass.0 ∙ sym was.long ∙ sym last.0,
            c.deal.ensures.pass.1,
            c.deal.ensures.pass.2,
            c.deal.ensures.pass.3,
          ))
          (at_end c.loop-number.list.items c.deal.result pass i
          (ap (λ l. get_elem? l i) (sym c.push_reserved.ensures.items) ∙ at));
    }
