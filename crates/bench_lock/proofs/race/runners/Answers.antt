use Rattle.std.proofs.Common.{◌≡◌, ◌∙◌, ap, sym, length, arith, length-append, [], ◌∷◌}
use lib.ListN.{get_elem?}
use Rattle.turn_log.specs.Lock.{IsPassOf}
use Rattle.bench_lock.proofs.Places.{at_either, at_front, at_last, one_longer}
use Rattle.bench_lock.proofs.race.runners.Goals as goal

pub invariant_of-push : goal.invariant_of-push
invariant_of-push c =
    let count : length c.pop.new.self.items ≡ c.len-me.result = search in record {
      numbered = (c.loop-pass.invariant.here (length c.pop.new.self.items) c.in-Some.pass
          (ap (λ l. get_elem? l (length c.pop.new.self.items)) c.in-Some.ensures.items
          ∙ at_last c.pop.new.self.items c.in-Some.pass)).0
          ∙ count;
    }

pub loop-pass-smaller : goal.loop-pass-smaller
loop-pass-smaller c = omega (
  arith,
  ap length c.in-Some.ensures.items,
  length-append c.pop.new.self.items
      (c.in-Some.pass ∷ []),
)

pub loop-pass-preserved : goal.loop-pass-preserved
loop-pass-preserved c = record {
  few = omega (
    arith,
    c.loop-pass.invariant.few,
    ap length c.in-Some.ensures.items,
    length-append c.pop.new.self.items
        (c.in-Some.pass ∷ []),
  );
  all = omega (
    arith,
    c.loop-pass.invariant.all,
    one_longer _ _ _ c.in-Some.ensures.items,
    one_longer _ _ _ c.in_ok-push.ensures.items,
  );
  here = λ i pass at. c.loop-pass.invariant.here i pass
      (ap (λ l. get_elem? l i) c.in-Some.ensures.items ∙ at_front c.pop.new.self.items c.in-Some.pass pass i at);
  each = λ i runner at. at_either (λ r. IsPassOf r.pass c.args.turn.now) c.loop-pass.list.items _
      c.loop-pass.invariant.each
      (c.loop-pass.invariant.here (length c.pop.new.self.items) c.in-Some.pass
      (ap (λ l. get_elem? l (length c.pop.new.self.items)) c.in-Some.ensures.items
      ∙ at_last c.pop.new.self.items c.in-Some.pass)).1
      i runner (ap (λ l. get_elem? l i) (sym c.in_ok-push.ensures.items) ∙ at);
}
