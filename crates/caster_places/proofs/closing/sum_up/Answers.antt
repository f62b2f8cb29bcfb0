-- The sums of one account more.
use Rattle.std.proofs.Common.{arith}
use Rattle.caster_places.proofs.TotalLemmas.{summed_more}
use Rattle.caster_places.proofs.closing.sum_up.Goals as goal

pub loop-number-preserved : goal.loop-number-preserved
loop-number-preserved c = record {
  so_far = λ h keeps.
      summed_more h c.loop-number.number c.args.accounts.now c.args.sums.now.items c.loop-number.sums.items
      c.push_reserved.new.self.items c.total.result (omega (arith, c.loop-number-test.true))
      (c.loop-number.invariant.so_far h keeps) c.push_reserved.ensures.items (c.total.ensures h.book keeps);
  many = omega (arith, c.loop-number.invariant.many, c.push_reserved.ensures.len);
  wide = omega (arith, c.loop-number.invariant.wide, c.push_reserved.ensures.capacity);
}
