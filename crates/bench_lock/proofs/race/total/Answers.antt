use Rattle.std.proofs.Common.{◌<◌, ◌+◌, ◌-◌, ◌^◌, length, ap, ◌∙◌, arith, get_or}
use Rattle.std.specs.Prelude.{min}
use Rattle.bench_lock.proofs.SumLemmas.{sum_more}
use Rattle.bench_lock.proofs.race.total.Goals as goal

pub loop-count-preserved : goal.loop-count-preserved
loop-count-preserved c =
    let below : c.loop-count.count-index < length c.args.taken.now = omega (
      arith,
      c.loop-count-test.true,
      c.loop-count.auto.count-index-end,
    ) in
    c.saturating_add-total.ensures
    ∙ ap (λ n. min (n + get_or c.args.taken.now c.loop-count.count-index 0) (2 ^ 64 - 1)) c.loop-count.invariant
    ∙ sum_more c.args.taken.now c.loop-count.count-index (2 ^ 64 - 1) below
