use Rattle.std.proofs.Common.{arith}
use Rattle.bench_cut.proofs.CountLemmas.{one_more, took_one}
use Rattle.bench_cut.proofs.counting.take_ready.Goals as goal

pub loop-frame-preserved : goal.loop-frame-preserved
loop-frame-preserved g c = record {
  room = omega (arith, took_one _ _ _ c.in-Some.ensures.found, c.loop-frame.invariant.room);
  gave = λ all before. one_more _ _ _ _ _ (c.loop-frame.invariant.gave all before) c.in-Some.ensures.found;
}
