-- A line more was put.
use Rattle.std.proofs.Common.{◌<◌, length, arith}
use Rattle.caster_press_tests.proofs.ScriptLemmas.{on_more}
use Rattle.caster_press_tests.proofs.script.ScriptWriter.write.Goals as goal

pub loop-self-preserved : goal.loop-self-preserved
loop-self-preserved g c =
    let below : c.loop-self.self.put < length c.loop-self.self.lines.items =
    omega (arith, c.loop-self-test.true, c.len.ensures) in
    record {
      same = c.loop-self.invariant.same;
      on = on_more _ _ _ _ _ _ _ _ c.index.result.now below c.index.ensures c.loop-self.invariant.on c.put.ensures.same c.put.ensures.put;
    }
