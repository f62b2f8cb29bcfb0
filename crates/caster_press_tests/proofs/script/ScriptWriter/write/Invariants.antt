-- The lines so far were put.
use Rattle.std.proofs.Common.{◌≡◌, ◌-◌, length}
use Rattle.caster_press_tests.specs.Scripts.{lines_put}
use Rattle.caster_press_tests.proofs.ScriptLemmas.{GoesOn}
use Rattle.caster_press_tests.proofs.script.ScriptWriter.write.Given as goal

abbrev pub invariant-loop-self : goal.invariant-loop-self
invariant-loop-self g l = record {
  same : l.self.lines.items ≡ l.fn.self.lines.items;
  on : GoesOn l.me (g.P.AtPress.told l.fn.place) (g.P.AtPress.told l.place) (lines_put l.fn.self) (lines_put l.self);
}

abbrev pub decreases-loop-self : goal.decreases-loop-self
decreases-loop-self g l = length l.self.lines.items - l.self.put
