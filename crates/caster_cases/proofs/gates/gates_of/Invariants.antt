-- Each gate is new.
use Rattle.std.proofs.Common.{IsTrue}
use Rattle.std.specs.List.{list_all}
use Rattle.cast_io.specs.FakeGates.{is_new_gate}
use Rattle.caster_cases.proofs.gates.gates_of.Given as goal

abbrev pub invariant-loop-line : goal.invariant-loop-line
invariant-loop-line l =
    (goal.iterator-loop-line).can_next l.line-iterator × (goal.iterator-loop-line).is_finite l.line-iterator
    × IsTrue (list_all is_new_gate l.gates.items)
