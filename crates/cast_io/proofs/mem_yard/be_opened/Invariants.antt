use Rattle.std.proofs.Common.{◌≡◌, ◌++◌, map, take, drop}
use Rattle.cast_io.specs.declared.yard_asked.YardAsked.TheVariants as asked
use Rattle.cast_io.specs.FakeGates.{made_for}
use Rattle.cast_io.proofs.mem_yard.be_opened.Given as goal

abbrev pub invariant-loop-gate : goal.invariant-loop-gate
invariant-loop-gate l =
    l.gate-items
    ≡ map (made_for (asked.OpenGates l.addr l.gates l.quiet)) (take l.gate-index l.fn.given.items)
    ++ drop l.gate-index l.fn.given.items
