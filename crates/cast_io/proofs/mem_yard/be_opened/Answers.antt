-- Each gate is given as one that was made for this.
use Rattle.std.proofs.Common.{◌≡◌, ◌<◌, arith, length, sym, ap, ◌∙◌, set}
use Rattle.std.proofs.lemmas.List.Edits.{map_over_more}
use Rattle.cast_io.specs.declared.yard_asked.YardAsked.TheVariants as asked
use Rattle.cast_io.specs.FakeGates.{GateState, made_for}
use Rattle.cast_io.proofs.mem_yard.be_opened.Goals as goal

pub loop-gate-preserved : goal.loop-gate-preserved
loop-gate-preserved c =
    let f : GateState → GateState = made_for (asked.OpenGates c.args.addr.now c.args.gates c.args.quiet) in
    let inside : c.loop-gate.gate-index < length c.args.given.now.items =
    omega (arith, c.loop-gate-test.true, ap length c.deref_mut-gate-items.ensures.value) in
    let written : c.be_opened.new.self ≡ f c.gate-item.result = c.be_opened.ensures ∙ ap f (sym c.gate-item.is) in
    ap (λ (g : GateState). set c.loop-gate.gate-items c.loop-gate.gate-index g) written
    ∙ map_over_more f c.args.given.now.items c.loop-gate.gate-items c.loop-gate.gate-index c.gate-item.result
    inside c.loop-gate.invariant c.gate-item.is
