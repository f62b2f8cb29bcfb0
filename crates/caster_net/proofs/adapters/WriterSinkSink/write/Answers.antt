-- What was written before, and one more part of the rest.
use Rattle.std.proofs.Common.{◌-◌, ◌≤◌, ◌∙◌, length, drop, arith, length-take, length-drop}
use Rattle.caster_net.proofs.PieceLemmas.{part_taken}
use Rattle.caster_net.proofs.adapters.WriterSinkSink.write.Goals as goal

pub loop-at-preserved : goal.loop-at-preserved
loop-at-preserved g c =
    let at = c.loop-at.at in
    let count = c.in-Some.count in
    let piece = c.args.piece.now in
    let rest = length piece - at in
    let size = length-take rest (drop at piece) in
    let left = length-drop at piece in
    let part : count ≤ rest = omega (arith, c.in-Some.ensures.bound.1, size, left) in
    record {
      within = omega (arith, part);
      both = part_taken _ _ _ _ _ _ piece at count rest part c.loop-at.invariant.both
          c.in-Some.ensures.both;
      faults = c.in-Some.ensures.faults ∙ c.loop-at.invariant.faults;
    }
