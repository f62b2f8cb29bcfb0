-- The lines of one segment more, and those of all.
use Rattle.std.proofs.Common.{arith}
use Rattle.caster_press.proofs.PlaceLemmas.{same_then}
use Rattle.keep_lines.specs.Lines.{segment_lines}
use Rattle.keep_lines.proofs.PutLemmas.{told_all, told_next}
use Rattle.keep_lines.proofs.receipts.put_segments.Goals as goal

pub loop-segment-preserved : goal.loop-segment-preserved
loop-segment-preserved g c = record {
  same = same_then _ _ _ c.loop-segment.invariant.same c.put_segment.ensures.same;
  put = told_next c.args.me (segment_lines c.args.config.now c.args.link) c.args.segments.now c.loop-segment.segment-index _ c.segment-item.result c.loop-segment-test.true c.segment-item.is _ _ _
      c.loop-segment.invariant.put c.put_segment.ensures.put;
}

pub returns-clause-put : goal.returns-clause-put
returns-clause-put g c =
    told_all c.args.me (segment_lines c.args.config.now c.args.link) c.args.segments.now c.loop-segment.segment-index (omega (arith, c.loop-segment-test.false)) _ _ c.loop-segment.invariant.put
