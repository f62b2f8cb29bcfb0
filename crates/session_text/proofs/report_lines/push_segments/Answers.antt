use Rattle.std.proofs.Common.{arith}
use Rattle.session_model.specs.Text.{segment_lines}
use Rattle.session_text.proofs.TextLemmas.{flat_more}
use Rattle.session_text.proofs.report_lines.push_segments.Goals as goal

pub loop-segment-preserved : goal.loop-segment-preserved
loop-segment-preserved c =
    flat_more (segment_lines c.args.config.now) c.args.segments.now c.loop-segment.segment-index c.segment-item.result c.segment-item.is
    (omega (arith, c.loop-segment-test.true)) c.args.out.now.items c.loop-segment.out.items c.push_segment.new.out.items
    c.loop-segment.invariant c.in_ok-push_segment.ensures.ok
