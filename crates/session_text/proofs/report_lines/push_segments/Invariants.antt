-- the lines of the segments so far were appended
use Rattle.std.proofs.Common.{◌≡◌, ◌++◌, take}
use Rattle.std.specs.List.{flat_map}
use Rattle.session_model.specs.Text.{segment_lines}
use Rattle.session_text.proofs.report_lines.push_segments.Given as goal

abbrev pub invariant-loop-segment : goal.invariant-loop-segment
invariant-loop-segment l =
    l.out.items ≡ l.fn.out.items ++ flat_map (segment_lines l.config) (take l.segment-index l.segments)
