-- the segment's line and those of the laps so far were appended
use Rattle.std.proofs.Common.{◌≡◌, [], ◌∷◌, ◌++◌, take}
use Rattle.std.specs.Prelude.{codes, slice_get}
use Rattle.std.specs.List.{flat_map}
use Rattle.std.specs.Fmt.{decimal}
use Rattle.session_model.specs.Text.{lap_line, line, name_of}
use Rattle.session_text.proofs.report_lines.push_segment.Given as goal

abbrev pub invariant-loop-lap : goal.invariant-loop-lap
invariant-loop-lap l =
    l.out.items ≡ l.fn.out.items ++ (line (codes "segment" ∷ name_of (slice_get l.config.mount l.segment.mount)
    ∷ decimal l.segment.from ∷ decimal l.segment.to ∷ decimal l.segment.sent
    ∷ decimal l.segment.overrun ∷ []) ++ flat_map lap_line (take l.lap-index l.lap-items))
