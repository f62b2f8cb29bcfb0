-- The lines of the segments so far were put.
use Rattle.std.proofs.Common.{take}
use Rattle.std.specs.List.{flat_map}
use Rattle.caster_press.specs.Places.{IsSamePlace}
use Rattle.keep_lines.specs.Lines.{segment_lines}
use Rattle.keep_lines.specs.Puts.{HasTold}
use Rattle.keep_lines.proofs.receipts.put_segments.Given as goal

abbrev pub invariant-loop-segment : goal.invariant-loop-segment
invariant-loop-segment g l = let told = g.P.AtPress.told in record {
  same : IsSamePlace (told l.fn.place) (told l.place);
  put : HasTold l.me (flat_map (segment_lines l.config l.link) (take l.segment-index l.segments))
      (told l.fn.place).seen (told l.place).seen;
}
