-- the laps of the segments so far
use Rattle.std.proofs.Common.{◌≡◌, length, take}
use Rattle.std.specs.List.{sum_by}
use Rattle.rover_cursor.specs.declared.segment.Segment.{Segment}
use Rattle.run_texts.proofs.summary.laps_of.Given as goal

abbrev pub invariant-loop-segment : goal.invariant-loop-segment
invariant-loop-segment l =
    l.laps ≡ sum_by (λ (segment : Segment). length segment.laps) (take l.segment-index l.segments)
