use Rattle.std.proofs.Common.{◌≡◌, ◌-◌, ◌^◌, min, take}
use Rattle.std.specs.List.{sum_by}
use Rattle.rover_cursor.specs.declared.segment.Segment.{Segment}
use Rattle.rover_session.proofs.session.RoverSession.overrun.Given as goal

abbrev pub invariant-loop-segment : goal.invariant-loop-segment
invariant-loop-segment l =
    l.sum ≡ min (sum_by (λ (segment : Segment). segment.overrun) (take l.segment-index l.segment-items))
    (2 ^ 64 - 1)
