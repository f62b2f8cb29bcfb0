use Rattle.std.proofs.Common.{IsTrue}
use Rattle.turn_log.specs.Desks.{desk_seen}
use Rattle.mount_ring.specs.History as history
use Rattle.mount_ring.specs.Kept.{ring_shape}
use Rattle.mount_ring.specs.Shapes.{shape_of}
use Rattle.rover_cursor.specs.Told.{IsSegment}
use Rattle.session_tests.proofs.segment_tests.read_rounds.Given as goal

-- caller 1 still holds the mountpoint, and caller 2 has the segment that the history tells of it
abbrev pub invariant-loop-names : goal.invariant-loop-names
invariant-loop-names l =
    IsTrue (history.is_holder (history.state_of (desk_seen l.desk)).holder 1 1)
    × IsSegment (shape_of (ring_shape l.desk.value)) 2 (desk_seen l.desk) l.segment
