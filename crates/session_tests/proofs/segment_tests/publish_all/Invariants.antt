use Rattle.std.proofs.Common.{◌≡◌, IsTrue}
use Rattle.turn_log.specs.Desks.{desk_seen}
use Rattle.turn_log.specs.History.{GoesOn}
use Rattle.mount_ring.specs.History as history
use Rattle.mount_ring.specs.Kept.{ring_shape}
use Rattle.session_tests.proofs.segment_tests.publish_all.Given as goal

abbrev pub invariant-loop-frame : goal.invariant-loop-frame
invariant-loop-frame l =
    (ring_shape l.desk.value ≡ ring_shape l.fn.desk.value)
    × GoesOn 2 (desk_seen l.fn.desk) (desk_seen l.desk)
    × IsTrue (history.is_holder (history.state_of (desk_seen l.desk)).holder 1 1)
