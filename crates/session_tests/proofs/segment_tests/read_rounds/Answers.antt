use Rattle.std.proofs.Common.{sym, subst}
use Rattle.turn_log.specs.Desks.{desk_seen}
use Rattle.turn_log.proofs.HeardLaws.{heard_alone}
use Rattle.mount_ring.specs.declared.RingShape.{RingShape}
use Rattle.mount_ring.specs.Shapes.{shape_of}
use Rattle.mount_ring.proofs.RoundLemmas.{held_read}
use Rattle.rover_cursor.specs.Told.{IsSegment}
use Rattle.session_tests.proofs.segment_tests.read_rounds.Goals as goal

pub loop-names-preserved : goal.loop-names-preserved
loop-names-preserved c = (
  held_read (desk_seen c.publish_all.new.desk) (desk_seen c.read.new.place) _ _ (heard_alone c.in_ok-read.ensures.read.heard)
      c.in_ok-publish_all.ensures.held,
  subst (λ (s : RingShape). IsSegment (shape_of s) 2 (desk_seen c.read.new.place) c.read.new.self)
      (sym c.read.ensures.same.0) c.in_ok-read.ensures.read.segment,
)
