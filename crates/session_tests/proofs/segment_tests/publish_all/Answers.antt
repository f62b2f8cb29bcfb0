use Rattle.std.proofs.Common.{◌∙◌}
use Rattle.turn_log.specs.Desks.{desk_seen}
use Rattle.mount_ring.proofs.RoundLemmas.{held_published}
use Rattle.rover_cursor.proofs.RoundLemmas.{published_goes}
use Rattle.session_tests.proofs.segment_tests.publish_all.Goals as goal

pub loop-frame-preserved : goal.loop-frame-preserved
loop-frame-preserved c = (
  c.turn.ensures.shape ∙ c.loop-frame.invariant.0,
  published_goes (desk_seen c.args.desk.now) (desk_seen c.loop-frame.desk) (desk_seen c.turn.new.self) _
      c.loop-frame.invariant.1
      c.in_ok-turn.ensures.ok.0,
  held_published (desk_seen c.loop-frame.desk) (desk_seen c.turn.new.self) _ c.in_ok-turn.ensures.ok.0
      c.loop-frame.invariant.2,
)
