-- A porter with no caster around it.
use Rattle.std.specs.Prelude.{◌≡◌, ◌<◌, ◌^◌, List, length}
use Rattle.mount_ring.specs.declared.shape.RingShape.{RingShape}
use Rattle.rover_session.specs.Standing.{KnowsFilter}
use Rattle.cast_config.specs.declared.config.Config.{Config}

-- it may wait where the rings have these shapes: there is one for each mountpoint, and each has a
-- filter for the first group
pub record MayWait (c : Config) (shapes : List RingShape) : Type 0 where
  pub mounts : length shapes ≡ length c.mount
  pub few : length c.mount < 2 ^ 32
  pub filter : KnowsFilter shapes 0
