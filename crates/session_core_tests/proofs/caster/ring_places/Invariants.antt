-- the rings so far are those of the first mountpoints
use Rattle.std.proofs.Common.{◌≡◌, map, take}
use Rattle.turn_log.specs.Desks.{desk_shape}
use Rattle.session_model.specs.Setting.{shapes}
use Rattle.session_core_tests.specs.Refusing.{tired_shape}
use Rattle.session_core_tests.proofs.caster.ring_places.Given as goal

abbrev pub invariant-loop-m : goal.invariant-loop-m
invariant-loop-m l = map (tired_shape desk_shape) l.places.items ≡ take l.m (shapes l.config)
