use Rattle.std.proofs.Common.{◌≡◌, map}
use Rattle.turn_log.specs.Desks.{desk_seen, desk_shape}
use Rattle.rover_session.specs.Standing.{IsServed}
use Rattle.session_tests.proofs.rover_tests.play.Given as goal

abbrev pub invariant-loop-what : goal.invariant-loop-what
invariant-loop-what l = record {
  me : l.rover.me ≡ 3;
  served : IsServed (map desk_shape l.desks) (map desk_seen l.desks) l.rover;
}
