-- What a rover's session keeps, as contracts see it.
use Rattle.std.specs.Prelude.{reverse}
use Rattle.rover_session.specs.declared.session.RoverSession.TheInside.{Inside}
use Rattle.rover_session.specs.Standing.{Rover, terms_of}

abbrev pub rover_in : Inside → Rover
rover_in inside = record {
  version = inside.admitted.version;
  me = inside.admitted.me;
  terms = terms_of inside.admitted;
  line = inside.reports;
  segments = reverse inside.segments.items;
  halt = inside.halt;
}
