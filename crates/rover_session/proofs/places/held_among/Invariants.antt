use Rattle.std.proofs.Common.{◌+◌, ◌-◌, ◌≤◌, length, map, take, vec_len}
use Rattle.std.specs.Vec.{vec_capacity}
use Rattle.session_calls.specs.Rings.{all_alone}
use Rattle.rover_session.specs.Places.{StayAtRings}
use Rattle.rover_session.specs.Standing.{AskedEach}
use Rattle.rover_session.proofs.places.held_among.Given as goal

abbrev pub invariant-loop-base : goal.invariant-loop-base
invariant-loop-base g l =
    let place = g.T.Turns in record {
      stay : StayAtRings place l.fn.places l.places;
      asked : AskedEach (map place.shape l.fn.places) (all_alone place.alone l.fn.places)
          (map place.seen l.fn.places) (map place.seen l.places) l.me (take l.base-index l.bases) l.held.items;
      room : vec_len l.held + (length l.bases - l.base-index) ≤ vec_capacity l.held;
    }
