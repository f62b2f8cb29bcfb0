use Rattle.std.proofs.Common.{ℕ, List, map, take}
use Rattle.std.specs.Prelude.{reverse}
use Rattle.cast_text.specs.Lines as lines
use Rattle.session_calls.specs.Rings.{all_alone}
use Rattle.rover_session.specs.Places.{StayAtRings}
use Rattle.rover_session.specs.Standing.{terms_of, KeepsSegments}
use Rattle.rover_session.proofs.HeededLemmas.{Heeded}
use Rattle.rover_session.proofs.follow.heed_all.Given as goal

abbrev pub invariant-loop-byte : goal.invariant-loop-byte
invariant-loop-byte g l =
    let place = g.T.Turns in record {
      stay : StayAtRings place l.fn.places l.places;
      keeps : KeepsSegments (map place.shape l.fn.places) l.admitted.me (map place.seen l.fn.places)
          (map place.seen l.places) (reverse l.fn.segments.items) (reverse l.segments.items);
      heeded : (before : List ℕ) → lines.StandsFor l.fn.reader before
          → Heeded (map place.shape l.fn.places) (all_alone place.alone l.fn.places) (map place.seen l.fn.places)
          l.admitted.me l.admitted.near (terms_of l.admitted) (reverse l.fn.segments.items)
          (map place.seen l.places) l.reader before (take l.byte-index l.bytes) (reverse l.segments.items);
    }
