-- the first places were cleared, and nothing else changed
use Rattle.std.proofs.Common.{◌≡◌, map}
use Rattle.caster_warm.specs.Places.{cleared_home, place_home, place_seen, place_shape}
use Rattle.caster_warm.proofs.PlaceLemmas.{IsOver}
use Rattle.caster_warm.proofs.place.clear_all.Given as goal

abbrev pub invariant-loop-place : goal.invariant-loop-place
invariant-loop-place l = record {
  shape : map place_shape l.place-items ≡ map place_shape l.fn.places.items;
  seen : map place_seen l.place-items ≡ map place_seen l.fn.places.items;
  over : IsOver place_home cleared_home l.place-index l.fn.places.items l.place-items;
}
