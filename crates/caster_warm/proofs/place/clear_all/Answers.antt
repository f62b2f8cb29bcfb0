use Rattle.std.proofs.Common.{◌∙◌, ◌<◌, List, length, sym, ap, arith}
use Rattle.std.proofs.lemmas.List.{length-map}
use Rattle.std.proofs.Math.Seq.{map-set_same}
use Rattle.caster_warm.specs.declared.place.GreetingPlace.{GreetingPlace}
use Rattle.caster_warm.specs.Places.{cleared_home, place_home, place_seen, place_shape}
use Rattle.caster_warm.proofs.PlaceLemmas.{over_next}
use Rattle.caster_warm.proofs.place.clear_all.Goals as goal

pub loop-place-preserved : goal.loop-place-preserved
loop-place-preserved c =
    let old : List GreetingPlace = c.args.places.now.items in
    let items : List GreetingPlace = c.loop-place.place-items in
    let place : GreetingPlace = c.place-item.result in
    let new : GreetingPlace = c.clear.new.self in
    let within : c.loop-place.place-index < length old =
    omega (arith, c.loop-place-test.true, ap length c.deref_mut-place-items.ensures.value) in
    record {
      shape = map-set_same place_shape items c.loop-place.place-index new place c.clear.ensures.shape
          ∙ c.loop-place.invariant.shape;
      seen = map-set_same place_seen items c.loop-place.place-index new place c.clear.ensures.seen
          ∙ c.loop-place.invariant.seen;
      over = over_next place_home cleared_home c.loop-place.place-index old items place new within
          (omega (
            arith,
            within,
            ap length c.loop-place.invariant.shape,
            length-map items place_shape,
            length-map old place_shape,
          )) c.loop-place.invariant.over c.place-item.is
          (c.clear.ensures.cleared ∙ ap cleared_home (sym c.place-item.is));
    }
