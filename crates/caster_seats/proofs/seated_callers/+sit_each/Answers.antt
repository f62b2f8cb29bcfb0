-- The last sits down behind the others.
use Rattle.std.proofs.Common.{◌∙◌, [], length, refl, sym, arith, append-nil}
use Rattle.caster_seats.proofs.SharingLemmas.{zero_by}
use Rattle.caster_seats.proofs.SittingLemmas.{are_passes, unseen, seated_none, seated_more, last_new, front_new, one_longer}
use Rattle.caster_link.proofs.WornLemmas.{none_lack}
use Rattle.caster_seats.proofs.seated_callers.+sit_each.Goals as goal

pub returns-in_default-clause-seated : goal.returns-in_default-clause-seated
returns-in_default-clause-seated g t c = (
  [],
  sym (append-nil c.args.hands.now.items),
  seated_none c.args.shared.now c.args.works.now.items
      (c.requires.size ∙ zero_by _ (λ less. c.in_default.ensures.variant.1 (omega (arith, less, c.args.passes.ok.0)))),
)

pub places-requires-clause-passes : goal.places-requires-clause-passes
places-requires-clause-passes g t c κs within = (
  length c.pop.new.self.items,
  are_passes _ _ _ (last_new _ c.pop.new.self.items c.in-Some.pass c.args.shared.now c.in-Some.ensures.items
      c.requires.passes),
)

pub sit_each-requires-clause-passes : goal.sit_each-requires-clause-passes
sit_each-requires-clause-passes g t c κs within =
    front_new _ c.pop.new.self.items c.in-Some.pass c.args.shared.now c.in-Some.ensures.items c.requires.passes

pub returns-clause-seated : goal.returns-clause-seated
returns-clause-seated g t c =
    let so_far = c.in_default-sit_each.ensures.seated in
    let fresh = last_new _ c.pop.new.self.items c.in-Some.pass c.args.shared.now c.in-Some.ensures.items
    c.requires.passes in
    let of_number = are_passes _ _ _ fresh in
    let places = c.in_ok-places.ensures in
    seated_more c.args.shared.now _ _ _ c.in-Some-pop.work c.args.hands.now.items _ _ so_far.0 _ _
    c.in-Some-pop.ensures.items so_far.1 so_far.2 c.push_reserved-2.ensures.items
    (omega (
      arith,
      c.requires.size,
      one_longer _ _ _ c.in-Some.ensures.items,
      one_longer _ _ _ c.in-Some-pop.ensures.items,
      c.len-number.ensures,
      c.pop.new.self.ok.0,
    ))
    (record {
      numbered = omega (arith, c.len-number.ensures, c.pop.new.self.ok.0);
      fit = places.fit _ of_number;
      at = places.at _ of_number;
      full = none_lack c.in_ok-places.places.rings.items;
      uncalled = places.seen ∙ unseen _ _ _ c.requires.ready fresh;
      work_is = refl;
    })
