-- The porter sat down with the last passes, all kept serving, and all left.
use Rattle.std.proofs.Common.{◌∙◌, length, refl, ap, arith}
use Rattle.std.proofs.lemmas.Result.{IfOk-weaker}
use Rattle.caster_link.proofs.WornLemmas.{none_lack}
use Rattle.caster_seats.proofs.SittingLemmas.{are_passes, front_new, last_new, one_longer, unseen}
use Rattle.caster_keep.specs.Stations.{new_porter}
use Rattle.caster_keep.proofs.PorterLemmas.{all_left, sat_down, still_there}
use Rattle.caster_keep.proofs.locks.keep_at_locks.Goals as goal

pub places-requires-clause-passes : goal.places-requires-clause-passes
places-requires-clause-passes g c κs within = (
  length c.pop.new.self.items,
  are_passes _ _ _ (last_new _ c.pop.new.self.items c.in-Some.last c.args.shared.now c.in-Some.ensures.items
      c.requires.passes),
)

pub keep_at_seats-written-requires-clause-passes : goal.keep_at_seats-written-requires-clause-passes
keep_at_seats-written-requires-clause-passes g c κs within =
    front_new _ c.pop.new.self.items c.in-Some.last c.args.shared.now c.in-Some.ensures.items c.requires.passes

pub keep_at_seats-written-requires-clause-booth : goal.keep_at_seats-written-requires-clause-booth
keep_at_seats-written-requires-clause-booth g c κs within =
    let fresh = last_new _ c.pop.new.self.items c.in-Some.last c.args.shared.now c.in-Some.ensures.items
    c.requires.passes in
    let of_number = are_passes _ _ _ fresh in
    let places = c.in-Ok.ensures in
    let sat = sat_down c.args.shared.now (length c.pop.new.self.items) (new_porter c.args.console) _ _ _
    c.new-booth.ensures (ap (λ (r : _). r.now) c.config.ensures)
    (record {
      numbered = omega (arith, c.len-number.ensures, c.pop.new.self.ok.0);
      fit = places.fit _ of_number;
      at = places.at _ of_number;
      full = none_lack c.in-Ok.places.rings.items;
      uncalled = places.seen ∙ unseen _ _ _ c.requires.ready fresh;
      work_is = c.new-porter.ensures;
    }) in
    (sat.0, (new_porter c.args.console, sat.1))

pub leave-requires-clause-same : goal.leave-requires-clause-same
leave-requires-clause-same g c =
    let fresh = last_new _ c.pop.new.self.items c.in-Some.last c.args.shared.now c.in-Some.ensures.items
    c.requires.passes in
    let of_number = are_passes _ _ _ fresh in
    let places = c.in-Ok.ensures in
    let sat = sat_down c.args.shared.now (length c.pop.new.self.items) (new_porter c.args.console) _ _ _
    c.new-booth.ensures (ap (λ (r : _). r.now) c.config.ensures)
    (record {
      numbered = omega (arith, c.len-number.ensures, c.pop.new.self.ok.0);
      fit = places.fit _ of_number;
      at = places.at _ of_number;
      full = none_lack c.in-Ok.places.rings.items;
      uncalled = places.seen ∙ unseen _ _ _ c.requires.ready fresh;
      work_is = c.new-porter.ensures;
    }) in
    still_there _ c.into_hand-places.result.places.rings.items c.args.shared.now (length c.pop.new.self.items)
    (new_porter c.args.console) _ _ _ _ refl c.into_hand-places.ensures c.keep_at_seats-written.ensures.known sat.1
    (c.keep_at_seats-written.ensures.mounts ∙ c.requires.empty.size)

pub returns-clause-worked : goal.returns-clause-worked
returns-clause-worked g c =
    let fresh = last_new _ c.pop.new.self.items c.in-Some.last c.args.shared.now c.in-Some.ensures.items
    c.requires.passes in
    let of_number = are_passes _ _ _ fresh in
    let places = c.in-Ok.ensures in
    let sat = sat_down c.args.shared.now (length c.pop.new.self.items) (new_porter c.args.console) _ _ _
    c.new-booth.ensures (ap (λ (r : _). r.now) c.config.ensures)
    (record {
      numbered = omega (arith, c.len-number.ensures, c.pop.new.self.ok.0);
      fit = places.fit _ of_number;
      at = places.at _ of_number;
      full = none_lack c.in-Ok.places.rings.items;
      uncalled = places.seen ∙ unseen _ _ _ c.requires.ready fresh;
      work_is = c.new-porter.ensures;
    }) in
    IfOk-weaker c.keep_at_seats-written.result.0 _ _ (λ closed kept.
    all_left g.G.Door.told g.G.Gate.over g.G.Gate.peer g.C.Console.told c.args.shared.now _ closed.is_torn _ _
    c.args.keepers.now.items c.keep_at_seats-written.new.keepers.items c.args.console _ _
    c.into_hand-places.result.work (length c.pop.new.self.items) _ c.keep_at_seats-written.new.piles
    c.leave.new.piles kept c.requires.unheard sat.0 sat.1 c.requires.roles
    (omega (arith, c.requires.size, one_longer _ _ _ c.in-Some.ensures.items))
    c.into_hand-places.ensures refl c.leave.ensures.left c.leave.ensures.legal c.leave.ensures.worn
    c.leave.ensures.one_more)
    c.keep_at_seats-written.ensures.worked
