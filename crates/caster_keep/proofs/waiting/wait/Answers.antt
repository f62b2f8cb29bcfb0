-- At the rings, and not at the book.
use Rattle.std.proofs.Common.{◌≡◌, ◌∙◌, List, length, map, refl, sym, ap, subst, arith}
use Rattle.std.proofs.lemmas.List.{length-map}
use Rattle.cast_config.proofs.KeptLemmas.{within}
use Rattle.session_calls.specs.Rings.{AllSpeak, SamePlaces, Went, all_alone}
use Rattle.session_core.proofs.HeldLemmas.{length_shapes}
use Rattle.rover_session.specs.Standing.{KnowsFilter}
use Rattle.caster_link.proofs.PlaceLemmas.{known_same, speak_by}
use Rattle.keep_porter.specs.Porters.{HasAnswered, answer_lines, any_lacks, steps_of}
use Rattle.session_calls.proofs.PlaceLemmas.{length_same}
use Rattle.session_model.specs.Called.{seen_at}
use Rattle.session_core.specs.Beginnings.{worn_at}
use Rattle.session_core.proofs.EnteredLemmas.{back_whole}
use Rattle.caster_places.specs.Known.{known_at}
use Rattle.std.specs.Prelude.{◌||◌}
use Rattle.std.specs.List.{flat_map}
use Rattle.caster_keep.proofs.WaitLemmas.{answered, first_known}
use Rattle.caster_keep.proofs.waiting.wait.Goals as goal

pub wait_at-requires-clause-mounts : goal.wait_at-requires-clause-mounts
wait_at-requires-clause-mounts g c =
    ap length c.as_mut_slice-rings.ensures.value ∙ sym (length-map c.args.places.now.rings.items g.T.Turns.shape)
    ∙ ap length c.requires.fit.shapes_fit ∙ length_shapes c.args.config.now

pub wait_at-requires-clause-few : goal.wait_at-requires-clause-few
wait_at-requires-clause-few g c = omega (arith, c.requires.kept.1.few_mounts)

pub wait_at-requires-clause-speaks : goal.wait_at-requires-clause-speaks
wait_at-requires-clause-speaks g c =
    subst (λ (l : List _). AllSpeak g.T.Turns.speaks l c.args.me) (sym c.as_mut_slice-rings.ensures.value)
    (speak_by g.T.Turns.speaks c.args.places.now.rings.items c.args.me c.requires.fit.rings)

pub wait_at-requires-clause-filter : goal.wait_at-requires-clause-filter
wait_at-requires-clause-filter g c =
    let kept = c.requires.kept.1 in
    subst (λ (l : List _). KnowsFilter (map g.T.Turns.shape l) 0) (sym c.as_mut_slice-rings.ensures.value)
    (first_known g.T.Turns.shape c.requires.kept.0 c.args.config.now c.args.places.now.rings.items kept
    c.requires.fit.shapes_fit (within 1 64 (length c.args.config.now.group) kept.count_groups).0)

pub returns-clause-known : goal.returns-clause-known
returns-clause-known g c =
    let t = g.T.Turns in let b = g.B.Turns in
    let items = c.args.places.now.rings.items in
    let book = c.args.places.now.book in
    let there = c.as_mut_slice-rings.ensures.value in
    let same = subst (λ (l : List _). SamePlaces t.shape t.speaks t.may_lack t.alone t.home l c.wait_at.new.rings) there
    c.wait_at.ensures.stay.same in
    let long : length c.wait_at.new.rings ≡ length items = length_same t.shape items c.wait_at.new.rings same.0 in
    let known = λ (l : List _). known_at t.shape b.shape t.speaks b.speaks t.may_lack b.may_lack t.alone b.alone t.home
    b.home l book in
    subst (λ (l : List _). known l ≡ known items)
    (sym (back_whole c.wait_at.new.rings items c.args.places.now.rings.len long
    (omega (arith, c.args.places.now.rings.ok))))
    (known_same t.shape b.shape t.speaks b.speaks t.may_lack b.may_lack t.alone b.alone t.home b.home items
    c.wait_at.new.rings book book same (refl, refl, refl, refl, refl))

pub returns-clause-waited : goal.returns-clause-waited
returns-clause-waited g c =
    let said = c.wait_at.ensures.said in
    let t = g.T.Turns in let b = g.B.Turns in
    let items = c.args.places.now.rings.items in
    let book = c.args.places.now.book in
    let there = c.as_mut_slice-rings.ensures.value in
    let new = c.wait_at.new.rings in
    let same = subst (λ (l : List _). SamePlaces t.shape t.speaks t.may_lack t.alone t.home l new) there
    c.wait_at.ensures.stay.same in
    let long : length new ≡ length items = length_same t.shape items new same.0 in (
      said.0,
      flat_map (answer_lines c.args.config.now) said.0,
      said.5,
      subst (λ (l : List _). HasAnswered c.args.config.now c.args.me
          (any_lacks (map t.may_lack l) || b.may_lack book) (worn_at t.worn b.worn l book)
          (seen_at t.seen b.seen items book) (seen_at t.seen b.seen l book)
          (g.C.Console.told c.args.console.now) (g.C.Console.told c.wait_at.new.console) said.0
          (flat_map (answer_lines c.args.config.now) said.0))
          (sym (back_whole new items c.args.places.now.rings.len long (omega (arith, c.args.places.now.rings.ok))))
          (answered t (b.may_lack book) (b.worn book) c.args.config.now c.args.me items new (b.seen book) _ _ said.0
          c.requires.fit.shapes_fit said.1
          (subst (λ (l : List _). Went (map t.shape l) (all_alone t.alone l) (map t.seen l) (map t.seen new) c.args.me
          (flat_map steps_of said.0)) there said.2) said.3 said.4 c.wait_at.ensures.over),
    )
