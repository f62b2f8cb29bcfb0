-- A turn takes place at the rings, and leaves the book.
use Rattle.std.proofs.Common.{◌≡◌, ◌∙◌, length, map, refl, sym, ap, subst}
use Rattle.std.specs.Vec.{vec_len}
use Rattle.session_calls.specs.Rings.{all_alone}
use Rattle.session_calls.proofs.PlaceLemmas.{length_same}
use Rattle.session_model.specs.Called.{seen_at}
use Rattle.session_core.specs.Turned.{TurnedAt}
use Rattle.session_core.proofs.AskingLemmas.{asks_same}
use Rattle.session_core.proofs.EnteredLemmas.{back_whole, cause_left, worn_back}
use Rattle.session_core.proofs.TurningLemmas.{halted_back, halts_in, readable_by, turned_by, same_session}
use Rattle.session_core.proofs.session.Session.turn.Goals as goal

pub turn_at-ended-requires-clause-reads : goal.turn_at-ended-requires-clause-reads
turn_at-ended-requires-clause-reads g c =
    let follows = c.requires.follows in
    let there : c.as_mut_slice-rings.result.now ≡ c.args.places.now.rings.items = c.as_mut_slice-rings.ensures.value in
    rw there (readable_by follows.0 c.args.self.now (seen_at g.T.Turns.seen g.B.Turns.seen c.args.places.now.rings.items
    c.args.places.now.book) (map g.T.Turns.shape c.args.places.now.rings.items) follows.1 c.requires.goes_on follows.3)

pub returns-clause-turned : goal.returns-clause-turned
returns-clause-turned g c = λ is config opening text steps histories sent shaped capped stands others.
    let items = c.args.places.now.rings.items in
    let there : c.as_mut_slice-rings.result.now ≡ items = c.as_mut_slice-rings.ensures.value in
    let turned = c.turn_at-ended.ensures in
    let new = c.turn_at-ended.new.rings in
    let long : length new ≡ length items =
    length_same g.T.Turns.shape c.as_mut_slice-rings.result.now new turned.stay.same.0 ∙ ap length there in
    let back = back_whole new items (vec_len c.args.places.now.rings) long
    (sym (sym (ap length there) ∙ c.as_mut_slice-rings.ensures.len)) in
    rw back (turned_by config (all_alone g.T.Turns.alone items) (g.B.Turns.alone c.args.places.now.book)
    (map g.T.Turns.shape items) (map g.T.Turns.seen items) (map g.T.Turns.seen new)
    (g.B.Turns.seen c.args.places.now.book) c.args.budget c.args.self.now opening text steps histories sent
    c.args.out.now.items c.turn_at-ended.new.out.items c.turn_at-ended.new.stage c.turn_at-ended.result is
    c.requires.goes_on shaped stands others
    (subst (λ l. TurnedAt (map g.T.Turns.shape l) (all_alone g.T.Turns.alone l) (map g.T.Turns.seen l)
    (map g.T.Turns.seen new) c.args.budget c.args.self.now.stage c.turn_at-ended.new.stage c.turn_at-ended.result
    c.args.out.now.items c.turn_at-ended.new.out.items) there turned.turned)
    (halts_in _ _ _ _ c.turn_at-ended.result turned.halted))

pub returns-clause-itself : goal.returns-clause-itself
returns-clause-itself g c = record {
  me = refl;
  holds = c.turn_at-ended.ensures.holds;
  asks = asks_same c.args.self.now.stage _ _ refl;
}

pub returns-clause-cause : goal.returns-clause-cause
returns-clause-cause g c =
    let items = c.args.places.now.rings.items in
    let there : c.as_mut_slice-rings.result.now ≡ items = c.as_mut_slice-rings.ensures.value in
    let turned = c.turn_at-ended.ensures in
    let new = c.turn_at-ended.new.rings in
    let long : length new ≡ length items =
    length_same g.T.Turns.shape c.as_mut_slice-rings.result.now new turned.stay.same.0 ∙ ap length there in
    worn_back g.T.Turns.worn g.B.Turns.worn new items (vec_len c.args.places.now.rings) c.args.places.now.book
    c.turn_at-ended.result
    (back_whole new items (vec_len c.args.places.now.rings) long
    (sym (sym (ap length there) ∙ c.as_mut_slice-rings.ensures.len)))
    (cause_left (map g.T.Turns.worn new) (g.B.Turns.worn c.args.places.now.book) c.turn_at-ended.result turned.cause)

pub returns-clause-halted : goal.returns-clause-halted
returns-clause-halted g c =
    let items = c.args.places.now.rings.items in
    let there : c.as_mut_slice-rings.result.now ≡ items = c.as_mut_slice-rings.ensures.value in
    let turned = c.turn_at-ended.ensures in
    let new = c.turn_at-ended.new.rings in
    let long : length new ≡ length items =
    length_same g.T.Turns.shape c.as_mut_slice-rings.result.now new turned.stay.same.0 ∙ ap length there in
    let back = back_whole new items (vec_len c.args.places.now.rings) long
    (sym (sym (ap length there) ∙ c.as_mut_slice-rings.ensures.len)) in
    rw back (halted_back g.T.Turns.seen g.B.Turns.seen c.as_mut_slice-rings.result.now items new c.args.places.now.book
    c.args.out.now.items c.turn_at-ended.new.out.items c.turn_at-ended.result there turned.halted)

pub returns-clause-bystander : goal.returns-clause-bystander
returns-clause-bystander g c = λ apart.
    let items = c.args.places.now.rings.items in
    let there : c.as_mut_slice-rings.result.now ≡ items = c.as_mut_slice-rings.ensures.value in
    let turned = c.turn_at-ended.ensures in
    let new = c.turn_at-ended.new.rings in
    let still = turned.bystander apart in
    let long : length new ≡ length items =
    length_same g.T.Turns.shape c.as_mut_slice-rings.result.now new turned.stay.same.0 ∙ ap length there in (
      same_session c.args.self.now c.turn_at-ended.new.stage c.turn_at-ended.result still.1 still.0 c.requires.goes_on,
      back_whole new items (vec_len c.args.places.now.rings) long
          (sym (sym (ap length there) ∙ c.as_mut_slice-rings.ensures.len)) ∙ still.2 ∙ there,
      refl,
      still.3,
    )
