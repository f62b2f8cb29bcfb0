-- All passes were taken in, so nobody is at its turn, and the object is in its slot.
use Rattle.std.proofs.Common.{◌≡◌, ℕ, ◌<◌, ◌≤◌, ⊎_elim, [], ◌∷◌, length, refl, sym, ◌∙◌, ap, subst, arith, All, length-append}
use mathlib.Core.Option.{some, some-injective}
use lib.ListN.{get_elem?}
use Rattle.std.specs.Slots.{slots_items}
use Rattle.atomic_table.specs.Seated.{table_id_coded}
use Rattle.atomic_table.proofs.Lists.{at_longer, at_last}
use Rattle.turn_log.specs.declared.lock.rule.Held.{Held}
use Rattle.turn_log.specs.History.{History, GoesOn}
use Rattle.turn_log.specs.LockRule.{times}
use Rattle.turn_log.specs.Lock.{pass_number, pass_seen, pass_worn}
use Rattle.turn_log.proofs.HistoryLaws.{goes_both}
use Rattle.turn_log.proofs.LockLists.{at_end, times_one}
use Rattle.turn_log.proofs.LockSeats.{closes}
use Rattle.turn_log.proofs.lock.parts.Turn.close.Given.{Over}
use Rattle.turn_log.proofs.lock.parts.Turn.close.Goals.{In-Some, After-close_with-closed}
use Rattle.turn_log.proofs.lock.parts.Turn.close.Goals as goal

-- the last pass is of this lock
last_here : (g : Over) (c : In-Some g) → c.in-Some.last.token.table_id ≡ c.args.self.table.shared.table_id
last_here g c =
    let left = c.pop.new.self.items in
    let last = c.in-Some.last in
    table_id_coded.inj _ _ (c.requires.here (length left) last
    (ap (λ l. get_elem? l (length left)) c.in-Some.ensures.items ∙ at_last left last (length left) refl)).0

pub take_in_all-requires-clause-here : goal.take_in_all-requires-clause-here
take_in_all-requires-clause-here g c = last_here g (goal.at.take_in_all-requires-clause-here g c).In-Some

pub take_in_all-requires-clause-each : goal.take_in_all-requires-clause-each
take_in_all-requires-clause-each g c i pass at =
    c.requires.here i pass
    (ap (λ l. get_elem? l i) c.in-Some.ensures.items ∙ at_longer c.pop.new.self.items (c.in-Some.last ∷ []) i pass at)

pub close_with-closed-requires : goal.close_with-closed-requires
close_with-closed-requires g c =
    c.take_in_all.ensures.same.0 ∙ last_here g (goal.at.close_with-closed-requires g c).In-Some

pub take-value-requires : goal.take-value-requires
take-value-requires g c =
    let one = c.close_with-closed.ensures.counts.1 ∙ c.args.self.sized.1 in (
      omega (arith, one),
      c.close_with-closed.ensures.values.1 0 (omega arith) (omega (arith, one)),
    )

-- the object that comes back, and what it stands for
object : (g : Over) (c : After-close_with-closed g) (got : Held g.row.V.Denot g.row.V-Call.Denot)
    → get_elem? (slots_items c.close_with-closed.result.slots) 0 ≡ some got
    → (whole : History g.row.V-Call.Denot) × g.V.Played.stands got.value whole
    × (g.V.Played.shape got.value ≡ g.V.Played.shape c.args.self.table.shared.key.value.value)
    × All (λ entry. entry.0 < c.args.self.table.shared.key.passes) whole
    × ((n : ℕ) → 0 < times n c.take_in_all.new.token.me.0.numbers → GoesOn n c.take_in_all.new.token.me.0.seen whole)
    × (c.take_in_all.new.token.me.0.worn ≤ length whole)
object g c got found =
    let key = c.args.self.table.shared.key in
    let last = c.in-Some.last in
    let cut = ap length c.in-Some.ensures.items in
    let one = ap length last.numbered.0 in
    let end = closes key.passes g.V.Played.stands g.V.Played.shape g.V.Played.fits (g.V.Played.shape key.value.value)
    _ _ _ _ c.take_in_all.ensures.same.1
    (omega (
      arith,
      c.take_in_all.ensures.numbers,
      one,
      cut,
      c.requires.all,
      length-append c.pop.new.self.items
          (last ∷ []),
    ))
    c.close_with-closed.ensures.values.2 in
    let is : end.0 ≡ got = some-injective end.0 got (sym end.2 ∙ found) in (
      end.1,
      subst (λ held. g.V.Played.stands held.value end.1) is end.3,
      ap (λ held. g.V.Played.shape held.value) (sym is) ∙ end.4,
      end.5,
      end.6,
      end.7,
    )

pub returns-clause-shape : goal.returns-clause-shape
returns-clause-shape g c =
    (object g (goal.at.returns-clause-shape g c).After-close_with-closed _ c.take-value.ensures.value).2

pub returns-clause-whole : goal.returns-clause-whole
returns-clause-whole g c =
    let got = object g (goal.at.returns-clause-whole g c).After-close_with-closed _ c.take-value.ensures.value in
    let last = c.in-Some.last in
    let own_last = c.take_in_all.ensures.own (pass_number last)
    (let e = ap (times (pass_number last)) last.numbered.0 in omega (arith, e, times_one (pass_number last))) in (
      got.0,
      got.1,
      got.3,
      (λ i pass at. ⊎_elim
          (λ before. let taken = c.take_in_all.ensures.taken i pass before in
          goes_both (pass_number pass) _ _ _ taken.1 (got.4 (pass_number pass) taken.0))
          (λ is. subst (λ p. GoesOn (pass_number p) (pass_seen p) got.0) is.1
          (goes_both (pass_number last) _ _ _ own_last.1 (got.4 (pass_number last) own_last.0)))
          (at_end c.pop.new.self.items last pass i (ap (λ l. get_elem? l i) (sym c.in-Some.ensures.items) ∙ at))),
      (λ i pass at. ⊎_elim
          (λ before. omega (arith, c.take_in_all.ensures.worn.1 i pass before, got.5))
          (λ is. let e = ap pass_worn is.1 in omega (arith, e, c.take_in_all.ensures.worn.0, got.5))
          (at_end c.pop.new.self.items last pass i (ap (λ l. get_elem? l i) (sym c.in-Some.ensures.items) ∙ at))),
    )
