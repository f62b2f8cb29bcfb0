-- The last worker's passes are taken, and come behind those of the others.
use Rattle.std.proofs.Common.{◌≡◌, ◌∙◌, ◌+◌, ◌<◌, ◌≤◌, ◌++◌, [], ◌∷◌, length, rules, arith, sym, ap, subst, vec_len, vec_capacity, length-append, append-nil, append_assoc}
use mathlib.Core.Option.{some-ne-none}
use Rattle.caster_places.specs.Piles.{AreMatched}
use Rattle.caster_seats.specs.Sharing.{AreDealt, IsNewPass}
use Rattle.caster_seats.specs.declared.shared.Passes.{Passes}
use Rattle.caster_seats.proofs.SharingLemmas.{AllDealt, dealt_left, dealt_last, zero_by, handed_more, new_passes}
use Rattle.caster_seats.proofs.passes.+hand_out.Goals as goal

pub returns-in_default-clause-handed : goal.returns-in_default-clause-handed
returns-in_default-clause-handed t c =
    let none = zero_by (vec_len c.args.of_book.now) c.in_default.ensures.variant.1 in (
      [],
      sym (append-nil c.args.list.now.items),
      omega (arith, none, c.args.of_book.now.ok.0),
      λ number passes at. absurd (some-ne-none passes (sym at)),
    )

pub take_last-requires-clause-dealt : goal.take_last-requires-clause-dealt
take_last-requires-clause-dealt t c =
    let more : length c.args.of_book.now.items ≡ length c.pop.new.self.items + 1 =
    ap length c.in-Some.ensures.items ∙ length-append c.pop.new.self.items (c.in-Some.pass ∷ []) in
    subst (AllDealt (c.len-2.result + 1) c.args.piles.now.items) (sym c.deref.ensures.value)
    (subst (λ n. AllDealt n c.args.piles.now.items c.args.shared.now.rings.items)
    (omega (arith, more, c.pop.new.self.ok.0)) c.requires.rings)

pub hand_out-requires : goal.hand_out-requires
hand_out-requires t c =
    let more : length c.args.of_book.now.items ≡ length c.pop.new.self.items + 1 =
    ap length c.in-Some.ensures.items ∙ length-append c.pop.new.self.items (c.in-Some.pass ∷ []) in
    let left : c.len-2.result ≡ length c.pop.new.self.items = omega (arith, c.pop.new.self.ok.0) in
    let rings = subst (λ n. AllDealt n c.take_last.new.piles.items c.args.shared.now.rings.items) left
    (subst (AllDealt c.len-2.result c.take_last.new.piles.items) c.deref.ensures.value c.take_last.ensures.dealt) in
    let book = dealt_left (length c.pop.new.self.items) _ _ _ _ c.in-Some.ensures.items
    (subst (λ n. AreDealt n c.args.of_book.now.items c.args.shared.now.book) more c.requires.book) in
    let smaller : length c.pop.new.self.items < length c.args.of_book.now.items = omega (arith, more) in
    let few : length c.pop.new.self.items < 4294967296 = omega (arith, more, c.requires.few) in
    let room : vec_len c.args.list.now + length c.pop.new.self.items ≤ vec_capacity c.args.list.now =
    omega (arith, more, c.requires.room) in
    search rules

pub returns-clause-handed : goal.returns-clause-handed
returns-clause-handed t c =
    let more : length c.args.of_book.now.items ≡ length c.pop.new.self.items + 1 =
    ap length c.in-Some.ensures.items ∙ length-append c.pop.new.self.items (c.in-Some.pass ∷ []) in
    let left : c.len-2.result ≡ length c.pop.new.self.items = omega (arith, c.pop.new.self.ok.0) in
    let handed = c.in_ok-hand_out.ensures.handed in
    let fresh = c.take_last.ensures.taken in
    let passes : Passes = record { rings = c.take_last.new.taken; book = c.in-Some.pass } in (
      handed.0 ++ passes ∷ [],
      c.push_reserved.ensures.items ∙ ap (λ l. l ++ passes ∷ []) handed.1
          ∙ append_assoc c.args.list.now.items handed.0 (passes ∷ []),
      omega (arith, length-append handed.0 (passes ∷ []), handed.2, more),
      handed_more c.args.shared.now handed.0 passes (length c.pop.new.self.items) handed.2 handed.3
          (new_passes (length c.pop.new.self.items) passes c.args.shared.now c.len-2.result left fresh.0
          (fresh.1 ∙ ap (λ l. l ++ fresh.0) c.in_ok-taken.ensures.items)
          (subst (AreMatched (IsNewPass c.len-2.result) fresh.0) c.deref.ensures.value fresh.2)
          (dealt_last (length c.pop.new.self.items) _ _ _ _ c.in-Some.ensures.items
          (subst (λ n. AreDealt n c.args.of_book.now.items c.args.shared.now.book) more c.requires.book))),
    )
