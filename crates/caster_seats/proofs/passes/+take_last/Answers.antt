-- The last pile is taken, and its last pass.
use Rattle.std.proofs.Common.{◌≡◌, ◌∙◌, ◌+◌, ◌<◌, ◌≤◌, ◌++◌, [], ◌∷◌, length, true, false, rules, arith, ap, vec_len, vec_capacity, length-append, length-take, append_assoc}
use Rattle.caster_seats.proofs.SharingLemmas.{last_pile, front_of, before_of, piles_left, passes_taken, not_empty}
use Rattle.caster_seats.proofs.passes.+take_last.Goals as goal

pub unreachable-requires : goal.unreachable-requires
unreachable-requires t c =
    let lp = last_pile c.args.left _ _ _ _ c.in-Some.ensures.items c.requires.dealt in
    let some = not_empty _ _ _ _ lp in
    let clash : false ≡ true = c.in_default-pop.ensures.variant.1 (omega (arith, some, c.in-Some.pile.ok.0)) in
    absurd cc

pub slice_bounds-take_last-end : goal.slice_bounds-take_last-end
slice_bounds-take_last-end t c =
    let lp = last_pile c.args.left _ _ _ _ c.in-Some.ensures.items c.requires.dealt in
    omega (
      arith,
      length-take c.len-last.result c.args.locks.now,
      ap length lp.is,
      length-append lp.front (lp.last ∷ []),
      lp.long,
      c.pop.new.self.ok.0,
    )

pub take_last-requires : goal.take_last-requires
take_last-requires t c =
    let lp = last_pile c.args.left _ _ _ _ c.in-Some.ensures.items c.requires.dealt in
    let last = c.len-last.result in
    let e = front_of _ _ _ _ last lp (omega (arith, c.pop.new.self.ok.0)) in
    let matched = before_of _ _ _ _ _ lp e in
    let more : length c.args.piles.now.items ≡ length c.pop.new.self.items + 1 =
    ap length c.in-Some.ensures.items ∙ length-append c.pop.new.self.items (c.in-Some.pile ∷ []) in
    let smaller : length c.pop.new.self.items < length c.args.piles.now.items = omega (arith, more) in
    let room : vec_len c.args.taken.now + length c.pop.new.self.items ≤ vec_capacity c.args.taken.now =
    omega (arith, more, c.requires.room) in
    search rules

pub returns-clause-dealt : goal.returns-clause-dealt
returns-clause-dealt t c =
    let lp = last_pile c.args.left _ _ _ _ c.in-Some.ensures.items c.requires.dealt in
    let e = front_of _ _ _ _ c.len-last.result lp (omega (arith, c.pop.new.self.ok.0)) in
    piles_left c.args.left _ _ _ _ _ _ _ _ lp e c.in-Some-pop.ensures.items c.take_last.ensures.dealt
    c.push_reserved-2.ensures.items

pub returns-clause-taken : goal.returns-clause-taken
returns-clause-taken t c =
    let lp = last_pile c.args.left _ _ _ _ c.in-Some.ensures.items c.requires.dealt in
    let e = front_of _ _ _ _ c.len-last.result lp (omega (arith, c.pop.new.self.ok.0)) in
    let before = c.take_last.ensures.taken in (
      before.0 ++ c.in-Some-pop.pass ∷ [],
      c.push_reserved.ensures.items ∙ ap (λ l. l ++ c.in-Some-pop.pass ∷ []) before.1
          ∙ append_assoc c.args.taken.now.items before.0 (c.in-Some-pop.pass ∷ []),
      passes_taken c.args.left _ _ _ _ _ _ _ lp e c.in-Some-pop.ensures.items before.2,
    )
