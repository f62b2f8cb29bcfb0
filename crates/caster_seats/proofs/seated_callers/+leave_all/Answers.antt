-- The last leaves behind the others.
use Rattle.std.proofs.Common.{◌≡◌, ◌∙◌, ◌+◌, ◌++◌, ◌∷◌, [], ℕ, length, refl, sym, subst, arith}
use Rattle.std.proofs.lemmas.List.{length-map}
use Rattle.caster_places.specs.Rows.{HaveRoom}
use Rattle.caster_seats.proofs.SharingLemmas.{zero_by}
use Rattle.caster_seats.proofs.SittingLemmas.{below_more, below_none, places_split, left_more, legal_more, less_room, one_longer, work_more, work_none}
use Rattle.caster_seats.proofs.seated_callers.+leave_all.Goals as goal

pub leave_all-requires-clause-spare : goal.leave_all-requires-clause-spare
leave_all-requires-clause-spare g t c κs within =
    let longer = one_longer _ _ _ c.in-Some.ensures.items in
    less_room (length c.args.hands.items) _ _ (omega (arith, longer)) c.requires.spare

pub leave_all-requires-clause-places : goal.leave_all-requires-clause-places
leave_all-requires-clause-places g t c κs within =
    (places_split _ _ _ _ _ c.in-Some.ensures.items c.requires.places).0

pub leave-requires-clause-same : goal.leave-requires-clause-same
leave-requires-clause-same g t c =
    sym (length-map c.in-Some.last.places.rings.items _)
    ∙ (places_split _ _ _ _ _ c.in-Some.ensures.items c.requires.places).1 ∙ sym c.leave_all.ensures.piles.mounts

pub leave-requires-clause-room : goal.leave-requires-clause-room
leave-requires-clause-room g t c =
    let longer = one_longer _ _ _ c.in-Some.ensures.items in
    c.leave_all.ensures.piles.space 1
    (subst (λ (n : ℕ). HaveRoom n c.args.piles.now) (omega (arith, longer)) c.requires.spare)

pub returns-clause-left : goal.returns-clause-left
returns-clause-left g t c =
    left_more _ _ c.pop.new.self.items c.in-Some.last _ c.leave_all.new.piles _ c.in-Some.ensures.items
    c.leave_all.ensures.left c.leave.ensures.left

pub returns-in_default-clause-works : goal.returns-in_default-clause-works
returns-in_default-clause-works g t c =
    work_none _ c.args.hands.items c.args.works.now
    (zero_by _ (λ less. c.in_default.ensures.variant.1 (omega (arith, less, c.args.hands.ok.0))))

pub returns-clause-works : goal.returns-clause-works
returns-clause-works g t c =
    work_more _ _ c.pop.new.self.items c.in-Some.last c.args.works.now c.leave_all.new.works _ c.in-Some.ensures.items
    c.leave_all.ensures.works c.push_reserved.ensures.items c.push_reserved.ensures.len c.push_reserved.ensures.capacity

pub returns-in_default-clause-piles : goal.returns-in_default-clause-piles
returns-in_default-clause-piles g t c =
    let none : length c.args.hands.items ≡ 0 =
    zero_by _ (λ less. c.in_default.ensures.variant.1 (omega (arith, less, c.args.hands.ok.0))) in record {
      mounts = refl;
      passes = omega (arith, none);
      space = λ callers room. subst (λ (n : ℕ). HaveRoom n c.args.piles.now) (omega (arith, none)) room;
      worn = λ mounts book within. (within, below_none _ (mounts ++ book ∷ []) c.args.hands.items none);
    }

pub returns-clause-piles : goal.returns-clause-piles
returns-clause-piles g t c =
    let longer = one_longer _ _ _ c.in-Some.ensures.items in
    let before = c.leave_all.ensures.piles in record {
      mounts = c.leave.ensures.count ∙ before.mounts;
      passes = omega (arith, c.leave.ensures.one_more, before.passes, longer);
      space = λ callers room.
          c.leave.ensures.room callers
          (before.space (callers + 1) (subst (λ (n : ℕ). HaveRoom n c.args.piles.now) (omega (arith, longer)) room));
      worn = λ mounts book within.
          let last = c.leave.ensures.worn mounts book within in
          let rest = before.worn mounts book last.0 in (
            rest.0,
            below_more _ (mounts ++ book ∷ []) c.args.hands.items c.pop.new.self.items c.in-Some.last
                c.in-Some.ensures.items rest.1 last.1,
          );
    }

pub returns-clause-legal : goal.returns-clause-legal
returns-clause-legal g t c =
    legal_more _ _ c.pop.new.self.items c.in-Some.last c.in-Some.ensures.items c.leave_all.ensures.legal
    c.leave.ensures.legal
