-- All passes of a lock: how they are dealt, and how they are taken in again.
use Rattle.std.proofs.Common.{◌≡◌, ℕ, suc, ◌+◌, ◌<◌, ◌≤◌, ⊎_elim, Bool, List, [], ◌∷◌, ◌++◌, length, max, refl, sym, ◌∙◌, ap, subst, arith, append_assoc, length-append}
use Rattle.std.proofs.lemmas.List.{append-nil}
use mathlib.Core.Option.{some}
use lib.ListN.{get_elem?}
use Rattle.turn_log.specs.declared.lock.rule.Known.{Known}
use Rattle.turn_log.specs.declared.lock.rule.Held.{Held}
use Rattle.turn_log.specs.History.{History, GoesOn}
use Rattle.turn_log.specs.LockRule.{times, from, maker}
use Rattle.turn_log.specs.LockSteps.{Seated, met, settles}
use Rattle.atomic_table.proofs.Lists.{at_longer, at_last}
use Rattle.turn_log.proofs.HistoryLaws.{goes_both}
use Rattle.turn_log.proofs.LockLists.{at_length, at_cut, one_more, times-append, times_one}

-- the most that the passes after the first ys of xs, and the seat that took them in, told of how
-- worn the lock is
pub record WornAsFar {P : Type 0} (worn : P → ℕ) (old now : ℕ) (xs ys : List P) : Type 0 where
  pub rest : List P
  pub split : xs ≡ ys ++ rest
  pub own : old ≤ now
  pub taken : (i : ℕ) (pass : P) → get_elem? xs i ≡ some pass → length ys ≤ i → worn pass ≤ now

pub worn_none : {P : Type 0} (worn : P → ℕ) (now : ℕ) (xs : List P) → WornAsFar worn now now xs xs
worn_none worn now xs = record {
  rest = [];
  split = sym (append-nil xs);
  own = omega arith;
  taken = λ i pass at le. absurd (omega (arith, le, at_length xs i pass at));
}

pub worn_one : {P : Type 0} (worn : P → ℕ) (old now next : ℕ) (xs ys left : List P) (pass : P)
    → WornAsFar worn old now xs ys → ys ≡ left ++ pass ∷ [] → next ≡ max now (worn pass)
    → WornAsFar worn old next xs left
worn_one {P} worn old now next xs ys left pass far cut is =
    let split : xs ≡ (left ++ pass ∷ []) ++ far.rest = far.split ∙ ap (λ (l : List P). l ++ far.rest) cut in
    record {
      rest = pass ∷ far.rest;
      split = split ∙ append_assoc left (pass ∷ []) far.rest;
      own = omega (arith, far.own, is);
      taken = λ i other at le.
          ⊎_elim
          (λ later. let b = ap length cut in
          omega (
            arith,
            is,
            far.taken i other at (omega (arith, b, later, length-append left (pass ∷ []))),
          ))
          (λ same. let e = ap worn same in omega (arith, is, e))
          (at_cut left pass other far.rest i (ap (λ (l : List P). get_elem? l i) (sym split) ∙ at) le);
    }

-- the passes after the first ys of xs were taken in by a seat that knew so much and knows so much
-- now
pub record Gathered {P V C : Type 0} (number : P → ℕ) (seen : P → History C) (old now : Known C V) (xs ys : List P) :
    Type 0 where
  pub rest : List P
  pub split : xs ≡ ys ++ rest
  pub size : length now.numbers + length ys ≡ length old.numbers + length xs
  pub own : (k : ℕ) → 0 < times k old.numbers → (0 < times k now.numbers) × GoesOn k old.seen now.seen
  pub taken : (i : ℕ) (pass : P) → get_elem? xs i ≡ some pass → length ys ≤ i
      → (0 < times (number pass) now.numbers) × GoesOn (number pass) (seen pass) now.seen

pub gathered_none : {P V C : Type 0} (number : P → ℕ) (seen : P → History C) (view : Known C V) (xs : List P)
    → Gathered number seen view view xs xs
gathered_none number seen view xs = record {
  rest = [];
  split = sym (append-nil xs);
  size = refl;
  own = λ k speaks. (speaks, ([], sym (append-nil view.seen), refl));
  taken = λ i pass at le. absurd (omega (arith, le, at_length xs i pass at));
}

pub gathered_one : {P V C Z : Type 0} (number : P → ℕ) (seen : P → History C)
    (shape : V → Z) (fits : Z → History C → ℕ → C → Bool)
    (old now other : Known C V) (slot : List (ℕ × Held V C)) (next : Seated C V) (xs ys left : List P) (pass : P)
    → Gathered number seen old now xs ys → ys ≡ left ++ pass ∷ []
    → other.numbers ≡ number pass ∷ [] → other.seen ≡ seen pass
    → settles shape fits (met now other, slot) next → Gathered number seen old next.0 xs left
gathered_one {P} {V} {C} number seen shape fits old now other slot next xs ys left pass g cut numbered saw settled =
    let more : History C = settled.0 in
    let numbers : next.0.numbers ≡ now.numbers ++ (number pass ∷ []) =
    ap (λ (v : Known C V). v.numbers) settled.1 ∙ ap (λ (ns : List ℕ). now.numbers ++ ns) numbered in
    let sees : next.0.seen ≡ now.seen ++ more = ap (λ (v : Known C V). v.seen) settled.1 in
    let times_now : (k : ℕ) → times k next.0.numbers ≡ times k now.numbers + times k (number pass ∷ []) =
    λ (k : ℕ). ap (times k) numbers ∙ times-append k now.numbers (number pass ∷ []) in
    let on : (k : ℕ) → 0 < times k now.numbers → GoesOn k now.seen next.0.seen =
    λ k speaks. (more, sees, settled.4 k speaks) in
    let split : xs ≡ (left ++ pass ∷ []) ++ g.rest = g.split ∙ ap (λ (l : List P). l ++ g.rest) cut in
    let mine : (0 < times (number pass) next.0.numbers) × GoesOn (number pass) (seen pass) next.0.seen = (
      omega (arith, times_now (number pass), times_one (number pass)),
      subst (λ (h : History C). GoesOn (number pass) h next.0.seen) saw
          (subst (λ (h : History C). GoesOn (number pass) other.seen h) (sym sees)
          (settled.5 (number pass) (let e = ap (times (number pass)) numbered in
          omega (arith, e, times_one (number pass))))),
    ) in
    record {
      rest = pass ∷ g.rest;
      split = split ∙ append_assoc left (pass ∷ []) g.rest;
      size = let a = ap length numbers in let b = ap length cut in
          omega (arith, a, b, g.size, length-append now.numbers (number pass ∷ []), length-append left (pass ∷ []));
      own = λ k speaks. let was = g.own k speaks in (
        omega (arith, was.0, times_now k),
        goes_both k old.seen now.seen next.0.seen was.1 (on k was.0),
      );
      taken = λ i other_pass at le.
          ⊎_elim
          (λ later.
          let was = g.taken i other_pass at (let b = ap length cut in omega (
            arith,
            b,
            later,
            length-append left
                (pass ∷ []),
          )) in (
            omega (arith, was.0, times_now (number other_pass)),
            goes_both (number other_pass) (seen other_pass) now.seen next.0.seen was.1 (on (number other_pass) was.0),
          ))
          (λ is. subst (λ (p : P). (0 < times (number p) next.0.numbers) × GoesOn (number p) (seen p) next.0.seen) is
          mine)
          (at_cut left pass other_pass g.rest i (ap (λ (l : List P). get_elem? l i) (sym split) ∙ at) le);
    }

-- the pass that is taken in next is one of those
pub gathered_at : {P V C : Type 0} (number : P → ℕ) (seen : P → History C) (old now : Known C V) (xs ys left : List P)
    (pass : P)
    → Gathered number seen old now xs ys → ys ≡ left ++ pass ∷ [] → get_elem? xs (length left) ≡ some pass
gathered_at {P} number seen old now xs ys left pass g cut =
    ap (λ (l : List P). get_elem? l (length left)) (g.split ∙ ap (λ (l : List P). l ++ g.rest) cut)
    ∙ at_longer (left ++ pass ∷ []) g.rest (length left) pass (at_last left pass (length left) refl)

-- where numbers are left, there is a first one
pub left_over : {C V : Type 0} (value : V) (first n : ℕ) (me : Seated C V)
    → me ≡ (record (maker value 0) { numbers = from first n }, []) → 0 < n
    → (m : ℕ) × (n ≡ suc m) × (me.0 ≡ record (maker value 0) { numbers = from first (suc m) })
left_over {C} {V} value first n me is stands =
    let one = one_more n stands in (
      one.0,
      one.1,
      ap (λ (s : Seated C V). s.0) is
          ∙ ap (λ (k : ℕ). let v : Known C V = record (maker value 0) { numbers = from first k } in v) one.1,
    )
