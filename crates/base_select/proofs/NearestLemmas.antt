-- The nearest base as a function.
use Rattle.std.proofs.Common.{◌≡◌, ◌↔◌, ℕ, ◌+◌, ◌<◌, ◌≤◌, List, [], ◌∷◌, length, get_or, drop, Option, Some, refl, sym, ap, subst, ◌∙◌, arith, inl, inr}
use Rattle.std.specs.Prelude.{slice_index}
use Rattle.std.proofs.Math.ListN.{drop_of_length-le}
use Rattle.std.proofs.lemmas.Bool.{cases_lt, lt-ltb, le-ltb}
use Rattle.std.proofs.lemmas.List.{drop_more}
use Rattle.gga_read.specs.declared.Position.{Position}
use Rattle.base_select.specs.declared.Base.{Base}
use Rattle.base_select.specs.Choice.{measures, mounts, IsNearest, nearest_from, nearest_of, place_of, chosen, IsChoice, choice_of}
use Rattle.base_select.proofs.ChoiceLemmas.{IsBest, best_of_one, best_keeps, best_takes, best_of_all}
use Rattle.base_select.proofs.LawLemmas.{nearest_unique}

-- what stands at a place, and after it
record IsNext (all : List ℕ) (i m : ℕ) (more : List ℕ) : Type 0 where
  within : i < length all
  here : get_or all i 0 ≡ m
  after : drop (i + 1) all ≡ more

head_same : (x y : ℕ) (xs ys : List ℕ) → x ∷ xs ≡ y ∷ ys → x ≡ y
head_same x y xs ys e = cc

tail_same : (x y : ℕ) (xs ys : List ℕ) → x ∷ xs ≡ y ∷ ys → xs ≡ ys
tail_same x y xs ys e = cc

next_at : (all : List ℕ) (i m : ℕ) (more : List ℕ) → drop i all ≡ m ∷ more → IsNext all i m more
next_at all i m more e =
    elim (cases_lt i (length all)) [
      | inl lt ↦
          let parts : get_or all i 0 ∷ drop (i + 1) all ≡ m ∷ more = sym (drop_more all i 0 lt) ∙ e in
          record { within = lt; here = head_same _ m _ more parts; after = tail_same (get_or all i 0) m _ more parts }
      | inr le ↦ absurd (let none : [] ≡ m ∷ more = sym (drop_of_length-le all le) ∙ e in cc)
    ]

none_after : (all : List ℕ) (i : ℕ) → drop i all ≡ [] → length all ≤ i
none_after all i e =
    elim (cases_lt i (length all)) [
      | inl lt ↦ absurd (let some : get_or all i 0 ∷ drop (i + 1) all ≡ [] = sym (drop_more all i 0 lt) ∙ e in cc)
      | inr le ↦ le
    ]

best_from : (all : List ℕ) (best place : ℕ) (rest : List ℕ) → place ≤ length all → drop place all ≡ rest
    → IsBest all place best
    → IsNearest all (nearest_from best (get_or all best 0) place rest)
best_from all best place [] within e is = best_of_all all place best (let most = none_after all place e in omega arith)
    is
best_from all best place (m ∷ more) within e is =
    let next = next_at all place m more e in
    elim (cases_lt m (get_or all best 0)) [
      | inl less ↦
          let nearer : get_or all place 0 < get_or all best 0 = omega (arith, next.here) in
          rw (lt-ltb _ _ less)
          (subst (λ (k : ℕ). IsNearest all (nearest_from place k (place + 1) more)) next.here
          (best_from all place (place + 1) more (omega (arith, next.within)) next.after
          (best_takes all place best is nearer)))
      | inr le ↦
          let farther : get_or all best 0 ≤ get_or all place 0 = omega (arith, next.here) in
          rw (le-ltb _ _ le) (best_from all best (place + 1) more (omega (arith, next.within)) next.after
          (best_keeps all place best is farther))
    ]

nearest_is : (all : List ℕ) → 0 < length all → IsNearest all (nearest_of all)
nearest_is [] some = absurd (omega arith)
nearest_is (m ∷ more) some = best_from (m ∷ more) 0 1 more (omega arith) refl (best_of_one (m ∷ more))

pub nearest_is_of : (all : List ℕ) (n : ℕ) → 0 < length all → IsNearest all n ↔ (n ≡ nearest_of all)
nearest_is_of all n some = (
  λ is. nearest_unique all n (nearest_of all) is (nearest_is all some),
  λ e. subst (IsNearest all) (sym e) (nearest_is all some),
)

abbrev some_mount : ℕ → Option ℕ
some_mount n = Some n

mount_is : (m n : ℕ) → some_mount m ≡ some_mount n → m ≡ n
mount_is m n e = cc

pub choice_is_of : (current : Option ℕ) (rover : Position) (bases : List Base) (h mount : ℕ)
    → IsChoice current rover bases h mount ↔ (choice_of current rover bases h ≡ Some mount)
choice_is_of current rover [] h mount = (λ c. absurd (omega (arith, c.is_nearest.within)), λ e. absurd cc)
choice_is_of current rover (base ∷ bases) h mount =
    let all = measures rover (base ∷ bases) in
    let some : 0 < length (measures rover (base ∷ bases)) = omega arith in (
      λ c. ap Some (sym (c.is_chosen
          ∙ ap (λ (n : ℕ). slice_index (mounts (base ∷ bases)) (chosen (measures rover (base ∷ bases)) h n
          (place_of current (base ∷ bases))))
          ((nearest_is_of (measures rover (base ∷ bases)) c.nearest some).0 c.is_nearest))),
      λ e. record {
        nearest = nearest_of (measures rover (base ∷ bases));
        is_nearest = nearest_is (measures rover (base ∷ bases)) some;
        is_chosen = sym (mount_is _ mount e);
      },
    )
