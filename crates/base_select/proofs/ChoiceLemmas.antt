-- The best place so far.
use Rattle.std.proofs.Common.{◌≡◌, ℕ, ◌+◌, ◌<◌, ◌≤◌, List, length, get_or, subst, arith, inl, inr}
use Rattle.std.proofs.lemmas.Bool.{cases_lt}
use Rattle.base_select.specs.Choice.{IsNearest}

-- n is the place of the least of the first i
pub record IsBest (all : List ℕ) (i n : ℕ) : Type 0 where
  pub within : n < i
  pub least : (k : ℕ) → k < i → get_or all n 0 ≤ get_or all k 0
  pub first : (k : ℕ) → k < n → get_or all n 0 < get_or all k 0

pub best_of_one : (all : List ℕ) → IsBest all 1 0
best_of_one all = record {
  within = omega arith;
  least = λ k lt. let zero : 0 ≡ k = omega arith in
      subst (λ (m : ℕ). get_or all 0 0 ≤ get_or all m 0) zero (omega arith);
  first = λ k lt. absurd (omega arith);
}

pub best_keeps : (all : List ℕ) (i n : ℕ) → IsBest all i n → get_or all n 0 ≤ get_or all i 0 → IsBest all (i + 1) n
best_keeps all i n best le = record {
  within = omega (arith, best.within);
  least = λ k lt. elim (cases_lt k i) [
    | inl below ↦ best.least k below
    | inr above ↦ let last : i ≡ k = omega arith in
        subst (λ (m : ℕ). get_or all n 0 ≤ get_or all m 0) last le
  ];
  first = best.first;
}

pub best_takes : (all : List ℕ) (i n : ℕ) → IsBest all i n → get_or all i 0 < get_or all n 0 → IsBest all (i + 1) i
best_takes all i n best less = record {
  within = omega arith;
  least = λ k lt. elim (cases_lt k i) [
    | inl below ↦ omega (arith, best.least k below, less)
    | inr above ↦ let last : i ≡ k = omega arith in
        subst (λ (m : ℕ). get_or all i 0 ≤ get_or all m 0) last (omega arith)
  ];
  first = λ k lt. omega (arith, best.least k lt, less);
}

pub best_of_all : (all : List ℕ) (i n : ℕ) → length all ≡ i → IsBest all i n → IsNearest all n
best_of_all all i n e best = record {
  within = omega (arith, best.within, e);
  least = λ k lt. best.least k (omega (arith, lt, e));
  first = best.first;
}
