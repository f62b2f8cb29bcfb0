-- Which element stands at a place.
use Rattle.std.proofs.Common.{◌≡◌, ℕ, zero, suc, ◌+◌, ◌<◌, length-append, List, [], ◌∷◌, ◌++◌, length, get_or, refl, ap, sym, subst, arith}
use mathlib.Core.Option.{some}
use lib.ListN.{get_elem?}

pub at_index : {A : Type 0} (l : List A) (i : ℕ) (a : A) → i < length l → a ≡ get_or l i a → get_elem? l i ≡ some a
at_index [] i a below is = absurd (let e : ⊥ = omega (arith, below) in e)
at_index (x ∷ l) zero a below is = ap some (sym is)
at_index (x ∷ l) (suc i) a below is = at_index l i a (omega (arith, below)) is

-- behind the others stands the last one
pub at_last : {A : Type 0} (l : List A) (a : A) → get_elem? (l ++ a ∷ []) (length l) ≡ some a
at_last [] a = refl
at_last (x ∷ l) a = at_last l a

-- and before it they stand where they stood
pub at_front : {A : Type 0} (l : List A) (a b : A) (i : ℕ) → get_elem? l i ≡ some b → get_elem? (l ++ a ∷ []) i ≡ some b
at_front [] a b i is = absurd cc
at_front (x ∷ l) a b zero is = is
at_front (x ∷ l) a b (suc i) is = at_front l a b i is

-- what stands in a list with one more stood there before, or is that one
pub at_either : {A : Type 0} (P : A → Type 0) (l : List A) (a : A) → ((i : ℕ) (b : A) → get_elem? l i ≡ some b → P b)
    → P a
    → (i : ℕ) (b : A) → get_elem? (l ++ a ∷ []) i ≡ some b → P b
at_either P [] a each last zero b is = let same : a ≡ b = cc in subst P same last
at_either P [] a each last (suc i) b is = absurd cc
at_either P (x ∷ l) a each last zero b is = each zero b is
at_either P (x ∷ l) a each last (suc i) b is = at_either P l a (λ j c at. each (suc j) c at) last i b is

pub one_longer : {A : Type 0} (xs ys : List A) (a : A) → ys ≡ xs ++ a ∷ [] → length ys ≡ length xs + 1
one_longer xs ys a is = omega (arith, ap length is, length-append xs (a ∷ []))
