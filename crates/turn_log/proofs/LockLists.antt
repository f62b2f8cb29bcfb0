-- Lists of numbers and sums over lists, for the rule of the lock.
use Rattle.std.proofs.Common.{◌≡◌, ◌≢◌, ℕ, zero, suc, ◌+◌, ◌<◌, ◌≤◌, ◌⊎◌, inl, inr, ⊎_elim, Bool, cond, List, [], ◌∷◌, ◌++◌, length, get_or, set, take, drop, refl, sym, ◌∙◌, ap, subst, arith, sum_by, eqb, eq-eqb, ne_eqb, take-append-drop, length-append, append-nil}
use Rattle.std.proofs.lemmas.List.{take_all, drop_all}
use Rattle.std.proofs.lemmas.List.Sums.{sum_by-cons, sum_by-append, sum_by-set}
use mathlib.Core.Option.{some, some-injective, some-ne-none}
use mathlib.Core.Logic.{dite}
use native.Mathlib.Decide.{ℕ_discrete}
use lib.ListN.{get_elem?}
use Rattle.atomic_table.proofs.Lists.{at_set, at_longer, at_last}
use Rattle.turn_log.specs.LockRule.{times, from}

-- one index has one element

pub at_length : {A : Type 0} (l : List A) (i : ℕ) (a : A) → get_elem? l i ≡ some a → i < length l
at_length [] i a e = absurd (some-ne-none a (sym e))
at_length (x ∷ xs) zero a e = omega arith
at_length (x ∷ xs) (suc i) a e = let r = at_length xs i a e in omega arith

pub at_or : {A : Type 0} (l : List A) (i : ℕ) (a d : A) → get_elem? l i ≡ some a → get_or l i d ≡ a
at_or [] i a d e = absurd (some-ne-none a (sym e))
at_or (x ∷ xs) zero a d e = some-injective x a e
at_or (x ∷ xs) (suc i) a d e = at_or xs i a d e

pub at_same : {A : Type 0} (l : List A) (i j : ℕ) (a b : A) → i ≡ j → get_elem? l i ≡ some a → get_elem? l j ≡ some b
    → a ≡ b
at_same l i j a b is e f = some-injective a b (sym e ∙ ap (get_elem? l) is ∙ f)

-- a fact of each element, after one was set
pub each_set : {A : Type 0} (P : A → Type 0) (l : List A) (i : ℕ) (a : A)
    → ((j : ℕ) (b : A) → j ≢ i → get_elem? l j ≡ some b → P b) → P a
    → (j : ℕ) (b : A) → get_elem? (set l i a) j ≡ some b → P b
each_set P l i a others mine j b e =
    ⊎_elim (λ t. subst P t.1 mine) (λ t. others j b t.0 t.1) (at_set l i j a b e)

-- sums

module _ {A : Type 0} (f : A → ℕ) where
  pub sum_set : (l : List A) (i : ℕ) (v w : A) → get_elem? l i ≡ some v
      → sum_by f (set l i w) + f v ≡ sum_by f l + f w
  sum_set l i v w e =
      ap (λ a. sum_by f (set l i w) + f a) (sym (at_or l i v v e)) ∙ sum_by-set f l i w v (at_length l i v e)

  pub in_sum : (l : List A) (i : ℕ) (v : A) → get_elem? l i ≡ some v → f v ≤ sum_by f l
  in_sum [] i v e = absurd (some-ne-none v (sym e))
  in_sum (x ∷ xs) zero v e =
      let is : f x ≡ f v = ap f (some-injective x v e) in omega (arith, is, sum_by-cons f x xs)
  in_sum (x ∷ xs) (suc i) v e = omega (arith, in_sum xs i v e, sum_by-cons f x xs)

  pub two_in_sum : (l : List A) (i j : ℕ) (v w : A) → i ≢ j → get_elem? l i ≡ some v → get_elem? l j ≡ some w
      → f v + f w ≤ sum_by f l
  two_in_sum [] i j v w ne e d = absurd (some-ne-none v (sym e))
  two_in_sum (x ∷ xs) zero zero v w ne e d = absurd (ne refl)
  two_in_sum (x ∷ xs) zero (suc j) v w ne e d =
      let is : f x ≡ f v = ap f (some-injective x v e) in omega (arith, is, in_sum xs j w d, sum_by-cons f x xs)
  two_in_sum (x ∷ xs) (suc i) zero v w ne e d =
      let is : f x ≡ f w = ap f (some-injective x w d) in omega (arith, is, in_sum xs i v e, sum_by-cons f x xs)
  two_in_sum (x ∷ xs) (suc i) (suc j) v w ne e d =
      omega (arith, two_in_sum xs i j v w (λ is. ne (ap suc is)) e d, sum_by-cons f x xs)

  pub sum_le : (g : A → ℕ) (l : List A) → ((i : ℕ) (v : A) → get_elem? l i ≡ some v → f v ≤ g v)
      → sum_by f l ≤ sum_by g l
  sum_le g [] le = omega arith
  sum_le g (x ∷ xs) le =
      omega (arith, le 0 x refl, sum_le g xs (λ i v e. le (suc i) v e), sum_by-cons f x xs, sum_by-cons g x xs)

-- how often a number stands in a list

pub times-append : (k : ℕ) (a b : List ℕ) → times k (a ++ b) ≡ times k a + times k b
times-append k a b = sum_by-append (λ n. cond (eqb n k) 1 0) a b

pub times-cons : (k n : ℕ) (ns : List ℕ) → times k (n ∷ ns) ≡ cond (eqb n k) 1 0 + times k ns
times-cons k n ns = sum_by-cons (λ m. cond (eqb m k) 1 0) n ns

pub times_cut : (k : ℕ) (ns : List ℕ) → times k (drop 1 ns) + times k (take 1 ns) ≡ times k ns
times_cut k ns =
    omega (arith, sym (times-append k (take 1 ns) (drop 1 ns)) ∙ ap (times k) (take-append-drop 1 ns))

pub times_one : (k : ℕ) → times k (k ∷ []) ≡ 1
times_one k = times-cons k k [] ∙ ap (λ b. cond b 1 0 + times k []) (eq-eqb k k refl)

-- numbers one after another

pub length-from : (m n : ℕ) → length (from m n) ≡ n
length-from m zero = refl
length-from m (suc n) = let r = length-from (m + 1) n in omega arith

pub from_within : (k m n : ℕ) → 0 < times k (from m n) → (m ≤ k) × (k < m + n)
from_within k m zero stands = absurd (omega arith)
from_within k m (suc n) stands =
    let first = times-cons k m (from (m + 1) n) in
    dite (ℕ_discrete m k)
    (λ is. (omega arith, omega arith))
    (λ ne.
    let none : cond (eqb m k) 1 0 ≡ 0 = ap (λ (b : Bool). let r : ℕ = cond b 1 0 in r) (ne_eqb m k ne) in
    let more : 0 < times k (from (m + 1) n) = omega (arith, first, none) in
    let r = from_within k (m + 1) n more in (omega (arith, r.0), omega (arith, r.1)))

pub from_once : (k m n : ℕ) → times k (from m n) ≤ 1
from_once k m zero = omega arith
from_once k m (suc n) =
    let first = times-cons k m (from (m + 1) n) in
    let rest = from_once k (m + 1) n in
    dite (ℕ_discrete m k)
    (λ is.
    let one : cond (eqb m k) 1 0 ≡ 1 = ap (λ (b : Bool). let r : ℕ = cond b 1 0 in r) (eq-eqb m k is) in
    dite (ℕ_discrete (times k (from (m + 1) n)) 0)
    (λ nowhere. omega (arith, first, one, nowhere))
    (λ stands. let r = from_within k (m + 1) n (omega (arith, stands)) in absurd (omega (arith, r.0, is))))
    (λ ne.
    let none : cond (eqb m k) 1 0 ≡ 0 = ap (λ (b : Bool). let r : ℕ = cond b 1 0 in r) (ne_eqb m k ne) in
    omega (arith, first, none, rest))

-- an element of a list with one more at its end is an earlier one, or that one
pub at_end : {A : Type 0} (l : List A) (a b : A) (j : ℕ) → get_elem? (l ++ a ∷ []) j ≡ some b
    → (get_elem? l j ≡ some b) ⊎ ((j ≡ length l) × (a ≡ b))
at_end [] a b zero e = inr (refl, some-injective a b e)
at_end [] a b (suc j) e = absurd (some-ne-none b (sym e))
at_end (x ∷ xs) a b zero e = inl e
at_end (x ∷ xs) a b (suc j) e =
    ⊎_elim (λ found. inl found) (λ last. inr (ap suc last.0, last.1)) (at_end xs a b j e)

-- the element that stands at the end of a beginning
pub at_cut : {A : Type 0} (l : List A) (a b : A) (rest : List A) (j : ℕ) → get_elem? ((l ++ a ∷ []) ++ rest) j ≡ some b
    → length l ≤ j → (length l < j) ⊎ (a ≡ b)
at_cut [] a b rest zero e le = inr (some-injective a b e)
at_cut [] a b rest (suc j) e le = inl (omega arith)
at_cut (x ∷ xs) a b rest zero e le = absurd (omega (arith, le))
at_cut (x ∷ xs) a b rest (suc j) e le =
    ⊎_elim (λ later. inl (omega (arith, later))) (λ is. inr is) (at_cut xs a b rest j e (omega (arith, le)))

pub one_more : (n : ℕ) → 0 < n → (m : ℕ) × (n ≡ suc m)
one_more zero stands = absurd (omega (arith, stands))
one_more (suc m) stands = (m, refl)

-- the two elements of a list, as they are taken from its end
pub at_two : {A : Type 0} (xs ys zs : List A) (a b : A) → xs ≡ ys ++ b ∷ [] → ys ≡ zs ++ a ∷ [] → length xs ≡ 2
    → (get_elem? xs 0 ≡ some a) × (get_elem? xs 1 ≡ some b)
at_two {A} xs ys zs a b cut_b cut_a long =
    let n : length zs ≡ 0 = omega (
      arith,
      long,
      ap length cut_b,
      ap length cut_a,
      length-append ys (b ∷ []),
      length-append zs (a ∷ []),
    ) in
    let m : length ys ≡ 1 = omega (arith, n, ap length cut_a, length-append zs (a ∷ [])) in (
      ap (λ (l : List A). get_elem? l 0) (cut_b ∙ ap (λ (l : List A). l ++ b ∷ []) cut_a)
          ∙ at_longer (zs ++ a ∷ []) (b ∷ []) 0 a (at_last zs a 0 n),
      ap (λ (l : List A). get_elem? l 1) cut_b ∙ at_last ys b 1 m,
    )

-- a slice of a whole list, given back as it is now
pub as_it_is : {X : Type 0} (olds news : List X) (len : ℕ) → len ≡ length olds → length news ≡ length olds
    → take len (news ++ drop (length news) olds) ≡ news
as_it_is olds news len long same =
    ap (λ (n : ℕ). take len (news ++ drop n olds)) same
    ∙ ap (λ l. take len (news ++ l)) (drop_all (length olds) olds (omega arith))
    ∙ ap (take len) (append-nil news) ∙ take_all len news (omega (arith, long, same))

pub slice_size : {X : Type 0} (olds slice news : List X) (len : ℕ) → slice ≡ olds → len ≡ length olds
    → length news ≡ length slice → length (take len (news ++ drop (length news) olds)) ≡ length olds
slice_size olds slice news len is long same =
    ap length (as_it_is olds news len long (same ∙ ap length is)) ∙ same ∙ ap length is
