-- What a history adds up to, by the callers of its lines.
use Rattle.std.proofs.Common.{◌≡◌, ◌≢◌, ◌∙◌, ◌+◌, ◌<◌, ◌≤◌, ℕ, zero, suc, Bool, eqb, true, false, cond, List, [], ◌∷◌, length, refl, sym, ap, arith}
use Rattle.std.specs.List.{All, sum_by}
use Rattle.std.proofs.lemmas.Bool.{eq-eqb, ne_eqb, eqb-true, eqb-false}
use Rattle.std.proofs.lemmas.List.Elements.{All-head, All-tail}
use Rattle.std.proofs.lemmas.List.Sums.{sum_by-cons}
use mathlib.Core.Option.{some}
use lib.ListN.{get_elem?}
use Rattle.turn_log.specs.History.{History, own}
use Rattle.caster_press.specs.declared.line.Line.{Line}
use Rattle.caster_press.specs.Lines.{lines_of}

-- what the lines of so many callers add up to, from the caller of this number on
abbrev sum_from : (Line → ℕ) → ℕ → ℕ → History Line → ℕ
sum_from count n zero h = 0
sum_from count n (suc m) h = sum_by count (own n h) + sum_from count (suc n) m h

own_here : (n : ℕ) (e : ℕ × Line) (h : History Line) → e.0 ≡ n → own n (e ∷ h) ≡ e.1 ∷ own n h
own_here n e h is = ap (λ t. cond t (e.1 ∷ own n h) (own n h)) (eq-eqb e.0 n is)

own_else : (n : ℕ) (e : ℕ × Line) (h : History Line) → e.0 ≢ n → own n (e ∷ h) ≡ own n h
own_else n e h other = ap (λ t. cond t (e.1 ∷ own n h) (own n h)) (ne_eqb e.0 n other)

none_from : (count : Line → ℕ) (n m : ℕ) → sum_from count n m [] ≡ 0
none_from count n zero = refl
none_from count n (suc m) = let rest = none_from count (suc n) m in omega (arith, rest)

-- a line of a caller before them
from_before : (count : Line → ℕ) (n m : ℕ) (e : ℕ × Line) (h : History Line) → e.0 < n
    → sum_from count n m (e ∷ h) ≡ sum_from count n m h
from_before count n zero e h less = refl
from_before count n (suc m) e h less =
    let here = ap (sum_by count) (own_else n e h (λ is. absurd (omega (arith, is, less)))) in
    let rest = from_before count (suc n) m e h (omega (arith, less)) in omega (arith, here, rest)

above : (a b : ℕ) → a ≤ b → b ≢ a → suc a ≤ b
above a b le ne = omega (arith, le, ne)

-- a line of one of them
from_one : (count : Line → ℕ) (n m : ℕ) (e : ℕ × Line) (h : History Line) → n ≤ e.0 → e.0 < n + m
    → sum_from count n m (e ∷ h) ≡ count e.1 + sum_from count n m h
from_one count n zero e h at below = absurd (omega (arith, at, below))
from_one count n (suc m) e h at below =
    by (eqb e.0 n) refl (λ later. from_one count (suc n) m e h later (omega (arith, below))) where
      by : (b : Bool) → eqb e.0 n ≡ b
          → (suc n ≤ e.0 → sum_from count (suc n) m (e ∷ h) ≡ count e.1 + sum_from count (suc n) m h)
          → sum_from count n (suc m) (e ∷ h) ≡ count e.1 + sum_from count n (suc m) h
      by true is next =
          let same = eqb-true e.0 n is in
          let here = ap (sum_by count) (own_here n e h same) ∙ sum_by-cons count e.1 (own n h) in
          let rest = from_before count (suc n) m e h (omega (arith, same)) in omega (arith, here, rest)
      by false is next =
          let other = eqb-false e.0 n is in
          let here = ap (sum_by count) (own_else n e h other) in
          let rest = next (above n e.0 at other) in
          omega (arith, here, rest)

all_from : (count : Line → ℕ) (m : ℕ) (h : History Line) → All (λ (e : ℕ × Line). e.0 < m) h
    → sum_by count (lines_of h) ≡ sum_from count 0 m h
all_from count m [] all = sym (none_from count 0 m)
all_from count m (e ∷ h) all =
    let here = sum_by-cons count e.1 (lines_of h) in
    let rest = all_from count m h (All-tail (λ (e : ℕ × Line). e.0 < m) e h all) in
    let one = from_one count 0 m e h (omega arith)
    (below m e.0 (All-head (λ (e : ℕ × Line). e.0 < m) e h all)) in omega (arith, here, rest, one) where
      below : (a b : ℕ) → b < a → b < 0 + a
      below a b less = omega (arith, less)

lists_from : (count : Line → ℕ) (n : ℕ) (lists : List (List Line)) (h : History Line)
    → ((k : ℕ) (lines : List Line) → get_elem? lists k ≡ some lines → own (n + k) h ≡ lines)
    → sum_from count n (length lists) h ≡ sum_by (λ lines. sum_by count lines) lists
lists_from count n [] h each = refl
lists_from count n (lines ∷ lists) h each =
    let here = ap (sum_by count)
    (ap (λ (k : ℕ). own k h) (let e : n ≡ n + 0 = omega arith in e) ∙ each 0 lines refl) in
    let rest = lists_from count (suc n) lists h
    (λ k more at. ap (λ (i : ℕ). own i h) (moved n k) ∙ each (suc k) more at) in
    let sums = sum_by-cons (λ l. sum_by count l) lines lists in omega (arith, here, rest, sums) where
      moved : (a b : ℕ) → suc a + b ≡ a + suc b
      moved a b = omega arith

-- a history of callers with these own lines, and of nobody else
pub sum_of_lists : (count : Line → ℕ) (lists : List (List Line)) (h : History Line)
    → All (λ (e : ℕ × Line). e.0 < length lists) h
    → ((k : ℕ) (lines : List Line) → get_elem? lists k ≡ some lines → own k h ≡ lines)
    → sum_by count (lines_of h) ≡ sum_by (λ lines. sum_by count lines) lists
sum_of_lists count lists h all each =
    all_from count (length lists) h all
    ∙ lists_from count 0 lists h (λ k lines at. ap (λ (i : ℕ). own i h) (from_zero k) ∙ each k lines at) where
      from_zero : (k : ℕ) → 0 + k ≡ k
      from_zero k = omega arith
