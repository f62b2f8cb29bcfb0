-- What calls count for, added up account by account or call by call.
use Rattle.std.proofs.Common.{◌≡◌, ◌∙◌, ◌<◌, ◌≤◌, ◌++◌, ◌+◌, ℕ, zero, suc, Bool, true, false, IsTrue, List, [], ◌∷◌, fold, length, refl, sym, ap, subst, arith, append_assoc}
use Rattle.std.specs.Prelude.{⊤, ◌==◌, nat_lt, if◌then◌else◌}
use Rattle.std.specs.List.{sum_by}
use Rattle.std.proofs.lemmas.Bool.{and_parts, eqb-true, eqb-false, leb-true}
use Rattle.std.proofs.lemmas.List.Sums.{sum_by-cons}
use Rattle.turn_log.specs.History.{IsLegal}
use Rattle.caster_accounts.specs.declared.account.Sum.{Sum}
use Rattle.caster_accounts.specs.declared.call.BookCall.{BookCall}
use Rattle.caster_accounts.specs.declared.call.BookCall.TheVariants.{Enter, Leave}
use Rattle.caster_accounts.specs.Sums.{nothing, after_call, after_any, total, total_of_all}
use Rattle.caster_accounts.specs.Sums as sums
use Rattle.caster_accounts.specs.History.{fits, is_among, callers_in, cap_at}

-- ---- numbers added up

-- of so many numbers from this one on
abbrev pub from : (ℕ → ℕ) → ℕ → ℕ → ℕ
from f k zero = 0
from f k (suc n) = f k + from f (k + 1) n

pub from_same : (f g : ℕ → ℕ) → ((a : ℕ) → f a ≡ g a) → (k n : ℕ) → from f k n ≡ from g k n
from_same f g each k zero = refl
from_same f g each k (suc n) = omega (arith, each k, from_same f g each (k + 1) n)

pub from_zero : (k n : ℕ) → from (λ a. 0) k n ≡ 0
from_zero k zero = refl
from_zero k (suc n) = omega (arith, from_zero (k + 1) n)

pub from_plus : (f g : ℕ → ℕ) (k n : ℕ) → from (λ a. f a + g a) k n ≡ from f k n + from g k n
from_plus f g k zero = refl
from_plus f g k (suc n) = omega (arith, from_plus f g (k + 1) n)

-- what is counted of one of them alone
abbrev pub at_one : ℕ → ℕ → ℕ → ℕ
at_one left weight a = if left == a then weight else 0

pub at_other : (left weight a : ℕ) → (left ≡ a → ⊥) → at_one left weight a ≡ 0
at_other left weight a apart = by_test (left == a) refl where
  by_test : (b : Bool) → (left == a) ≡ b → (if b then weight else 0) ≡ 0
  by_test true same = absurd (apart (eqb-true left a same))
  by_test false other = refl

pub from_missed : (left weight k n : ℕ) → left < k → from (at_one left weight) k n ≡ 0
from_missed left weight k zero low = refl
from_missed left weight k (suc n) low =
    omega (
      arith,
      at_other left weight k (λ same. omega (arith, low, same)),
      from_missed left weight (k + 1) n (omega (arith, low)),
    )

pub from_hit : (left weight k n : ℕ) → k ≤ left → left < k + n → from (at_one left weight) k n ≡ weight
from_hit left weight k zero low high = absurd (omega (arith, low, high))
from_hit left weight k (suc n) low high =
    by_test (λ lower. from_hit left weight (k + 1) n lower (omega (arith, high))) (left == k) refl
  where
    by_test : (k + 1 ≤ left → from (at_one left weight) (k + 1) n ≡ weight) → (b : Bool) → (left == k) ≡ b
        → (if b then weight else 0) + from (at_one left weight) (k + 1) n ≡ weight
    by_test later true same =
        omega (arith, from_missed left weight (k + 1) n (omega (arith, eqb-true left k same)))
    by_test later false other = omega (arith, later (omega (arith, low, eqb-false left k other)))

-- one more is added up
pub step_sum : (x y w s t : ℕ) → y ≡ x + w → t ≡ w + s → y + s ≡ x + t
step_sum x y w s t one more = omega (arith, one, more)

-- ---- calls, account by account or one by one

-- what a call counts for
abbrev pub counted : (ℕ → ℕ → ℕ) → BookCall → ℕ
counted weight (Enter entered) = 0
counted weight (Leave left sent overrun) = weight sent overrun

-- and for this account
abbrev pub counted_at : (ℕ → ℕ → ℕ) → ℕ → BookCall → ℕ
counted_at weight account (Enter entered) = 0
counted_at weight account (Leave left sent overrun) = at_one left (weight sent overrun) account

-- who leaves leaves one of the first accounts
abbrev pub IsNamed : ℕ → BookCall → Type 0
IsNamed n (Enter entered) = ⊤
IsNamed n (Leave left sent overrun) = left < n

abbrev pub AreNamed : ℕ → List (ℕ × BookCall) → Type 0
AreNamed n [] = ⊤
AreNamed n (entry ∷ h) = IsNamed n entry.1 × AreNamed n h

pub of_call : (weight : ℕ → ℕ → ℕ) (n : ℕ) (call : BookCall) → IsNamed n call
    → from (λ account. counted_at weight account call) 0 n ≡ counted weight call
of_call weight n (Enter entered) named = from_zero 0 n
of_call weight n (Leave left sent overrun) named =
    from_hit left (weight sent overrun) 0 n (omega arith) (omega (arith, named))

-- account by account, or call by call
pub of_calls : (weight : ℕ → ℕ → ℕ) (n : ℕ) (h : List (ℕ × BookCall)) → AreNamed n h
    → from (λ account. sum_by (λ (entry : ℕ × BookCall). counted_at weight account entry.1) h) 0 n
    ≡ sum_by (λ (entry : ℕ × BookCall). counted weight entry.1) h
of_calls weight n [] named = from_zero 0 n
of_calls weight n (entry ∷ h) named =
    from_same (λ account. sum_by (λ (e : ℕ × BookCall). counted_at weight account e.1) (entry ∷ h))
    (λ account. counted_at weight account entry.1 + sum_by (λ (e : ℕ × BookCall). counted_at weight account e.1) h)
    (λ account. sum_by-cons (λ (e : ℕ × BookCall). counted_at weight account e.1) entry h) 0 n
    ∙ from_plus (λ account. counted_at weight account entry.1)
    (λ account. sum_by (λ (e : ℕ × BookCall). counted_at weight account e.1) h) 0 n
    ∙ ap (λ (m : ℕ). m + from (λ account. sum_by (λ (e : ℕ × BookCall). counted_at weight account e.1) h) 0 n)
    (of_call weight n entry.1 named.0)
    ∙ ap (λ (m : ℕ). counted weight entry.1 + m) (of_calls weight n h named.1)
    ∙ sym (sum_by-cons (λ (e : ℕ × BookCall). counted weight e.1) entry h)

-- ---- who leaves may leave

-- who leaves may leave
pub named_call : (caps : List ℕ) (before : List (ℕ × BookCall)) (by : ℕ) (call : BookCall)
    → IsTrue (fits caps before by call) → IsNamed (length caps) call
named_call caps before by (Enter entered) fitting = tt
named_call caps before by (Leave left sent overrun) fitting =
    leb-true (suc left) (length caps)
    (and_parts (nat_lt left (length caps)) (is_among by (callers_in (cap_at caps left) left before)) fitting).0

pub named_after : (caps : List ℕ) (before h : List (ℕ × BookCall)) → IsLegal (fits caps) (before ++ h)
    → AreNamed (length caps) h
named_after caps before [] legal = tt
named_after caps before (entry ∷ h) legal = (
  named_call caps before entry.0 entry.1 (legal before entry.0 entry.1 h refl),
  named_after caps (before ++ entry ∷ []) h
      (subst (IsLegal (fits caps)) (sym (append_assoc before (entry ∷ []) h)) legal),
)

-- ---- one of the three numbers of a sum

pub plus_zero : (n : ℕ) → n ≡ n + 0
plus_zero n = omega arith

pub from_none : (x s : ℕ) → x ≡ 0 → x + s ≡ s
from_none x s none = omega (arith, none)

abbrev pub sum_with : ℕ → ℕ → ℕ → Sum
sum_with sessions sent overrun = record { sessions = sessions; sent = sent; overrun = overrun }

module _ (part : Sum → ℕ) (weight : ℕ → ℕ → ℕ) (none : part nothing ≡ 0)
    (adds : (sum : Sum) (sent overrun : ℕ) → part (sums.added sum sent overrun) ≡ part sum + weight sent overrun)
  where
    pub one_more : (sum : Sum) (call : BookCall) → part (after_any sum call) ≡ part sum + counted weight call
    one_more sum (Enter entered) = plus_zero (part sum)
    one_more sum (Leave left sent overrun) = adds sum sent overrun

    pub one_more_at : (account : ℕ) (sum : Sum) (call : BookCall)
        → part (after_call account sum call) ≡ part sum + counted_at weight account call
    one_more_at account sum (Enter entered) = plus_zero (part sum)
    one_more_at account sum (Leave left sent overrun) = by_test (left == account) where
      by_test : (b : Bool) → part (if b then sums.added sum sent overrun else sum)
          ≡ part sum + (if b then weight sent overrun else 0)
      by_test true = adds sum sent overrun
      by_test false = plus_zero (part sum)

    pub all_more : (h : List (ℕ × BookCall)) (sum : Sum)
        → part (fold (λ s (entry : ℕ × BookCall). after_any s entry.1) sum h)
        ≡ part sum + sum_by (λ (entry : ℕ × BookCall). counted weight entry.1) h
    all_more [] sum = plus_zero (part sum)
    all_more (entry ∷ h) sum =
        all_more h (after_any sum entry.1)
        ∙ step_sum (part sum) (part (after_any sum entry.1)) (counted weight entry.1)
        (sum_by (λ (e : ℕ × BookCall). counted weight e.1) h)
        (sum_by (λ (e : ℕ × BookCall). counted weight e.1) (entry ∷ h)) (one_more sum entry.1)
        (sum_by-cons (λ (e : ℕ × BookCall). counted weight e.1) entry h)

    pub all_more_at : (account : ℕ) (h : List (ℕ × BookCall)) (sum : Sum)
        → part (fold (λ s (entry : ℕ × BookCall). after_call account s entry.1) sum h)
        ≡ part sum + sum_by (λ (entry : ℕ × BookCall). counted_at weight account entry.1) h
    all_more_at account [] sum = plus_zero (part sum)
    all_more_at account (entry ∷ h) sum =
        all_more_at account h (after_call account sum entry.1)
        ∙ step_sum (part sum) (part (after_call account sum entry.1)) (counted_at weight account entry.1)
        (sum_by (λ (e : ℕ × BookCall). counted_at weight account e.1) h)
        (sum_by (λ (e : ℕ × BookCall). counted_at weight account e.1) (entry ∷ h)) (one_more_at account sum entry.1)
        (sum_by-cons (λ (e : ℕ × BookCall). counted_at weight account e.1) entry h)

    pub part_of_all : (h : List (ℕ × BookCall))
        → part (total_of_all h) ≡ sum_by (λ (entry : ℕ × BookCall). counted weight entry.1) h
    part_of_all h =
        all_more h nothing
        ∙ from_none (part nothing) (sum_by (λ (entry : ℕ × BookCall). counted weight entry.1) h) none

    pub part_of : (account : ℕ) (h : List (ℕ × BookCall))
        → part (total account h) ≡ sum_by (λ (entry : ℕ × BookCall). counted_at weight account entry.1) h
    part_of account h =
        all_more_at account h nothing
        ∙ from_none (part nothing) (sum_by (λ (entry : ℕ × BookCall). counted_at weight account entry.1) h) none
