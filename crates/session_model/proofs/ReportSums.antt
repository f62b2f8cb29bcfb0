-- The sums of the first accounts and of one more.
use Rattle.std.proofs.Common.{◌≡◌, ◌∙◌, ◌+◌, ◌<◌, ◌++◌, ℕ, zero, suc, List, [], ◌∷◌, length, take, refl, sym, ap, arith}
use Rattle.std.specs.List.{sum_by}
use Rattle.caster_accounts.specs.declared.account.Sum.{Sum}
use Rattle.caster_accounts.specs.Sums.{nothing, total, total_of_all}
use Rattle.caster_accounts.specs.Sums as sums
use Rattle.caster_accounts.specs.declared.call.BookCall.{BookCall}
use Rattle.caster_accounts.proofs.CallSums.{from, from_same, step_sum, counted_at, AreNamed, of_calls, plus_zero, sum_with, part_of_all, part_of}
use Rattle.cast_config.specs.declared.config.Account.{Account}
use Rattle.session_model.specs.declared.report.MountTotal.{MountTotal}
use Rattle.session_model.specs.Run.{Histories}
use Rattle.session_model.specs.Reports.{added, sums_from}

-- what a mountpoint came to, as it is told
abbrev pub total_with : ℕ → ℕ → MountTotal
total_with published claims = record { published = published; claims = claims }

one_next : (n : ℕ) → suc n ≡ n + 1
one_next n = omega arith

sums_suc : (h : Histories) (k n : ℕ) (accounts : List Account) → n < length accounts
    → sums_from k h (take (suc n) accounts) ≡ sums_from k h (take n accounts) ++ total (k + n) h.book ∷ []
sums_suc h k n [] within = absurd (omega (arith, within))
sums_suc h k zero (account ∷ accounts) within = ap (λ (m : ℕ). total m h.book ∷ []) (none_more k)
  where
    none_more : (m : ℕ) → m ≡ m + 0
    none_more m = omega arith
sums_suc h k (suc n) (account ∷ accounts) within =
    ap (λ l. total k h.book ∷ l) (sums_suc h (k + 1) n accounts (omega (arith, within)))
    ∙ ap (λ (m : ℕ). total k h.book ∷ (sums_from (k + 1) h (take n accounts) ++ total m h.book ∷ [])) (moved k n)
  where
    moved : (j m : ℕ) → (j + 1) + m ≡ j + suc m
    moved j m = omega arith

pub sums_more : (h : Histories) (n : ℕ) (accounts : List Account) → n < length accounts
    → sums_from 1 h (take (n + 1) accounts) ≡ sums_from 1 h (take n accounts) ++ total (n + 1) h.book ∷ []
sums_more h n accounts within =
    ap (λ (m : ℕ). sums_from 1 h (take m accounts)) (sym (one_next n)) ∙ sums_suc h 1 n accounts within
    ∙ ap (λ (m : ℕ). sums_from 1 h (take n accounts) ++ total m h.book ∷ []) (swapped n)
  where
    swapped : (m : ℕ) → 1 + m ≡ m + 1
    swapped m = omega arith

-- there is a sum for each account
pub sums_long : (n : ℕ) (h : Histories) (accounts : List Account) → length (sums_from n h accounts) ≡ length accounts
sums_long n h [] = refl
sums_long n h (account ∷ more) = ap suc (sums_long (n + 1) h more)

-- ---- the sums of all accounts are those of each, added up: one of the three numbers

module _ (part : Sum → ℕ) (weight : ℕ → ℕ → ℕ) (none : part nothing ≡ 0)
    (adds : (sum : Sum) (sent overrun : ℕ) → part (sums.added sum sent overrun) ≡ part sum + weight sent overrun)
    (both : (sum next : Sum) → part (record {
      sessions = sum.sessions + next.sessions;
      sent = sum.sent + next.sent;
      overrun = sum.overrun + next.overrun;
    }) ≡ part sum + part next) where
  part_added : (sum : Sum) (k : ℕ) (h : Histories) (accounts : List Account)
      → part (added sum (sums_from k h accounts))
      ≡ part sum + from (λ account. part (total account h.book)) k (length accounts)
  part_added sum k h [] = plus_zero (part sum)
  part_added sum k h (account ∷ accounts) =
      let more : Sum = sum_with (sum.sessions + (total k h.book).sessions) (sum.sent + (total k h.book).sent)
      (sum.overrun + (total k h.book).overrun) in
      part_added more (k + 1) h accounts
      ∙ step_sum (part sum) (part more) (part (total k h.book))
      (from (λ n. part (total n h.book)) (k + 1) (length accounts))
      (from (λ n. part (total n h.book)) k (length (account ∷ accounts))) (both sum (total k h.book)) refl

  part_total : (h : Histories) (accounts : List Account) → AreNamed (suc (length accounts)) h.book
      → part (total_of_all h.book) ≡ part (added (total 0 h.book) (sums_from 1 h accounts))
  part_total h accounts named =
      part_of_all part weight none adds h.book
      ∙ sym (of_calls weight (suc (length accounts)) h.book named)
      ∙ sym (from_same (λ account. part (total account h.book))
      (λ account. sum_by (λ (entry : ℕ × BookCall). counted_at weight account entry.1) h.book)
      (λ account. part_of part weight none adds account h.book) 0 (suc (length accounts)))
      ∙ sym (part_added (total 0 h.book) 1 h accounts)

-- and all three, where calls name so many accounts beside the first
pub total_named : (h : Histories) (accounts : List Account) → AreNamed (suc (length accounts)) h.book
    → total_of_all h.book ≡ added (total 0 h.book) (sums_from 1 h accounts)
total_named h accounts named =
    let sessions = part_total (λ (s : Sum). s.sessions) (λ sent overrun. 1) refl (λ sum sent overrun. refl)
    (λ sum next. refl) h accounts named in
    let sent = part_total (λ (s : Sum). s.sent) (λ sent overrun. sent) refl (λ sum sent overrun. refl)
    (λ sum next. refl) h accounts named in
    let overrun = part_total (λ (s : Sum). s.overrun) (λ sent overrun. overrun) refl (λ sum sent overrun. refl)
    (λ sum next. refl) h accounts named in
    let all = total_of_all h.book in
    let one_by_one = added (total 0 h.book) (sums_from 1 h accounts) in
    ap (λ (n : ℕ). sum_with n all.sent all.overrun) sessions
    ∙ ap (λ (n : ℕ). sum_with one_by_one.sessions n all.overrun) sent
    ∙ ap (sum_with one_by_one.sessions one_by_one.sent) overrun
