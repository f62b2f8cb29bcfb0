-- The sums of all accounts are those of each account, added up, and those of each caller.
use Rattle.std.proofs.Common.{◌≡◌, ◌∙◌, ◌<◌, ◌++◌, ◌+◌, All, ℕ, suc, Bool, true, false, List, [], ◌∷◌, length, refl, sym, ap, subst, arith}
use Rattle.std.specs.Prelude.{⊤, ◌==◌, if◌then◌else◌}
use Rattle.std.specs.List.{sum_by}
use Rattle.std.proofs.lemmas.List.Sums.{sum_by-cons}
use Rattle.std.proofs.lemmas.Bool.{eq-eqb}
use Rattle.std.proofs.lemmas.List.{append-nil, length-map}
use Rattle.std.proofs.lemmas.List.Elements.{All-head, All-tail}
use mathlib.Core.Option.{some}
use lib.ListN.{get_elem?}
use Rattle.turn_log.specs.History.{History, IsLegal, GoesOn, own}
use Rattle.turn_log.proofs.HistoryLaws.{own-append}
use Rattle.caster_places.proofs.ListLemmas.{map_at, all_at, within}
use Rattle.caster_places.specs.Leaves.{left_in}
use Rattle.caster_places.specs.Piles.{IsWhole}
use Rattle.caster_places.specs.Rows.{left_by, seen_in_book}
use Rattle.caster_accounts.specs.declared.account.Sum.{Sum}
use Rattle.caster_accounts.specs.declared.call.BookCall.{BookCall}
use Rattle.caster_accounts.specs.History.{fits}
use Rattle.caster_accounts.specs.Sums.{nothing, after_any, total, total_of_all}
use Rattle.caster_accounts.specs.Sums as sums
use Rattle.session_model.specs.Reports.{added, sums_from}
use Rattle.session_model.specs.Run.{Histories}
use Rattle.cast_config.specs.declared.config.Account.{Account}
use Rattle.session_model.proofs.ReportSums.{total_named}
use Rattle.caster_accounts.proofs.CallSums.{from, from_same, from_zero, from_plus, at_one, from_hit, step_sum, counted, IsNamed, AreNamed, named_after, plus_zero, from_none, sum_with, one_more, part_of_all}

-- ---- calls of one caller

-- what an entry counts for this caller
abbrev counted_by : (ℕ → ℕ → ℕ) → ℕ → ℕ × BookCall → ℕ
counted_by weight me entry = at_one entry.0 (counted weight entry.1) me

-- the callers are numbered below this
abbrev AreBelow : ℕ → History BookCall → Type 0
AreBelow n [] = ⊤
AreBelow n (entry ∷ h) = (entry.0 < n) × AreBelow n h

-- caller by caller, or call by call
of_callers : (weight : ℕ → ℕ → ℕ) (n : ℕ) (h : History BookCall) → AreBelow n h
    → from (λ me. sum_by (counted_by weight me) h) 0 n
    ≡ sum_by (λ (entry : ℕ × BookCall). counted weight entry.1) h
of_callers weight n [] below = from_zero 0 n
of_callers weight n (entry ∷ h) below =
    from_same (λ me. sum_by (counted_by weight me) (entry ∷ h))
    (λ me. counted_by weight me entry + sum_by (counted_by weight me) h)
    (λ me. sum_by-cons (counted_by weight me) entry h) 0 n
    ∙ from_plus (λ me. counted_by weight me entry) (λ me. sum_by (counted_by weight me) h) 0 n
    ∙ ap (λ (m : ℕ). m + from (λ me. sum_by (counted_by weight me) h) 0 n)
    (from_hit entry.0 (counted weight entry.1) 0 n (omega arith) (omega (arith, below.0)))
    ∙ ap (λ (m : ℕ). counted weight entry.1 + m) (of_callers weight n h below.1)
    ∙ sym (sum_by-cons (λ (e : ℕ × BookCall). counted weight e.1) entry h)

-- what counts for a caller are its own calls
of_own : (weight : ℕ → ℕ → ℕ) (me : ℕ) (h : History BookCall)
    → sum_by (counted_by weight me) h ≡ sum_by (counted weight) (own me h)
of_own weight me [] = refl
of_own weight me (entry ∷ h) =
    sum_by-cons (counted_by weight me) entry h
    ∙ ap (λ (m : ℕ). counted_by weight me entry + m) (of_own weight me h)
    ∙ by_test (entry.0 == me)
  where
    by_test : (b : Bool) → (if b then counted weight entry.1 else 0) + sum_by (counted weight) (own me h)
        ≡ sum_by (counted weight) (if b then entry.1 ∷ own me h else own me h)
    by_test true = sym (sum_by-cons (counted weight) entry.1 (own me h))
    by_test false = omega arith

below_all : (n : ℕ) (h : History BookCall) → All (λ (entry : ℕ × BookCall). entry.0 < n) h → AreBelow n h
below_all n [] all = tt
below_all n (entry ∷ h) all = (
  All-head (λ (e : ℕ × BookCall). e.0 < n) entry h all,
  below_all n h (All-tail (λ (e : ℕ × BookCall). e.0 < n) entry h all),
)

-- ---- one of the three numbers of a sum

module _ (part : Sum → ℕ) (weight : ℕ → ℕ → ℕ) (none : part nothing ≡ 0)
    (adds : (sum : Sum) (sent overrun : ℕ) → part (sums.added sum sent overrun) ≡ part sum + weight sent overrun)
    (both : (sum next : Sum) → part (record {
      sessions = sum.sessions + next.sessions;
      sent = sum.sent + next.sent;
      overrun = sum.overrun + next.overrun;
    }) ≡ part sum + part next) where
  left_more : (calls : List BookCall) (sum : Sum) → part (left_in sum calls) ≡ part sum + sum_by (counted weight) calls
  left_more [] sum = plus_zero (part sum)
  left_more (call ∷ calls) sum =
      left_more calls (after_any sum call)
      ∙ step_sum (part sum) (part (after_any sum call)) (counted weight call) (sum_by (counted weight) calls)
      (sum_by (counted weight) (call ∷ calls)) (one_more part weight none adds sum call)
      (sum_by-cons (counted weight) call calls)

  part_left : (me : ℕ) (h : History BookCall)
      → part (left_in nothing (own me h)) ≡ sum_by (counted_by weight me) h
  part_left me h =
      left_more (own me h) nothing
      ∙ from_none (part nothing) (sum_by (counted weight) (own me h)) none
      ∙ sym (of_own weight me h)

  -- each of these callers, numbered from this number on, called in the whole history what it saw of
  -- its own
  part_rows : (sum : Sum) (k : ℕ) (whole : History BookCall) (rows : List Histories)
      → ((i : ℕ) (row : Histories) → get_elem? rows i ≡ some row → own (k + i) row.book ≡ own (k + i) whole)
      → part (added sum (left_by k rows))
      ≡ part sum + from (λ me. sum_by (counted_by weight me) whole) k (length rows)
  part_rows sum k whole [] each = plus_zero (part sum)
  part_rows sum k whole (row ∷ rows) each =
      let next : Sum = left_in nothing (own k row.book) in
      let more : Sum = sum_with (sum.sessions + next.sessions) (sum.sent + next.sent) (sum.overrun + next.overrun) in
      let same : part next ≡ sum_by (counted_by weight k) whole =
      ap (λ (calls : List BookCall). part (left_in nothing calls)) (here k (each 0 row refl)) ∙ part_left k whole in
      ap (λ (n : ℕ). part (added more (left_by n rows))) (one_later k)
      ∙ part_rows more (k + 1) whole rows (λ i r at. later k i r.book (each (suc i) r at))
      ∙ step_sum (part sum) (part more) (sum_by (counted_by weight k) whole)
      (from (λ me. sum_by (counted_by weight me) whole) (k + 1) (length rows))
      (from (λ me. sum_by (counted_by weight me) whole) k (length (row ∷ rows)))
      (both sum next ∙ ap (λ (n : ℕ). part sum + n) same) refl
    where
      here : (n : ℕ) → own (n + 0) row.book ≡ own (n + 0) whole → own n row.book ≡ own n whole
      here n same = subst (λ (m : ℕ). own m row.book ≡ own m whole) (sym (plus_zero n)) same

      one_later : (n : ℕ) → suc n ≡ n + 1
      one_later n = omega arith

      later : (n i : ℕ) (h : History BookCall) → own (n + suc i) h ≡ own (n + suc i) whole
          → own ((n + 1) + i) h ≡ own ((n + 1) + i) whole
      later n i h same =
          subst (λ (m : ℕ). own m h ≡ own m whole) (let e : n + suc i ≡ (n + 1) + i = omega arith in e) same

  part_callers : (whole : History BookCall) (rows : List Histories) → AreBelow (length rows) whole
      → ((i : ℕ) (row : Histories) → get_elem? rows i ≡ some row → own i row.book ≡ own i whole)
      → part (total_of_all whole) ≡ part (added nothing (left_by 0 rows))
  part_callers whole rows below each =
      part_of_all part weight none adds whole
      ∙ sym (of_callers weight (length rows) whole below)
      ∙ sym (from_none (part nothing) (from (λ me. sum_by (counted_by weight me) whole) 0 (length rows)) none)
      ∙ sym (part_rows nothing 0 whole rows (λ i row at.
      subst (λ (m : ℕ). own m row.book ≡ own m whole) (from_start i) (each i row at)))
    where
      from_start : (n : ℕ) → n ≡ 0 + n
      from_start n = omega arith

-- ---- the whole history by what its callers have seen

abbrev AreNamedCalls : ℕ → List BookCall → Type 0
AreNamedCalls n [] = ⊤
AreNamedCalls n (call ∷ calls) = IsNamed n call × AreNamedCalls n calls

named_own : (n me : ℕ) (h : History BookCall) → AreNamed n h → AreNamedCalls n (own me h)
named_own n me [] named = tt
named_own n me (entry ∷ h) named = by_test (named_own n me h named.1) (entry.0 == me) where
  by_test : AreNamedCalls n (own me h) → (b : Bool) → AreNamedCalls n (if b then entry.1 ∷ own me h else own me h)
  by_test rest true = (named.0, rest)
  by_test rest false = rest

named_here : (n : ℕ) (entry : ℕ × BookCall) (h : History BookCall) → AreNamedCalls n (own entry.0 (entry ∷ h))
    → IsNamed n entry.1
named_here n entry h named = by_test (entry.0 == entry.0) (eq-eqb entry.0 entry.0 refl) named where
  by_test : (b : Bool) → b ≡ true → AreNamedCalls n (if b then entry.1 ∷ own entry.0 h else own entry.0 h)
      → IsNamed n entry.1
  by_test true is calls = calls.0
  by_test false is calls = absurd cc

named_rest : (n me : ℕ) (entry : ℕ × BookCall) (h : History BookCall) → AreNamedCalls n (own me (entry ∷ h))
    → AreNamedCalls n (own me h)
named_rest n me entry h named = by_test (entry.0 == me) named where
  by_test : (b : Bool) → AreNamedCalls n (if b then entry.1 ∷ own me h else own me h) → AreNamedCalls n (own me h)
  by_test true calls = calls.1
  by_test false calls = calls

-- a history is named where the calls of each of its callers are
named_by : (n m : ℕ) (h : History BookCall) → AreBelow m h → ((me : ℕ) → me < m → AreNamedCalls n (own me h))
    → AreNamed n h
named_by n m [] below each = tt
named_by n m (entry ∷ h) below each = (
  named_here n entry h (each entry.0 below.0),
  named_by n m h below.1 (λ me less. named_rest n me entry h (each me less)),
)

-- what a caller called in the whole history is what it saw of its own
own_seen : (me : ℕ) (seen whole : History BookCall) → GoesOn me seen whole → own me seen ≡ own me whole
own_seen me seen whole goes =
    sym (ap (own me) goes.1 ∙ own-append me seen goes.0 ∙ ap (λ (l : List BookCall). own me seen ++ l) goes.2
    ∙ append-nil (own me seen))

module _ (rows : List Histories) (whole : History BookCall) (is : IsWhole (seen_in_book rows) whole) where
  own_row : (i : ℕ) (row : Histories) → get_elem? rows i ≡ some row → own i row.book ≡ own i whole
  own_row i row at =
      own_seen i row.book whole (is.each i row.book (map_at (λ (r : Histories). r.book) rows i row at))

  below_rows : AreBelow (length rows) whole
  below_rows =
      subst (λ (n : ℕ). AreBelow n whole) (length-map rows (λ (r : Histories). r.book))
      (below_all (length (seen_in_book rows)) whole is.numbers)

  named_rows : (caps : List ℕ) → All (λ (row : Histories). IsLegal (fits caps) row.book) rows
      → AreNamed (length caps) whole
  named_rows caps legal =
      named_by (length caps) (length rows) whole below_rows (λ me less.
      let row = within rows me less in
      subst (AreNamedCalls (length caps)) (own_row me row.0 row.1)
      (named_own (length caps) me row.0.book
      (named_after caps [] row.0.book
      (all_at (λ (r : Histories). IsLegal (fits caps) r.book) rows me row.0 legal row.1))))

  -- the sums of all accounts are those of the callers, added up
  pub total_by_callers : total_of_all whole ≡ added nothing (left_by 0 rows)
  total_by_callers =
      let sessions = part_callers (λ (s : Sum). s.sessions) (λ sent overrun. 1) refl (λ sum sent overrun. refl)
      (λ sum next. refl) whole rows below_rows own_row in
      let sent = part_callers (λ (s : Sum). s.sent) (λ sent overrun. sent) refl (λ sum sent overrun. refl)
      (λ sum next. refl) whole rows below_rows own_row in
      let overrun = part_callers (λ (s : Sum). s.overrun) (λ sent overrun. overrun) refl (λ sum sent overrun. refl)
      (λ sum next. refl) whole rows below_rows own_row in
      let all = total_of_all whole in
      let one_by_one = added nothing (left_by 0 rows) in
      ap (λ (n : ℕ). sum_with n all.sent all.overrun) sessions
      ∙ ap (λ (n : ℕ). sum_with one_by_one.sessions n all.overrun) sent
      ∙ ap (sum_with one_by_one.sessions one_by_one.sent) overrun

-- the sums of all accounts, where there are so many named ones beside the first
pub total_is : (h : Histories) (caps : List ℕ) (accounts : List Account) (rows : List Histories)
    → length caps ≡ suc (length accounts) → IsWhole (seen_in_book rows) h.book
    → All (λ (row : Histories). IsLegal (fits caps) row.book) rows → total_of_all h.book ≡ added (total 0 h.book)
    (sums_from 1 h accounts)
total_is h caps accounts rows count is legal =
    let named : AreNamed (suc (length accounts)) h.book =
    subst (λ (n : ℕ). AreNamed n h.book) count (named_rows rows h.book is caps legal) in
    total_named h accounts named
