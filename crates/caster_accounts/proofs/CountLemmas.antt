-- Open sessions, counted over the entries of a legal history.
use Rattle.std.proofs.Common.{◌≡◌, ℕ, suc, ◌+◌, ◌<◌, Bool, true, false, List, [], ◌∷◌, ◌++◌, length, refl, ap, subst, ◌∙◌, sym, arith, append_assoc, append-nil}
use Rattle.std.specs.Prelude.{◌==◌, if◌then◌else◌, nat_lt, ◌&&◌, IsTrue}
use Rattle.std.proofs.lemmas.Bool.{eqb-true, and_parts, and_from, le-leb}
use Rattle.turn_log.specs.History.{IsLegal, IsLegalAfter}
use Rattle.caster_accounts.specs.declared.call.BookCall.{BookCall}
use Rattle.caster_accounts.specs.declared.call.BookCall.TheVariants.{Enter, Leave}
use Rattle.caster_accounts.specs.declared.call.BookAnswer.TheVariants.{Entered, Full}
use Rattle.caster_accounts.specs.History.{cap_at, without, is_among, goes, callers_in, inside, fits, may_leave, entry_answer}
use Rattle.caster_accounts.specs.StillFits.{callers_after}
use Rattle.caster_accounts.specs.Counts.{one, count_of, is_entered, enters, leaves, opened, ended}

count_without : (is_of : ℕ → Bool) (me : ℕ) (callers : List ℕ) → is_among me callers ≡ true →
    one (is_of me) + count_of is_of (without me callers) ≡ count_of is_of callers
count_without is_of me [] mine = absurd cc
count_without is_of me (caller ∷ callers) mine = by_test (count_without is_of me callers) (caller == me) refl mine where
  by_test : (is_among me callers ≡ true → one (is_of me) + count_of is_of (without me callers) ≡ count_of is_of callers)
      →
      (b : Bool) → (caller == me) ≡ b → (if b then true else is_among me callers) ≡ true →
      one (is_of me) + count_of is_of (if b then callers else caller ∷ without me callers) ≡ one (is_of caller) +
      count_of is_of callers
  by_test later true is here = ap (λ (n : ℕ). one (is_of n) + count_of is_of callers) (sym (eqb-true caller me is))
  by_test later false is here = omega (arith, later here)

-- what one call changes of the count
count_after : (is_of : ℕ → Bool) (cap account : ℕ) (callers : List ℕ) (me : ℕ) (call : BookCall) →
    (leaves account call ≡ true → is_among me callers ≡ true) →
    count_of is_of (goes cap account callers me call) + one (is_of me && leaves account call)
    ≡ count_of is_of callers + one (is_of me && (enters account call && is_entered (entry_answer (length callers) cap)))
count_after is_of cap account callers me (Enter entered) mine =
    ap (λ (n : ℕ). n + one (is_of me && false)) (count_is (entered == account) (length callers == cap))
    ∙ by_tests (entered == account) (length callers == cap) (is_of me) where
      count_is : (b c : Bool) → count_of is_of (if b then if c then callers else me ∷ callers else callers)
          ≡ (if b then if c then count_of is_of callers else one (is_of me) + count_of is_of callers else count_of is_of
          callers)
      count_is true true = refl
      count_is true false = refl
      count_is false c = refl

      by_tests : (b c d : Bool) →
          (if b then if c then count_of is_of callers else one d + count_of is_of callers else count_of is_of callers) +
          one (d && false)
          ≡ count_of is_of callers + one (d && (b && is_entered (if c then Full (length callers) cap else Entered)))
      by_tests true true true = refl
      by_tests true true false = refl
      by_tests true false true = omega arith
      by_tests true false false = omega arith
      by_tests false c true = refl
      by_tests false c false = refl
count_after is_of cap account callers me (Leave left sent overrun) mine =
    by_tests (left == account) mine (is_of me) refl where
      by_tests : (b : Bool) → (b ≡ true → is_among me callers ≡ true) → (d : Bool) → is_of me ≡ d →
          count_of is_of (if b then without me callers else callers) + one (d && b) ≡ count_of is_of callers + one
          (d && false)
      by_tests true here true is = omega (arith, count_without is_of me callers (here refl), ap one is)
      by_tests true here false is = omega (arith, count_without is_of me callers (here refl), ap one is)
      by_tests false here true is = refl
      by_tests false here false is = refl

among_leaver : (caps : List ℕ) (h : List (ℕ × BookCall)) (me account : ℕ) (call : BookCall)
    → fits caps h me call ≡ true →
    leaves account call ≡ true → is_among me (callers_in (cap_at caps account) account h) ≡ true
among_leaver caps h me account (Enter entered) fitting leaves_it = absurd cc
among_leaver caps h me account (Leave left sent overrun) fitting leaves_it =
    subst (λ (n : ℕ). is_among me (callers_in (cap_at caps n) n h) ≡ true) (eqb-true left account leaves_it)
    (and_parts (nat_lt left (length caps)) _ fitting).1

counted_from : (caps : List ℕ) (account : ℕ) (is_of : ℕ → Bool) (before entries : List (ℕ × BookCall)) →
    IsLegalAfter (fits caps) before entries →
    count_of is_of (callers_in (cap_at caps account) account (before ++ entries)) + ended account is_of entries
    ≡ count_of is_of (callers_in (cap_at caps account) account before) + opened caps account is_of before entries
counted_from caps account is_of before [] legal =
    ap (λ (l : List (ℕ × BookCall)). count_of is_of (callers_in (cap_at caps account) account l) + 0)
    (append-nil before)
counted_from caps account is_of before (entry ∷ entries) legal =
    let cap : ℕ = cap_at caps account in
    let fitting : fits caps before entry.0 entry.1 ≡ true =
    ap (λ (l : List (ℕ × BookCall)). fits caps l entry.0 entry.1) (sym (append-nil before))
    ∙ legal [] entry.0 entry.1 entries refl in
    let whole : count_of is_of (callers_in cap account ((before ++ entry ∷ []) ++ entries)) ≡ count_of is_of
    (callers_in cap account (before ++ entry ∷ entries)) =
    ap (λ (l : List (ℕ × BookCall)). count_of is_of (callers_in cap account l))
    (append_assoc before (entry ∷ []) entries) in
    let goes_is : count_of is_of (callers_in cap account (before ++ entry ∷ [])) ≡ count_of is_of
    (goes cap account (callers_in cap account before) entry.0 entry.1) =
    ap (count_of is_of) (callers_after cap account before entry.0 entry.1) in
    omega (
      arith,
      whole,
      goes_is,
      count_after is_of cap account (callers_in cap account before) entry.0 entry.1
          (among_leaver caps before entry.0 account entry.1 fitting),
      counted_from caps account is_of (before ++ entry ∷ []) entries (λ b by call after is.
          ap (λ (l : List (ℕ × BookCall)). fits caps l by call) (append_assoc before (entry ∷ []) b)
          ∙ legal (entry ∷ b) by call after (ap (λ (l : List (ℕ × BookCall)). entry ∷ l) is)),
    )

pub sessions_counted : (caps : List ℕ) (account : ℕ) (is_of : ℕ → Bool) (h : List (ℕ × BookCall))
    → IsLegal (fits caps) h →
    count_of is_of (callers_in (cap_at caps account) account h) + ended account is_of h ≡ opened caps account is_of [] h
sessions_counted caps account is_of h legal = omega (arith, counted_from caps account is_of [] h legal)

count_all : (callers : List ℕ) → count_of (λ _. true) callers ≡ length callers
count_all [] = refl
count_all (caller ∷ callers) = omega (arith, count_all callers)

pub inside_counted : (caps : List ℕ) (account : ℕ) (h : List (ℕ × BookCall)) → IsLegal (fits caps) h →
    inside (cap_at caps account) account h + ended account (λ _. true) h ≡ opened caps account (λ _. true) [] h
inside_counted caps account h legal =
    omega (
      arith,
      count_all (callers_in (cap_at caps account) account h),
      sessions_counted caps account (λ _. true) h
          legal,
    )

-- ---- one caller

among_counts : (me : ℕ) (callers : List ℕ) → is_among me callers ≡ true → 0 < count_of (λ caller. caller == me) callers
among_counts me [] mine = absurd cc
among_counts me (caller ∷ callers) mine = by_test (among_counts me callers) (caller == me) mine where
  by_test : (is_among me callers ≡ true → 0 < count_of (λ caller. caller == me) callers) → (b : Bool) →
      (if b then true else is_among me callers) ≡ true → 0 < one b + count_of (λ caller. caller == me) callers
  by_test later true here = omega arith
  by_test later false here = omega (arith, later here)

counts_among : (me : ℕ) (callers : List ℕ) → 0 < count_of (λ caller. caller == me) callers → is_among me callers ≡ true
counts_among me [] some = absurd (let e : ⊥ = omega (arith, some) in e)
counts_among me (caller ∷ callers) some = by_test (counts_among me callers) (caller == me) some where
  by_test : (0 < count_of (λ caller. caller == me) callers → is_among me callers ≡ true) → (b : Bool) →
      0 < one b + count_of (λ caller. caller == me) callers → (if b then true else is_among me callers) ≡ true
  by_test later true here = refl
  by_test later false here = later (omega (arith, here))

pub leaver_opened : (caps : List ℕ) (h : List (ℕ × BookCall)) (me account : ℕ) → IsLegal (fits caps) h →
    IsTrue (may_leave caps h me account) →
    ended account (λ caller. caller == me) h < opened caps account (λ caller. caller == me) [] h
leaver_opened caps h me account legal may =
    omega (
      arith,
      sessions_counted caps account (λ caller. caller == me) h legal,
      among_counts me (callers_in (cap_at caps account) account h) (and_parts (nat_lt account (length caps)) _ may).1,
    )

pub opener_leaves : (caps : List ℕ) (h : List (ℕ × BookCall)) (me account : ℕ) → IsLegal (fits caps) h
    → account < length caps →
    ended account (λ caller. caller == me) h < opened caps account (λ caller. caller == me) [] h →
    IsTrue (may_leave caps h me account)
opener_leaves caps h me account legal low more =
    and_from _ _ (le-leb (suc account) (length caps) low)
    (counts_among me (callers_in (cap_at caps account) account h)
    (omega (arith, more, sessions_counted caps account (λ caller. caller == me) h legal)))
