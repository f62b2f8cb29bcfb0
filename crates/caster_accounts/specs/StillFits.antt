-- What fits a history also fits it followed by a fitting entry of another caller.
use Rattle.std.specs.Prelude.{◌≡◌, ◌≢◌, ℕ, ◌==◌, nat_lt, if◌then◌else◌, Bool, true, false, List, [], ◌∷◌, ◌++◌, length, IsTrue}
use Rattle.std.proofs.Common.{refl, ap, ◌∙◌, sym}
use Rattle.std.proofs.lemmas.Bool.{eqb-true, and_parts, and_from}
use Rattle.std.proofs.lemmas.List.Sums.{fold-append}
use Rattle.caster_accounts.specs.declared.call.BookCall.{BookCall}
use Rattle.caster_accounts.specs.declared.call.BookCall.TheVariants.{Enter, Leave}
use Rattle.caster_accounts.specs.History.{cap_at, without, is_among, goes, callers_in, fits}

-- who is inside after one more entry
pub callers_after : (cap account : ℕ) (h : List (ℕ × BookCall)) (by : ℕ) (call : BookCall) →
    callers_in cap account (h ++ (by, call) ∷ [])
    ≡ goes cap account (callers_in cap account h) by call
callers_after cap account h by call =
    fold-append (λ callers entry. goes cap account callers entry.0 entry.1) [] h ((by, call) ∷ [])

-- a caller that is among others is still there when another one comes first
among_more : (me by : ℕ) (callers : List ℕ) → is_among me callers ≡ true →
    is_among me (by ∷ callers) ≡ true
among_more me by callers mine = by_test (by == me) where
  by_test : (b : Bool) → (if b then true else is_among me callers) ≡ true
  by_test true = refl
  by_test false = mine

-- and when another one goes
pub among_without : (me by : ℕ) (callers : List ℕ) → by ≢ me → is_among me callers ≡ true →
    is_among me (without by callers) ≡ true
among_without me by [] apart mine = mine
among_without me by (caller ∷ callers) apart mine =
    by_test (among_without me by callers apart) (caller == by) refl (caller == me) refl mine where
      by_test : (is_among me callers ≡ true → is_among me (without by callers) ≡ true)
          → (b : Bool) → (caller == by) ≡ b → (c : Bool) → (caller == me) ≡ c
          → (if c then true else is_among me callers) ≡ true
          → is_among me (if b then callers else caller ∷ without by callers) ≡ true
      by_test later true is true also here =
          absurd (apart (sym (eqb-true caller by is) ∙ eqb-true caller me also))
      by_test later true is false other here = here
      by_test later false not true is here =
          ap (λ (b : Bool). if b then true else is_among me (without by callers)) is
      by_test later false not false other here =
          ap (λ (b : Bool). if b then true else is_among me (without by callers)) other ∙ later here

-- a caller that is inside an account is still inside after a call of another one
among_after : (cap account : ℕ) (callers : List ℕ) (me by : ℕ) (call : BookCall) → by ≢ me →
    is_among me callers ≡ true → is_among me (goes cap account callers by call) ≡ true
among_after cap account callers me by (Enter entered) apart mine =
    by_tests (entered == account) (length callers == cap) where
      by_tests : (b c : Bool) →
          is_among me (if b then if c then callers else by ∷ callers else callers) ≡ true
      by_tests true true = mine
      by_tests true false = among_more me by callers mine
      by_tests false c = mine
among_after cap account callers me by (Leave left sent overrun) apart mine =
    by_test (left == account) where
      by_test : (b : Bool) → is_among me (if b then without by callers else callers) ≡ true
      by_test true = among_without me by callers apart mine
      by_test false = mine

-- what fits a history fits it with one more entry, as an object of turns has to show
pub still_fits_one : (caps : List ℕ) (h : List (ℕ × BookCall)) (me by : ℕ) (call other : BookCall)
    → IsTrue (fits caps h me call) → by ≢ me → IsTrue (fits caps h by other)
    → IsTrue (fits caps (h ++ (by, other) ∷ []) me call)
still_fits_one caps h me by (Enter account) other fitting apart theirs = fitting
still_fits_one caps h me by (Leave account sent overrun) other fitting apart theirs =
    let cap : ℕ = cap_at caps account in
    let parts = and_parts (nat_lt account (length caps)) _ fitting in
    and_from _ _ parts.0
    (ap (is_among me) (callers_after cap account h by other)
    ∙ among_after cap account (callers_in cap account h) me by other apart parts.1)
