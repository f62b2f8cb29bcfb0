-- What every history of a book shows.
use Rattle.std.proofs.Common.{◌≡◌, ℕ, suc, ◌<◌, ◌≤◌, Bool, true, false, List, [], ◌∷◌, length, refl, arith}
use Rattle.std.specs.Prelude.{◌==◌, if◌then◌else◌, fold, nat_lt}
use Rattle.std.proofs.lemmas.Bool.{eqb-false, and_parts}
use Rattle.caster_accounts.specs.declared.call.BookCall.{BookCall}
use Rattle.caster_accounts.specs.declared.call.BookCall.TheVariants.{Enter, Leave}
use Rattle.caster_accounts.specs.History.{cap_at, without, goes, callers_in, inside, may_leave}
use Rattle.caster_accounts.proofs.BookLemmas.{length_without}

-- who leaves does not make more callers
fewer_without : (me : ℕ) (callers : List ℕ) → length (without me callers) ≤ length callers
fewer_without me [] = omega arith
fewer_without me (caller ∷ callers) = by_test (fewer_without me callers) (caller == me) where
  by_test : length (without me callers) ≤ length callers → (b : Bool) →
      length (if b then callers else caller ∷ without me callers) ≤ suc (length callers)
  by_test fewer true = omega arith
  by_test fewer false = omega (arith, fewer)

goes_capped : (cap account : ℕ) (callers : List ℕ) (me : ℕ) (call : BookCall) → length callers ≤ cap →
    length (goes cap account callers me call) ≤ cap
goes_capped cap account callers me (Enter entered) few = by_tests (entered == account) (length callers == cap) refl
  where
    by_tests : (b c : Bool) → (length callers == cap) ≡ c →
        length (if b then if c then callers else me ∷ callers else callers) ≤ cap
    by_tests true true is = few
    by_tests true false is = omega (arith, few, eqb-false (length callers) cap is)
    by_tests false c is = few
goes_capped cap account callers me (Leave left sent overrun) few = by_test (left == account) where
  by_test : (b : Bool) → length (if b then without me callers else callers) ≤ cap
  by_test true = omega (arith, few, fewer_without me callers)
  by_test false = few

capped_from : (cap account : ℕ) (callers : List ℕ) (h : List (ℕ × BookCall)) → length callers ≤ cap →
    length (fold (λ callers entry. goes cap account callers entry.0 entry.1) callers h) ≤ cap
capped_from cap account callers [] few = few
capped_from cap account callers (entry ∷ h) few =
    capped_from cap account (goes cap account callers entry.0 entry.1) h
    (goes_capped cap account callers entry.0 entry.1 few)

pub inside_capped : (cap account : ℕ) (h : List (ℕ × BookCall)) → inside cap account h ≤ cap
inside_capped cap account h = capped_from cap account [] h (omega arith)

pub leaver_inside : (caps : List ℕ) (h : List (ℕ × BookCall)) (me account : ℕ) → may_leave caps h me account ≡ true →
    0 < inside (cap_at caps account) account h
leaver_inside caps h me account may =
    omega (
      arith,
      length_without me (callers_in (cap_at caps account) account h)
          (and_parts (nat_lt account (length caps)) _ may).1,
    )
