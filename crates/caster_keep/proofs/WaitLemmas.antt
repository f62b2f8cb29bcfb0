-- The porter at the places of a caller.
use Rattle.std.proofs.Common.{◌≡◌, ◌≤◌, ◌++◌, ℕ, zero, suc, Bool, true, false, List, [], ◌∷◌, length, map, get_or, inl, inr, refl, sym, ap, subst, arith}
use Rattle.std.specs.Prelude.{◌||◌}
use Rattle.std.specs.List.{All, flat_map}
use Rattle.std.proofs.lemmas.List.Elements.{All-nil, All-cons, All-head, All-tail}
use Rattle.turn_log.specs.History.{History}
use Rattle.mount_ring.specs.declared.shape.RingShape.{RingShape}
use Rattle.caster_accounts.specs.declared.call.BookCall.{BookCall}
use Rattle.session_calls.specs.Rings.{Went, all_alone}
use Rattle.session_calls.proofs.WentLemmas.{went_less}
use Rattle.rover_session.specs.Places.{AtRing}
use Rattle.rover_session.specs.Standing.{KnowsFilter}
use Rattle.rover_session.proofs.BaseLemmas.{went_as}
use Rattle.cast_config.specs.declared.config.Config.{Config}
use Rattle.cast_config.specs.Kept.{KeepsRules}
use Rattle.cast_console.specs.Consoles.{ConsoleTold}
use Rattle.session_model.specs.Setting.{shapes}
use Rattle.session_core.proofs.AdmittedLemmas.{knows_filter}
use Rattle.keep_porter.specs.declared.found.Found.{Found}
use Rattle.keep_porter.specs.Porters.{Answer, AreFound, HasAnswered, IsFound, IsOfAll, MayShut, answer_lines, any_lacks, busy_of, steps_of}

-- ---- refusals, at the places with that at the book

longer : (worn : List ℕ) (book k : ℕ) → get_or worn k 0 ≤ get_or (worn ++ book ∷ []) k 0
longer [] book k = omega arith
longer (x ∷ worn) book zero = omega arith
longer (x ∷ worn) book (suc k) = longer worn book k

shut_wider : (lacks too : Bool) (worn : List ℕ) (book : ℕ) → MayShut lacks worn
    → MayShut (lacks || too) (worn ++ book ∷ [])
shut_wider lacks too worn book (inl (k, is)) = inl (k, omega (arith, is, longer worn book k))
shut_wider lacks too worn book (inr is) = inr (ap (λ (b : Bool). b || too) is)

found_wider : (lacks too : Bool) (worn : List ℕ) (book : ℕ) (found : Found) → IsFound lacks worn found
    → IsFound (lacks || too) (worn ++ book ∷ []) found
found_wider lacks too worn book found is = record {
  looked = λ none. shut_wider lacks too worn book (is.looked none);
  joined = λ none. shut_wider lacks too worn book (is.joined none);
}

all_wider : (lacks too : Bool) (worn : List ℕ) (book : ℕ) (found : List Found) → All (IsFound lacks worn) found
    → All (IsFound (lacks || too) (worn ++ book ∷ [])) found
all_wider lacks too worn book [] all = All-nil (IsFound (lacks || too) (worn ++ book ∷ []))
all_wider lacks too worn book (one ∷ found) all =
    All-cons (IsFound (lacks || too) (worn ++ book ∷ [])) one found
    (found_wider lacks too worn book one (All-head (IsFound lacks worn) one found all))
    (all_wider lacks too worn book found (All-tail (IsFound lacks worn) one found all))

answers_wider : (lacks too : Bool) (worn : List ℕ) (book : ℕ) (given : List Answer) → All (AreFound lacks worn) given
    → All (AreFound (lacks || too) (worn ++ book ∷ [])) given
answers_wider lacks too worn book [] all = All-nil (AreFound (lacks || too) (worn ++ book ∷ []))
answers_wider lacks too worn book (one ∷ given) all =
    All-cons (AreFound (lacks || too) (worn ++ book ∷ [])) one given
    (all_wider lacks too worn book one.found (All-head (AreFound lacks worn) one given all))
    (answers_wider lacks too worn book given (All-tail (AreFound lacks worn) one given all))

-- ---- the configuration's mountpoints

-- the filter of the first group is known at each of them
pub first_known : {P : Type 0} (shape : P → RingShape) (cap : ℕ) (c : Config) (places : List P) → KeepsRules cap c
    → map shape places ≡ shapes c → 1 ≤ length c.group → KnowsFilter (map shape places) 0
first_known shape cap c places kept are some =
    subst (λ (l : List RingShape). KnowsFilter l 0) (sym are) (knows_filter c 0 (omega (arith, some)))

-- ---- all answers

pub answered : {P : Type 0} (ring : AtRing P) (book_lacks : Bool) (book_worn : ℕ) (c : Config) (me : ℕ)
    (old now : List P) (book : History BookCall) (before after : ConsoleTold) (given : List Answer)
    → map ring.shape old ≡ shapes c
    → after.busy ≡ before.busy ++ map busy_of given
    → Went (map ring.shape old) (all_alone ring.alone old) (map ring.seen old) (map ring.seen now) me
    (flat_map steps_of given)
    → All (AreFound (any_lacks (map ring.may_lack now)) (map ring.worn now)) given
    → All (IsOfAll c) given → after.over ≡ true
    → HasAnswered c me (any_lacks (map ring.may_lack now) || book_lacks) (map ring.worn now ++ book_worn ∷ [])
    (record { rings = map ring.seen old; book = book }) (record { rings = map ring.seen now; book = book }) before after
    given (flat_map (answer_lines c) given)
answered ring book_lacks book_worn c me old now book before after given are told went found whole over = record {
  told = told;
  went = went_less (shapes c) (all_alone ring.alone old) false (map ring.seen old) (map ring.seen now) me
      (flat_map steps_of given) (λ never. absurd (let clash : false ≡ true = never in cc))
      (went_as (shapes c) (map ring.shape old) (all_alone ring.alone old) (all_alone ring.alone old) (map ring.seen old)
      (map ring.seen now) me (flat_map steps_of given) are refl went);
  book = refl;
  found = answers_wider (any_lacks (map ring.may_lack now)) book_lacks (map ring.worn now) book_worn given found;
  whole = whole;
  said = refl;
  over = over;
}
