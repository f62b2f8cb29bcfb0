-- Turns of the porter at several mountpoints.
use Rattle.std.proofs.Common.{◌≡◌, ◌∙◌, ◌<◌, ◌+◌, ◌++◌, ℕ, zero, suc, Bool, true, false, IsTrue, List, [], ◌∷◌, length, map, get_or, inl, inr, refl, sym, ap, subst, arith}
use Rattle.std.specs.List.{All}
use Rattle.std.proofs.lemmas.Bool.{lt-ltb}
use Rattle.std.proofs.lemmas.List.{get_or-map, length-map}
use Rattle.std.proofs.lemmas.Grind.{get_or_default_zero}
use Rattle.std.proofs.lemmas.List.Elements.{All-nil, All-cons, All-head, All-tail}
use Rattle.turn_log.specs.Faults.{IsFault}
use Rattle.turn_log.specs.History.{History}
use Rattle.turn_log.specs.declared.place.TurnFault.{TurnFault}
use Rattle.turn_log.specs.declared.place.TurnFault.TheVariants as turns
use Rattle.mount_ring.specs.declared.call.RingCall.{RingCall}
use Rattle.mount_ring.specs.declared.shape.RingShape.{RingShape}
use Rattle.session_calls.specs.Steps.{Step}
use Rattle.session_calls.specs.Rings.{AllLater, IsAmong, Went, all_alone}
use Rattle.session_calls.proofs.PlaceLemmas.{alone_same}
use Rattle.session_calls.proofs.WentLemmas.{went_both, went_none}
use Rattle.rover_session.specs.Places.{AtRing, StayAtRings}
use Rattle.rover_session.specs.Standing.{KnowsFilter}
use Rattle.rover_session.proofs.AtLemmas.{filter_here}
use Rattle.rover_session.proofs.BaseLemmas.{went_as}
use Rattle.type_filter.specs.Permitted.{permits}
use Rattle.mount_ring.specs.Shapes.{shape_of}
use Rattle.std.specs.Prelude.{nat_lt}
use Rattle.keep_porter.specs.declared.found.Found.{Found}
use Rattle.keep_porter.specs.Porters.{IsFound, MayShut, any_lacks}

-- ---- refusals

-- one of these is true
any_at : (lacks : List Bool) (i : ℕ) (d : Bool) → i < length lacks → get_or lacks i d ≡ true
    → any_lacks lacks ≡ true
any_at [] i d within is = absurd (omega (arith, within))
any_at (true ∷ lacks) i d within is = refl
any_at (false ∷ lacks) zero d within is = absurd (let clash : false ≡ true = is in cc)
any_at (false ∷ lacks) (suc i) d within is = any_at lacks i d (omega (arith, within)) is

-- a turn at one of these places was refused
pub shut_by : {P : Type 0} (may_lack : P → Bool) (worn : P → ℕ) (places : List P) (fault : TurnFault)
    → IsAmong (λ place. IsFault (may_lack place) (worn place) fault) places
    → MayShut (any_lacks (map may_lack places)) (map worn places)
shut_by may_lack worn places (turns.Worn given) (place, (k, within, is), fault) =
    let here : get_or (map worn places) k (worn place) ≡ worn place =
    get_or-map worn places k place (worn place) within ∙ ap worn is in
    inl (
      k,
      omega (
        arith,
        here,
        fault.0,
        fault.1,
        get_or_default_zero (map worn places) k (worn place) (omega (arith, within, length-map places worn)),
      ),
    )
shut_by may_lack worn places turns.Memory (place, (k, within, is), fault) =
    inr (any_at (map may_lack places) k (may_lack place) (omega (arith, within, length-map places may_lack))
    (get_or-map may_lack places k place (may_lack place) within ∙ ap may_lack is ∙ fault))

-- it may be refused later too
pub shut_on : (lacks later_lacks : Bool) (worn later : List ℕ) → later_lacks ≡ lacks → AllLater worn later
    → MayShut lacks worn → MayShut later_lacks later
shut_on lacks later_lacks worn later same rise (inl (k, is)) = inl (k, omega (arith, is, rise k))
shut_on lacks later_lacks worn later same rise (inr is) = inr (same ∙ is)

pub found_on : (lacks later_lacks : Bool) (worn later : List ℕ) (found : Found) → later_lacks ≡ lacks
    → AllLater worn later → IsFound lacks worn found → IsFound later_lacks later found
found_on lacks later_lacks worn later found same rise is = record {
  looked = λ none. shut_on lacks later_lacks worn later same rise (is.looked none);
  joined = λ none. shut_on lacks later_lacks worn later same rise (is.joined none);
}

pub all_found_on : (lacks later_lacks : Bool) (worn later : List ℕ) (found : List Found) → later_lacks ≡ lacks
    → AllLater worn later → All (IsFound lacks worn) found → All (IsFound later_lacks later) found
all_found_on lacks later_lacks worn later [] same rise all = All-nil (IsFound later_lacks later)
all_found_on lacks later_lacks worn later (one ∷ found) same rise all =
    All-cons (IsFound later_lacks later) one found
    (found_on lacks later_lacks worn later one same rise (All-head (IsFound lacks worn) one found all))
    (all_found_on lacks later_lacks worn later found same rise (All-tail (IsFound lacks worn) one found all))

-- ---- calls

-- the first filter is known at the place
pub fits_first : {P : Type 0} (shape : P → RingShape) (places : List P) (mount : ℕ) (d : P) → mount < length places
    → KnowsFilter (map shape places) 0
    → IsTrue (nat_lt 0 (length (shape_of (shape (get_or places mount d))).filters))
fits_first shape places mount d within all =
    let s = shape (get_or places mount d) in
    let some : 0 < length s.filters =
    filter_here shape (λ (z : RingShape). 0 < length z.filters) places mount d within all in
    lt-ltb 0 (length (shape_of s).filters) (omega (arith, some, length-map s.filters permits))

-- nothing was called
pub went_still : (shapes : List RingShape) (alone : Bool) (old now : List (History RingCall)) (me : ℕ) → now ≡ old
    → Went shapes alone old now me []
went_still shapes alone old now me same =
    subst (λ (h : List (History RingCall)). Went shapes alone old h me []) (sym same) (went_none shapes alone old me)

-- calls at places that have stayed since the first
pub went_on_at : {P : Type 0} (ring : AtRing P) (a b c : List P) (me : ℕ) (first second : List Step)
    → StayAtRings ring a b
    → Went (map ring.shape a) (all_alone ring.alone a) (map ring.seen a) (map ring.seen b) me first
    → Went (map ring.shape b) (all_alone ring.alone b) (map ring.seen b) (map ring.seen c) me second
    → Went (map ring.shape a) (all_alone ring.alone a) (map ring.seen a) (map ring.seen c) me (first ++ second)
went_on_at ring a b c me first second stay one two =
    went_both (map ring.shape a) (all_alone ring.alone a) (map ring.seen a) (map ring.seen b) (map ring.seen c) me first
    second one
    (went_as (map ring.shape a) (map ring.shape b) (all_alone ring.alone a) (all_alone ring.alone b) (map ring.seen b)
    (map ring.seen c) me second stay.same.0 (alone_same ring.alone a b stay.same.3) two)
