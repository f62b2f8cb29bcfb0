-- One ring was picked among the places of a connection, and a call was made there.
use Rattle.std.proofs.Common.{◌≡◌, ◌∙◌, ◌<◌, ◌++◌, ℕ, Bool, IsTrue, [], ◌∷◌, List, length, map, get_or, set, refl, sym, ap, subst, arith, Option, Some, Result, Ok, Err}
use Rattle.std.specs.Prelude.{IfErr, IfSome}
use Rattle.std.specs.Option.{option_map}
use Rattle.std.specs.Result.{result_err}
use Rattle.std.proofs.lemmas.List.{length-map}
use Rattle.turn_log.specs.Heard.{Heard}
use Rattle.turn_log.specs.Faults.{IsFault}
use Rattle.turn_log.specs.History.{History}
use Rattle.turn_log.specs.declared.place.TurnFault.{TurnFault}
use Rattle.mount_ring.specs.declared.call.RingCall.{RingCall}
use Rattle.mount_ring.specs.declared.call.RingAnswer.{RingAnswer}
use Rattle.session_calls.specs.Steps.{Step, at_ring}
use Rattle.session_calls.specs.Rings.{AllSpeak, Went, all_alone, history_at}
use Rattle.session_calls.proofs.PlaceLemmas.{kept_by_one, ring_answer, went_turn}
use Rattle.source_session.specs.Calls.{IsHolding, IsUnclaimed}
use Rattle.source_session.specs.Places.{PublishedBy, Stays}
use Rattle.source_session.specs.Refusals.{IsClaimFault}
use Rattle.source_session.specs.Refusals as source_refusals
use Rattle.source_session.specs.Standing.{is_cut_short}
use Rattle.source_session.specs.declared.fault.ClaimFault.{ClaimFault}
use Rattle.source_session.specs.declared.fault.ClaimFault.TheVariants as claims
use Rattle.source_session.specs.declared.fault.SourceHalt.{SourceHalt}
use Rattle.source_session.specs.declared.fault.SourceHalt.TheVariants as sources
use Rattle.upstream_relay.specs.declared.session.RelaySession.{RelaySession}
use Rattle.upstream_relay.specs.declared.fault.RelayHalt.{RelayHalt}
use Rattle.upstream_relay.specs.declared.fault.RelayHalt.TheVariants as relays
use Rattle.upstream_relay.specs.Called.{Adds}
use Rattle.upstream_relay.specs.Halts as relay_halts
use Rattle.upstream_relay.specs.Standing as relay_standing
use Rattle.rover_session.proofs.AtLemmas.{history_here, history_new, stay_by_one}
use Rattle.session_model.specs.declared.ending.Ending.{Ending}
use Rattle.session_model.specs.Called.{IsCause}
use Rattle.session_core.specs.Beginnings.{end_unclaimed}
use Rattle.session_core.specs.Feeding.{end_of_relay, end_of_source}
use Rattle.session_core.specs.Places.{AtRing, AtBook, StayAtRings}
use Rattle.session_core.specs.Refusals.{IsTurnRefused}
use Rattle.session_core.proofs.Published.{Published, RelayFed, steps_unclaimed}
use Rattle.session_core.proofs.EnteredLemmas.{cause_left}
use Rattle.session_core.proofs.RelayLemmas.{relay_fed}
use Rattle.session_core.proofs.SourceLemmas.{published_by, turn_refused_at, unclaimed_at, worn_there}

-- a mountpoint of as many histories as there are places
pub among_rings : {P : Type 0} (seen : P → History RingCall) (rings : List P) (mount : ℕ)
    → mount < length (map seen rings) → mount < length rings
among_rings seen rings mount within = omega (arith, within, length-map rings seen)

-- the place that was picked stayed itself, so all did
pub stay_picked : {P : Type 0} (ring : AtRing P) (rings : List P) (mount : ℕ) (before new : P)
    → before ≡ get_or rings mount before → Stays ring before new → StayAtRings ring rings (set rings mount new)
stay_picked {P} ring rings mount before new was stays =
    let there : Stays ring (get_or rings mount before) new = subst (λ (place : P). Stays ring place new) was stays in
    stay_by_one ring rings mount before new there.same there.worn

-- it speaks for whom all speak
pub speaks_picked : {P : Type 0} (ring : AtRing P) (rings : List P) (mount : ℕ) (before : P) (me caller : ℕ)
    → mount < length rings → before ≡ get_or rings mount before → caller ≡ me → AllSpeak ring.speaks rings me
    → IsTrue (ring.speaks before caller)
speaks_picked {P} ring rings mount before me caller within was same speak =
    subst (λ (m : ℕ). IsTrue (ring.speaks before m)) (sym same)
    (subst (λ (place : P). IsTrue (ring.speaks place me)) (sym was) (speak mount before within))

pub stays_still : {B : Type 0} (book : AtBook B) (place : B) → Stays book place place
stays_still book place = record {
  same = (refl, refl, refl, refl, refl);
  worn = omega arith;
}

-- the call is all that was called
pub went_picked : {P : Type 0} (ring : AtRing P) (rings : List P) (mount : ℕ) (before new : P) (me : ℕ)
    (call : RingCall) (answer : RingAnswer) → mount < length rings → before ≡ get_or rings mount before
    → Heard (ring.alone before) (ring_answer (ring.shape before)) (ring.seen before) (ring.seen new) me
    ((call, answer) ∷ [])
    → Went (map ring.shape rings) (all_alone ring.alone rings) (map ring.seen rings)
    (map ring.seen (set rings mount new)) me (at_ring mount call answer ∷ [])
went_picked {P} ring rings mount before new me call answer within was heard =
    went_turn ring.shape ring.alone ring.seen rings mount before new me call answer within
    (subst (λ (place : P). Heard (ring.alone place) (ring_answer (ring.shape place)) (ring.seen place) (ring.seen new) me
    ((call, answer) ∷ [])) was heard)

-- where it was refused nothing was called
pub kept_picked : {P : Type 0} (ring : AtRing P) (rings : List P) (mount : ℕ) (before new : P)
    → before ≡ get_or rings mount before → ring.seen new ≡ ring.seen before
    → map ring.seen (set rings mount new) ≡ map ring.seen rings
kept_picked {P} ring rings mount before new was same =
    kept_by_one ring.seen rings mount before new (subst (λ (place : P). ring.seen new ≡ ring.seen place) was same)

pub refused_picked : {P : Type 0} (ring : AtRing P) (rings : List P) (mount : ℕ) (before new : P) (fault : TurnFault)
    → mount < length rings → before ≡ get_or rings mount before
    → IsFault (ring.may_lack before) (ring.worn new) fault
    → IsTurnRefused (map ring.may_lack rings) (map ring.worn (set rings mount new)) fault
refused_picked {P} ring rings mount before new fault within was is =
    turn_refused_at ring.may_lack ring.worn rings mount before new fault within
    (subst (λ (place : P). IsFault (ring.may_lack place) (ring.worn new) fault) was is)

-- a claim that was given there, or was not

pub holding_picked : {P : Type 0} (ring : AtRing P) (rings : List P) (mount : ℕ) (new : P) (me claim : ℕ)
    → mount < length rings → IsHolding me claim (ring.seen new)
    → IsHolding me claim (history_at (map ring.seen (set rings mount new)) mount)
holding_picked ring rings mount new me claim within holds =
    subst (λ (h : History RingCall). IsHolding me claim h) (sym (history_new ring.seen rings mount new within)) holds

pub unclaimed_picked : {P : Type 0} (ring : AtRing P) (rings : List P) (mount : ℕ) (before new : P) (me : ℕ)
    (fault : ClaimFault) → mount < length rings → before ≡ get_or rings mount before
    → IsUnclaimed fault (ring.alone before) (ring_answer (ring.shape before)) (ring.seen before) (ring.seen new) me
    → Went (map ring.shape rings) (all_alone ring.alone rings) (map ring.seen rings)
    (map ring.seen (set rings mount new)) me (steps_unclaimed mount fault)
unclaimed_picked {P} ring rings mount before new me fault within was is =
    unclaimed_at ring.shape ring.alone ring.seen rings mount before new me fault within
    (subst (λ (place : P). IsUnclaimed fault (ring.alone place) (ring_answer (ring.shape place)) (ring.seen place)
    (ring.seen new) me) was is)

-- the body of a source that was fed there

pub history_picked : {P : Type 0} (ring : AtRing P) (rings : List P) (mount : ℕ) (before : P) → mount < length rings
    → before ≡ get_or rings mount before → history_at (map ring.seen rings) mount ≡ ring.seen before
history_picked ring rings mount before within was =
    history_here ring.seen rings mount before within ∙ ap ring.seen (sym was)

pub published_picked : {P : Type 0} (ring : AtRing P) (rings : List P) (mount : ℕ) (before new : P) (me claim : ℕ)
    (frames : List (List ℕ)) (by halt : Option SourceHalt) → mount < length rings → before ≡ get_or rings mount before
    → PublishedBy ring before new me claim by frames → halt ≡ by
    → Published (map ring.shape rings) (all_alone ring.alone rings) (map ring.seen rings)
    (map ring.seen (set rings mount new)) me mount claim (is_cut_short halt) frames
published_picked {P} ring rings mount before new me claim frames by halt within was heard is =
    subst (λ (h : Option SourceHalt). Published (map ring.shape rings) (all_alone ring.alone rings) (map ring.seen rings)
    (map ring.seen (set rings mount new)) me mount claim (is_cut_short h) frames) (sym is)
    (published_by ring.shape ring.alone ring.seen rings mount before new me claim frames by within
    (subst (λ (place : P). PublishedBy ring place new me claim by frames) was heard))

-- the answer of another caster that was taken there
pub added_picked : {P : Type 0} (ring : AtRing P) (rings : List P) (mount : ℕ) (before new : P) (me : ℕ)
    (session : RelaySession) (bytes : List ℕ) (steps : List Step) → mount < length rings
    → before ≡ get_or rings mount before
    → Adds (ring.alone before) (ring_answer (ring.shape before)) (ring.seen before) (ring.seen new) me mount
    (λ more. relay_standing.StandsFor mount session bytes (steps ++ more))
    → RelayFed (map ring.shape rings) (all_alone ring.alone rings) (map ring.seen rings)
    (map ring.seen (set rings mount new)) me mount session bytes steps
added_picked {P} ring rings mount before new me session bytes steps within was adds =
    relay_fed ring.shape ring.alone ring.seen rings mount before new me session bytes steps within
    (subst (λ (place : P). Adds (ring.alone place) (ring_answer (ring.shape place)) (ring.seen place) (ring.seen new)
    me mount (λ more. relay_standing.StandsFor mount session bytes (steps ++ more))) was adds)

-- ---- what a refusal there ends a connection by

claim_caused : {P : Type 0} (ring : AtRing P) (rings : List P) (mount : ℕ) (new : P) (lacks : Bool)
    (fault : ClaimFault) → mount < length rings → IsClaimFault lacks (ring.worn new) fault
    → IsCause (map ring.worn (set rings mount new)) (end_unclaimed fault)
claim_caused ring rings mount new lacks (claims.Worn given) within is =
    worn_there ring.worn rings mount new given within is.0 is.1
claim_caused ring rings mount new lacks _ within is = tt

source_caused : {P : Type 0} (ring : AtRing P) (rings : List P) (mount : ℕ) (new : P) (lacks : Bool) (claim : ℕ)
    (halt : SourceHalt) → mount < length rings → source_refusals.IsHaltOf lacks (ring.worn new) halt
    → IsCause (map ring.worn (set rings mount new)) (end_of_source claim halt)
source_caused ring rings mount new lacks claim (sources.Worn given) within is =
    worn_there ring.worn rings mount new given within is.0 is.1
source_caused ring rings mount new lacks claim _ within is = tt

relay_caused : {P : Type 0} (ring : AtRing P) (rings : List P) (mount : ℕ) (new : P) (lacks : Bool)
    (claim : Option ℕ) (halt : RelayHalt) → mount < length rings → relay_halts.IsHaltOf lacks (ring.worn new) halt
    → IsCause (map ring.worn (set rings mount new)) (end_of_relay claim halt)
relay_caused ring rings mount new lacks claim (relays.Worn given) within is =
    worn_there ring.worn rings mount new given within is.0 is.1
relay_caused ring rings mount new lacks claim _ within is = tt

-- by how it ended
ended_by_cause : (worn : List ℕ) (book : ℕ) (ended : Option Ending) (end : Ending) → ended ≡ Some end
    → IsCause worn end → IfSome ended (IsCause (worn ++ book ∷ []))
ended_by_cause worn book ended end is cause =
    cause_left worn book ended (subst (λ (e : Option Ending). IfSome e (IsCause worn)) (sym is) cause)

pub cause_picked : {P : Type 0} (ring : AtRing P) (rings : List P) (mount : ℕ) (new : P) (lacks : Bool) (book : ℕ)
    (fault : ClaimFault) (ended : Option Ending) → mount < length rings
    → IsClaimFault lacks (ring.worn new) fault → ended ≡ Some (end_unclaimed fault)
    → IfSome ended (IsCause (map ring.worn (set rings mount new) ++ book ∷ []))
cause_picked ring rings mount new lacks book fault ended within is ends =
    ended_by_cause (map ring.worn (set rings mount new)) book ended (end_unclaimed fault) ends
    (claim_caused ring rings mount new lacks fault within is)

pub source_cause_picked : {P : Type 0} (ring : AtRing P) (rings : List P) (mount : ℕ) (new : P) (lacks : Bool)
    (book claim : ℕ) (r : Result (Unit {0}) SourceHalt) (ended : Option Ending) → mount < length rings
    → ended ≡ option_map (end_of_source claim) (result_err r)
    → IfErr r (source_refusals.IsHaltOf lacks (ring.worn new))
    → IfSome ended (IsCause (map ring.worn (set rings mount new) ++ book ∷ []))
source_cause_picked ring rings mount new lacks book claim (Ok x) ended within ends any =
    subst (λ (e : Option Ending). IfSome e (IsCause (map ring.worn (set rings mount new) ++ book ∷ []))) (sym ends) tt
source_cause_picked ring rings mount new lacks book claim (Err halt) ended within ends is =
    ended_by_cause (map ring.worn (set rings mount new)) book ended (end_of_source claim halt) ends
    (source_caused ring rings mount new lacks claim halt within is)

pub relay_cause_picked : {P : Type 0} (ring : AtRing P) (rings : List P) (mount : ℕ) (new : P) (lacks : Bool)
    (book : ℕ) (claim : Option ℕ) (r : Result (Unit {0}) RelayHalt) (ended : Option Ending) → mount < length rings
    → ended ≡ option_map (end_of_relay claim) (result_err r)
    → IfErr r (relay_halts.IsHaltOf lacks (ring.worn new))
    → IfSome ended (IsCause (map ring.worn (set rings mount new) ++ book ∷ []))
relay_cause_picked ring rings mount new lacks book claim (Ok x) ended within ends any =
    subst (λ (e : Option Ending). IfSome e (IsCause (map ring.worn (set rings mount new) ++ book ∷ []))) (sym ends) tt
relay_cause_picked ring rings mount new lacks book claim (Err halt) ended within ends is =
    ended_by_cause (map ring.worn (set rings mount new)) book ended (end_of_relay claim halt) ends
    (relay_caused ring rings mount new lacks claim halt within is)
