-- A source at one of several places.
use Rattle.std.proofs.Common.{◌≡◌, ◌∙◌, ◌<◌, ◌≤◌, ℕ, Bool, true, false, List, [], ◌∷◌, length, map, get_or, set, refl, sym, ap, subst, arith, Option, None, Some}
use Rattle.std.specs.Prelude.{Contains, ◌^◌}
use Rattle.std.specs.List.{list_all}
use Rattle.std.proofs.lemmas.List.{get_or-map, get_or-set_same, length-map, length-set}
use Rattle.turn_log.specs.History.{History}
use Rattle.turn_log.specs.Heard.{Heard, HeardFirst}
use Rattle.turn_log.specs.Faults.{IsFault}
use Rattle.turn_log.specs.declared.place.TurnFault.{TurnFault}
use Rattle.turn_log.specs.declared.place.TurnFault.TheVariants as turns
use Rattle.mount_ring.specs.declared.call.RingCall.{RingCall}
use Rattle.mount_ring.specs.declared.call.RingCall.TheVariants.{Claim}
use Rattle.mount_ring.specs.declared.call.RingAnswer.{RingAnswer}
use Rattle.mount_ring.specs.declared.call.RingAnswer.TheVariants as answers
use Rattle.mount_ring.specs.declared.shape.RingShape.{RingShape}
use Rattle.session_calls.specs.Rings.{Went}
use Rattle.session_calls.proofs.PlaceLemmas.{kept_by_one, ring_answer, went_turn}
use Rattle.session_calls.proofs.WentLemmas.{went_none}
use Rattle.source_session.specs.Calls.{publishes, HeardAll, HeardBy, IsUnclaimed}
use Rattle.source_session.specs.Standing.{is_cut_short}
use Rattle.source_session.specs.declared.fault.ClaimFault.{ClaimFault}
use Rattle.source_session.specs.declared.fault.ClaimFault.TheVariants as claims
use Rattle.source_session.specs.declared.fault.SourceHalt.{SourceHalt}
use Rattle.source_session.specs.declared.fault.SourceHalt.TheVariants as sources
use Rattle.upstream_relay.proofs.StepLemmas.{steps_of, on_ring_of, pairs_made, pairs_begun}
use Rattle.session_core.specs.Refusals.{IsTurnRefused}
use Rattle.session_core.proofs.Published.{Published, steps_unclaimed}
use Rattle.session_core.proofs.PlacedLemmas.{IsAt, went_calls, at_none, at_more}

-- ---- steps of pairs

pub steps_at : (mount : ℕ) (pairs : List (RingCall × RingAnswer)) → IsAt mount (steps_of mount pairs)
steps_at mount [] = at_none mount
steps_at mount (p ∷ pairs) = at_more mount mount p.0 p.1 (steps_of mount pairs) refl (steps_at mount pairs)

-- ---- refusals

pub worn_there : {P : Type 0} (worn : P → ℕ) (places : List P) (mount : ℕ) (new : P) (given : ℕ) → mount < length places
    → worn new ≡ given → 2 ^ 62 ≤ given → Contains (map worn (set places mount new)) given × (2 ^ 62 ≤ given)
worn_there worn places mount new given within is most =
    let long : length (set places mount new) ≡ length places = length-set places mount new in (
      (
        mount,
        omega (arith, within, long, length-map (set places mount new) worn),
        get_or-map worn (set places mount new) mount new given (omega (arith, within, long))
            ∙ ap worn (get_or-set_same places mount new new within) ∙ is,
      ),
      most,
    )

-- the place there may lack memory
pub lacks_there : {P : Type 0} (may_lack : P → Bool) (places : List P) (mount : ℕ) (d : P) → mount < length places
    → may_lack (get_or places mount d) ≡ true → Contains (map may_lack places) true
lacks_there may_lack places mount d within is =
    (mount, omega (arith, within, length-map places may_lack), get_or-map may_lack places mount d true within ∙ is)

pub turn_refused_at : {P : Type 0} (may_lack : P → Bool) (worn : P → ℕ) (places : List P) (mount : ℕ) (d new : P)
    (fault : TurnFault) → mount < length places → IsFault (may_lack (get_or places mount d)) (worn new) fault
    → IsTurnRefused (map may_lack places) (map worn (set places mount new)) fault
turn_refused_at may_lack worn places mount d new (turns.Worn given) within is =
    worn_there worn places mount new given within is.0 is.1
turn_refused_at may_lack worn places mount d new turns.Memory within is =
    lacks_there may_lack places mount d within is

-- ---- a claim that was not given

pub unclaimed_at : {P : Type 0} (shape : P → RingShape) (alone : P → Bool) (seen : P
    → History RingCall) (places : List P)
    (mount : ℕ) (d new : P) (me : ℕ) (fault : ClaimFault) → mount < length places
    → IsUnclaimed fault (alone (get_or places mount d)) (ring_answer (shape (get_or places mount d)))
    (seen (get_or places mount d)) (seen new) me
    → Went (map shape places) (list_all alone places) (map seen places) (map seen (set places mount new)) me
    (steps_unclaimed mount fault)
unclaimed_at shape alone seen places mount d new me (claims.Taken caller claim) within heard =
    went_turn shape alone seen places mount d new me Claim (answers.Taken caller claim) within heard
unclaimed_at shape alone seen places mount d new me (claims.Worn given) within same =
    subst (λ (now : List (History RingCall)). Went (map shape places) (list_all alone places)
    (map seen places) now me [])
    (sym (kept_by_one seen places mount d new same)) (went_none (map shape places) (list_all alone places)
    (map seen places) me)
unclaimed_at shape alone seen places mount d new me claims.Memory within same =
    subst (λ (now : List (History RingCall)). Went (map shape places) (list_all alone places)
    (map seen places) now me [])
    (sym (kept_by_one seen places mount d new same)) (went_none (map shape places) (list_all alone places)
    (map seen places) me)

-- ---- frames that were published

went_pairs : {P : Type 0} (shape : P → RingShape) (alone : P → Bool) (seen : P → History RingCall) (places : List P)
    (mount : ℕ) (d new : P) (me : ℕ) (pairs : List (RingCall × RingAnswer)) → mount < length places
    → Heard (alone (get_or places mount d)) (ring_answer (shape (get_or places mount d)))
    (seen (get_or places mount d)) (seen new) me pairs
    → Went (map shape places) (list_all alone places) (map seen places) (map seen (set places mount new)) me
    (steps_of mount pairs)
went_pairs shape alone seen places mount d new me pairs within heard =
    went_calls shape alone seen places mount d new me (steps_of mount pairs) within (steps_at mount pairs)
    (subst (λ (list : List (RingCall × RingAnswer)). Heard (alone (get_or places mount d)) (ring_answer (shape
    (get_or places mount d)))
    (seen (get_or places mount d)) (seen new) me list) (sym (on_ring_of mount pairs)) heard)

published_all : {P : Type 0} (shape : P → RingShape) (alone : P → Bool) (seen : P
    → History RingCall) (places : List P)
    (mount : ℕ) (d new : P) (me claim : ℕ) (frames : List (List ℕ)) → mount < length places
    → HeardAll (alone (get_or places mount d)) (ring_answer (shape (get_or places mount d)))
    (seen (get_or places mount d)) (seen new) me (publishes claim frames)
    → Published (map shape places) (list_all alone places) (map seen places) (map seen
    (set places mount new)) me mount claim false frames
published_all shape alone seen places mount d new me claim frames within heard = record {
  more = steps_of mount heard.pairs;
  went = went_pairs shape alone seen places mount d new me heard.pairs within heard.heard;
  made = pairs_made mount claim frames heard.pairs heard.made;
}

first_published : {P : Type 0} (shape : P → RingShape) (alone : P → Bool) (seen : P
    → History RingCall) (places : List P)
    (mount : ℕ) (d new : P) (me claim : ℕ) (frames : List (List ℕ)) → mount < length places
    → HeardFirst (alone (get_or places mount d)) (ring_answer (shape (get_or places mount d)))
    (seen (get_or places mount d)) (seen new) me (publishes claim frames)
    → Published (map shape places) (list_all alone places) (map seen places) (map seen
    (set places mount new)) me mount claim true frames
first_published shape alone seen places mount d new me claim frames within heard = record {
  more = steps_of mount heard.pairs;
  went = went_pairs shape alone seen places mount d new me heard.pairs within heard.heard;
  made = pairs_begun mount claim frames heard.pairs heard.unmade heard.split;
}

pub published_by : {P : Type 0} (shape : P → RingShape) (alone : P → Bool) (seen : P → History RingCall)
    (places : List P) (mount : ℕ) (d new : P) (me claim : ℕ) (frames : List (List ℕ)) (halt : Option SourceHalt)
    → mount < length places
    → HeardBy halt (alone (get_or places mount d)) (ring_answer (shape (get_or places mount d)))
    (seen (get_or places mount d)) (seen new) me (publishes claim frames)
    → Published (map shape places) (list_all alone places) (map seen places) (map seen (set places mount new)) me mount
    claim (is_cut_short halt) frames
published_by shape alone seen places mount d new me claim frames None within heard =
    published_all shape alone seen places mount d new me claim frames within heard
published_by shape alone seen places mount d new me claim frames (Some sources.Done) within heard =
    published_all shape alone seen places mount d new me claim frames within heard
published_by shape alone seen places mount d new me claim frames (Some (sources.BadChunk place)) within heard =
    published_all shape alone seen places mount d new me claim frames within heard
published_by shape alone seen places mount d new me claim frames (Some (sources.Worn given)) within heard =
    first_published shape alone seen places mount d new me claim frames within heard
published_by shape alone seen places mount d new me claim frames (Some sources.Memory) within heard =
    first_published shape alone seen places mount d new me claim frames within heard
