-- Several calls at one of several places.
use Rattle.std.proofs.Common.{◌≡◌, ◌≢◌, ◌<◌, ℕ, Bool, List, [], ◌∷◌, length, map, get_or, set, refl, sym, subst, inl, inr, arith}
use Rattle.std.specs.List.{list_all}
use Rattle.std.proofs.lemmas.Bool.{cases_eq, ne_eqb}
use Rattle.std.proofs.lemmas.List.{get_or-map, get_or-set_same, get_or-set_other, length-map, length-set, map-set}
use Rattle.turn_log.specs.History.{History}
use Rattle.turn_log.specs.Heard.{Heard}
use Rattle.turn_log.proofs.HeardLaws.{heard_none, heard_less}
use Rattle.mount_ring.specs.declared.call.RingCall.{RingCall}
use Rattle.mount_ring.specs.declared.call.RingAnswer.{RingAnswer}
use Rattle.mount_ring.specs.declared.shape.RingShape.{RingShape}
use Rattle.session_calls.specs.Steps.{Step, at_ring, on_ring}
use Rattle.session_calls.specs.Rings.{history_at, answer_at, Went}
use Rattle.session_calls.proofs.PlaceLemmas.{alone_at, ring_answer}

-- all of these steps are at one mountpoint, as far as another one can tell
abbrev pub IsAt : ℕ → List Step → Type 0
IsAt mount steps = (other : ℕ) → mount ≢ other → on_ring other steps ≡ []

-- calls at one place, of a list of places by what they have seen
went_by_steps : (shapes : List RingShape) (alone : Bool) (old : List (History RingCall)) (seen : History RingCall)
    (me mount : ℕ) (steps : List Step) → mount < length old → IsAt mount steps
    → Heard alone (answer_at shapes mount) (history_at old mount) seen me (on_ring mount steps)
    → Went shapes alone old (set old mount seen) me steps
went_by_steps shapes alone old seen me mount steps within at heard = record {
  size = length-set old mount seen;
  rings = λ other. elim (cases_eq mount other) [
    | inl same ↦
        subst (λ (m : ℕ). Heard alone (answer_at shapes m) (history_at old m) (history_at (set old mount seen) m) me
        (on_ring m steps)) same
        (subst (λ h. Heard alone (answer_at shapes mount) (history_at old mount) h me (on_ring mount steps))
        (sym (get_or-set_same old mount seen [] within)) heard)
    | inr apart ↦
        subst (λ pairs. Heard alone (answer_at shapes other) (history_at old other) (history_at
        (set old mount seen) other) me pairs) (sym (at other apart))
        (subst (λ h. Heard alone (answer_at shapes other) (history_at old other) h me [])
        (sym (get_or-set_other old mount other seen [] (λ e. apart (sym e))))
        (heard_none alone (answer_at shapes other) (history_at old other) me))
  ];
}

-- the same among places with these meanings
pub went_calls : {P : Type 0} (shape : P → RingShape) (alone : P → Bool) (seen : P → History RingCall) (places : List P)
    (mount : ℕ) (d new : P) (me : ℕ) (steps : List Step) → mount < length places → IsAt mount steps
    → Heard (alone (get_or places mount d)) (ring_answer (shape (get_or places mount d)))
    (seen (get_or places mount d)) (seen new) me (on_ring mount steps)
    → Went (map shape places) (list_all alone places) (map seen places) (map seen (set places mount new)) me steps
went_calls shape alone seen places mount d new me steps within at heard =
    let shapes = map shape places in
    let old = map seen places in
    let pairs = on_ring mount steps in
    let none : RingShape = record { capacity = 0; filters = [] } in
    let long : length old ≡ length places = length-map places seen in
    let here : get_or old mount [] ≡ seen (get_or places mount d) = get_or-map seen places mount d [] within in
    let shaped : get_or shapes mount none ≡ shape (get_or places mount d) = get_or-map shape places mount d none
    within in
    let less = heard_less (alone (get_or places mount d)) (list_all alone places) (ring_answer (shape
    (get_or places mount d)))
    (seen (get_or places mount d)) (seen new) me pairs (alone_at alone places mount d within) heard in
    let named : Heard (list_all alone places) (answer_at shapes mount) (seen (get_or places mount d))
    (seen new) me pairs =
    subst (λ z. Heard (list_all alone places) (ring_answer z) (seen (get_or places mount d)) (seen new) me pairs)
    (sym shaped) less in
    subst (λ (now : List (History RingCall)). Went shapes (list_all alone places) old now me steps)
    (sym (map-set seen places mount new))
    (went_by_steps shapes (list_all alone places) old (seen new) me mount steps (omega (arith, long, within)) at
    (subst (λ h. Heard (list_all alone places) (answer_at shapes mount) h (seen new) me pairs) (sym here) named))

-- steps at a mountpoint, one by one
pub at_none : (mount : ℕ) → IsAt mount []
at_none mount other apart = refl

pub at_more : (mount asked : ℕ) (call : RingCall) (answer : RingAnswer) (steps : List Step) → asked ≡ mount
    → IsAt mount steps → IsAt mount (at_ring asked call answer ∷ steps)
at_more mount asked call answer steps here at other apart =
    rw here (rw (ne_eqb mount other apart) (at other apart))
