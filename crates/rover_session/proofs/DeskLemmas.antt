-- A session that is served, after calls of others at one place.
use Rattle.std.proofs.Common.{◌≡◌, ℕ, ◌<◌, List, [], length, map, get_or, set, refl, sym, ap, subst, ◌∙◌, inl, inr}
use Rattle.std.proofs.lemmas.Bool.{cases_eq}
use Rattle.std.proofs.lemmas.List.{append-nil, get_or-set_other, length-map, length-set, map-set}
use Rattle.turn_log.specs.History.{History, GoesOn}
use Rattle.mount_ring.specs.declared.call.RingCall.{RingCall}
use Rattle.mount_ring.specs.declared.shape.RingShape.{RingShape}
use Rattle.session_calls.specs.Rings.{history_at, WentOn}
use Rattle.session_calls.proofs.PlaceLemmas.{kept_by_one}
use Rattle.rover_session.specs.Standing.{Rover, IsServed}
use Rattle.rover_session.proofs.AtLemmas.{history_here, history_new}
use Rattle.rover_session.proofs.SegmentLemmas.{was_resumable}

-- others called at one place
went_on_by_one : {P : Type 0} (seen : P → History RingCall) (places : List P) (i : ℕ) (d new : P) (me : ℕ)
    → i < length places → GoesOn me (seen (get_or places i d)) (seen new)
    → WentOn (map seen places) (map seen (set places i new)) me
went_on_by_one seen places i d new me within goes =
    let now : List (History RingCall) = map seen (set places i new) in record {
      size = length-map (set places i new) seen ∙ length-set places i new ∙ sym (length-map places seen);
      rings = λ mount. elim (cases_eq i mount) [
        | inl same ↦
            subst (λ (m : ℕ). GoesOn me (history_at (map seen places) m) (history_at now m)) same
            (subst (λ h. GoesOn me h (history_at now i)) (sym (history_here seen places i d within))
            (subst (λ h. GoesOn me (seen (get_or places i d)) h) (sym (history_new seen places i new within)) goes))
        | inr apart ↦
            subst (λ h. GoesOn me (history_at (map seen places) mount) h)
            (sym (ap (λ (l : List (History RingCall)). history_at l mount) (map-set seen places i new)
            ∙ get_or-set_other (map seen places) i mount (seen new) [] (λ e. apart (sym e))))
            ([], sym (append-nil (history_at (map seen places) mount)), refl)
      ];
    }

pub served_by_one : {P : Type 0} (shape : P → RingShape) (seen : P → History RingCall) (places : List P) (i : ℕ)
    (d new : P) (rover : Rover) (me : ℕ) → i < length places → rover.me ≡ me
    → shape new ≡ shape (get_or places i d) → GoesOn me (seen (get_or places i d)) (seen new)
    → IsServed (map shape places) (map seen places) rover
    → IsServed (map shape (set places i new)) (map seen (set places i new)) rover
served_by_one shape seen places i d new rover me within mine same goes served =
    let now : List (History RingCall) = map seen (set places i new) in
    let on : WentOn (map seen places) now rover.me =
    subst (WentOn (map seen places) now) (sym mine) (went_on_by_one seen places i d new me within goes) in
    subst (λ shapes. IsServed shapes now rover) (sym (kept_by_one shape places i d new same)) (record {
      within = served.within;
      filter = served.filter;
      resumable = was_resumable (map shape places) rover.me now rover.segments (map seen places, served.resumable, on);
    })
