-- What a source published at its mountpoint.
use Rattle.std.specs.Prelude.{◌≡◌, ℕ, ◌⊎◌, Bool, true, false, List, [], ◌∷◌, ◌++◌, map}
use Rattle.std.specs.List.{filter}
use Rattle.turn_log.specs.History.{History, own}
use Rattle.mount_ring.specs.declared.call.RingCall.{RingCall}
use Rattle.mount_ring.specs.declared.call.RingCall.TheVariants.{Claim, Release, Publish}
use Rattle.rover_session.specs.Made.{is_call_owed}
use Rattle.session_calls.specs.Rings.{history_at}
use Rattle.source_session.specs.Body.{frames_of}
use Rattle.session_model.specs.Judged.{SourceTerms}
use Rattle.session_model.specs.Run.{Histories}

-- all frames that are due, and of a source that was halted the first of them
abbrev pub AreDue : (halted : Bool) → List (List ℕ) → List (List ℕ) → Type 0
AreDue false frames due = frames ≡ due
AreDue true frames due = (rest : List (List ℕ)) × (due ≡ frames ++ rest)

-- The caller claimed, published these frames under the claim that it was given, in order and each
-- once, and gave the claim back, unless that turn was refused; it called nothing else there but
-- reads.
pub record HasPublished (me claim : ℕ) (start now : History RingCall) (frames : List (List ℕ))
    : Type 0 where
  pub more : History RingCall
  pub on : now ≡ start ++ more
  pub released : List RingCall
  pub mine : filter is_call_owed (own me more)
      ≡ Claim ∷ map (Publish claim) frames ++ released
  pub last : (released ≡ []) ⊎ (released ≡ Release claim ∷ [])

-- The caller was given this claim as a source of these terms, and published the frames of this body
-- at its mountpoint; where it was halted, the first of them.
abbrev pub PublishesBody : (halted : Bool) → SourceTerms → List ℕ → ℕ → ℕ → Histories
    → Histories → Type 0
PublishesBody halted terms body me claim start now =
    (frames : List (List ℕ)) × AreDue halted frames (frames_of terms.chunked body)
    × HasPublished me claim (history_at start.rings terms.mount)
    (history_at now.rings terms.mount) frames
