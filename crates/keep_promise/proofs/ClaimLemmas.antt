-- The claim that the lines of a source name is the one that it was given.
use Rattle.std.proofs.Common.{◌≡◌, ◌∙◌, ◌++◌, ℕ, Bool, false, List, [], ◌∷◌, None, Some, ap, subst, eq-eqb}
use Rattle.std.specs.Prelude.{if◌then◌else◌}
use Rattle.turn_log.specs.Heard.{Heard}
use Rattle.mount_ring.specs.declared.call.RingCall.{RingCall}
use Rattle.mount_ring.specs.declared.call.RingCall.TheVariants.{Claim, Release, Publish, Join, Look, Read}
use Rattle.mount_ring.specs.declared.call.RingAnswer.{RingAnswer}
use Rattle.mount_ring.specs.declared.call.RingAnswer.TheVariants.{Given}
use Rattle.session_calls.specs.Steps.{of_ring, Step, at_ring, at_book, on_ring}
use Rattle.session_calls.specs.Plans.{IsBegun}
use Rattle.session_calls.specs.Rings.{answer_at, history_at}
use Rattle.rover_session.specs.Made.{owed_among}
use Rattle.cast_config.specs.declared.config.Config.{Config}
use Rattle.session_model.specs.Called.{Called}
use Rattle.session_model.specs.Judged.{Opening, Judged, SourceTerms, source}
use Rattle.session_model.specs.Owed.{came_to, first_answer, plan_of}
use Rattle.session_model.specs.Run.{Histories}
use Rattle.session_model.specs.Setting.{shapes}
use Rattle.session_core.specs.declared.held.Held.{Held}
use Rattle.session_core.specs.declared.held.Held.TheVariants as holds
use Rattle.session_core.specs.Holding.{HoldsAs, HoldsClaim}
use Rattle.run_promise.proofs.MadeLemmas.{StepsOn, asks_mount}
use Rattle.serve_promise.proofs.LetInLemmas.{holding_is}
use Rattle.keep_promise.specs.Links.{IsItsClaim, WasGiven}

same_answer : (answer : RingAnswer) (claim : ℕ) → Some (of_ring answer) ≡ Some (of_ring (Given claim))
    → answer ≡ Given claim
same_answer answer claim is = cc

-- its first step is a Claim at its mountpoint, and it was given it
first_claim : (c : Config) (terms : SourceTerms) (body : List ℕ) (claim : ℕ) (steps : List Step) → StepsOn [] steps
    → IsBegun (plan_of c (source terms body)) (owed_among steps)
    → first_answer steps ≡ Some (of_ring (Given claim))
    → (rest : List Step) × (steps ≡ at_ring terms.mount Claim (Given claim) ∷ rest)
first_claim c terms body claim [] on begun said = absurd cc
first_claim c terms body claim (at_book call answer ∷ rest) on begun said = absurd cc
first_claim c terms body claim (at_ring mount Claim answer ∷ rest) on begun said = (
  rest,
  ap (λ (n : ℕ). at_ring n Claim answer ∷ rest) (asks_mount mount terms.mount Claim Claim begun.0)
      ∙ ap (λ (a : RingAnswer). at_ring terms.mount Claim a ∷ rest) (same_answer answer claim said),
)
first_claim c terms body claim (at_ring mount (Read cursor budget) answer ∷ rest) on begun said = absurd on.0
first_claim c terms body claim (at_ring mount (Release other) answer ∷ rest) on begun said =
    let clash = begun.0 in absurd cc
first_claim c terms body claim (at_ring mount (Publish other frame) answer ∷ rest) on begun said =
    let clash = begun.0 in absurd cc
first_claim c terms body claim (at_ring mount (Join filter) answer ∷ rest) on begun said =
    let clash = begun.0 in absurd cc
first_claim c terms body claim (at_ring mount Look answer ∷ rest) on begun said = let clash = begun.0 in absurd cc

module _ (c : Config) (me : ℕ) (start now : Histories) (j : Judged) (steps closed_by : List Step)
    (on : StepsOn [] steps) (begun : IsBegun (plan_of c j) (owed_among steps))
    (called : Called c false start now me (steps ++ closed_by)) where
  given_so : (mount claim : ℕ) → HoldsClaim mount claim (came_to j steps) → WasGiven c me start now mount claim
  given_so mount claim is =
      let terms = is.0 in
      let body = is.1 in
      let held = holding_is j (first_answer steps) terms body claim is.2 in
      let first = first_claim c terms body claim steps on
      (subst (λ (k : Judged). IsBegun (plan_of c k) (owed_among steps)) held.0 begun) held.1 in
      let later : List (RingCall × RingAnswer) = on_ring mount (first.0 ++ closed_by) in (
        later,
        subst (λ (pairs : List (RingCall × RingAnswer)). Heard false (answer_at (shapes c) mount)
            (history_at start.rings mount) (history_at now.rings mount) me pairs)
            (ap (λ (l : List Step). on_ring mount (l ++ closed_by)) first.1
            ∙ ap (λ (b : Bool). (if b then (Claim, Given claim) ∷ [] else []) ++ later)
            (eq-eqb terms.mount mount is.3))
            (called.rings.rings mount),
      )

  pub is_its_claim : (opening : Opening) (held : Held) → HoldsAs c opening (came_to j steps) held
      → IsItsClaim c me start now held
  is_its_claim opening holds.Nothing is = tt
  is_its_claim opening (holds.Rover account) is = tt
  is_its_claim opening (holds.Source mount claim) is = given_so mount claim is
  is_its_claim opening (holds.Relay mount None) is = tt
  is_its_claim opening (holds.Relay mount (Some claim)) is = given_so mount claim is.3
