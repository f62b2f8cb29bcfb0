-- What was made of a source's plan: a claim, and where it was given each frame published under it.
use Rattle.std.proofs.Common.{◌≡◌, ◌∙◌, ◌⊎◌, ◌+◌, ℕ, List, [], ◌∷◌, Option, None, Some, inl, inr, refl, sym, ap, subst}
use Rattle.mount_ring.specs.declared.call.RingCall.{RingCall}
use Rattle.mount_ring.specs.declared.call.RingCall.TheVariants.{Claim, Publish}
use Rattle.mount_ring.specs.declared.call.RingAnswer.{RingAnswer}
use Rattle.mount_ring.specs.declared.call.RingAnswer.TheVariants.{Given, Taken}
use Rattle.mount_ring.specs.declared.call.RingAnswer.TheVariants as answers
use Rattle.mount_ring.specs.declared.call.Holder.{Holder}
use Rattle.mount_ring.specs.History.{State, state_of, claim_answer}
use Rattle.session_calls.specs.Steps.{to_ring, Answer, of_ring, of_book, Step, at_ring, at_book}
use Rattle.session_calls.specs.Plans.{asks, IsMade}
use Rattle.session_calls.specs.Rings.{answer_at}
use Rattle.upstream_relay.specs.Owed.{publishing, after_claim}
use Rattle.cast_config.specs.declared.config.Config.{Config}
use Rattle.session_model.specs.Setting.{shapes}
use Rattle.run_promise.specs.Promised.{asked, publishes}
use Rattle.run_promise.proofs.MadeLemmas.{asks_mount, asks_call, AreAnswered}
use Rattle.run_promise.proofs.CallLemmas.{calls_of}
use Rattle.run_promise.proofs.WalkLemmas.{JoinsSuch, IsNever}

-- ---- each frame is published

publishing_made : (mount claim : ℕ) (frames : List (List ℕ)) (steps : List Step)
    → IsMade (publishing mount claim frames) steps → asked (calls_of steps) ≡ publishes mount claim frames
publishing_made mount claim [] steps made = ap (λ (l : List Step). asked (calls_of l)) made
publishing_made mount claim (frame ∷ frames) [] made = absurd made
publishing_made mount claim (frame ∷ frames) (at_ring at call answer ∷ steps) made =
    ap (λ (m : ℕ). (m, call) ∷ asked (calls_of steps)) (asks_mount at mount call (Publish claim frame) made.0)
    ∙ ap (λ (x : RingCall). (mount, x) ∷ asked (calls_of steps)) (asks_call at mount call (Publish claim frame) made.0)
    ∙ ap (λ (l : List (ℕ × RingCall)). (mount, Publish claim frame) ∷ l) (publishing_made mount claim frames steps
    made.1)
publishing_made mount claim (frame ∷ frames) (at_book call answer ∷ steps) made = absurd cc

-- ---- the claim

-- it was given, and the frames were published under it
pub record Given_ (mount : ℕ) (frames : List (List ℕ)) (steps : List Step) : Type 0 where
  pub claim : ℕ
  pub rest : List Step
  pub steps_are : steps ≡ at_ring mount Claim (Given claim) ∷ rest
  pub published : asked (calls_of rest) ≡ publishes mount claim frames

-- or another caller holds the mountpoint
pub record Taken_ (mount : ℕ) (steps : List Step) : Type 0 where
  pub caller : ℕ
  pub claim : ℕ
  pub steps_are : steps ≡ at_ring mount Claim (Taken caller claim) ∷ []

claim_made : (mount : ℕ) (frames : List (List ℕ)) (state : State) (holder : Option Holder) (rest : List Step)
    → IsMade (after_claim mount frames (of_ring (claim_answer state holder))) rest
    → Given_ mount frames (at_ring mount Claim (claim_answer state holder) ∷ rest)
    ⊎ Taken_ mount (at_ring mount Claim (claim_answer state holder) ∷ rest)
claim_made mount frames state None rest made = inl (record {
  claim = state.claims + 1;
  rest = rest;
  steps_are = refl;
  published = publishing_made mount (state.claims + 1) frames rest made;
})
claim_made mount frames state (Some holder) rest made = inr (record {
  caller = holder.caller;
  claim = holder.claim;
  steps_are = ap (λ (l : List Step). at_ring mount Claim (Taken holder.caller holder.claim) ∷ l) made;
})

abbrev IsEither : ℕ → List (List ℕ) → List Step → Type 0
IsEither mount frames steps = Given_ mount frames steps ⊎ Taken_ mount steps

pub source_made : (c : Config) (mount : ℕ) (frames : List (List ℕ)) (steps : List Step) → AreAnswered c steps
    → IsMade (asks (to_ring mount Claim) (after_claim mount frames)) steps → IsEither mount frames steps
source_made c mount frames [] answered made = absurd made
source_made c mount frames (at_ring at call answer ∷ rest) answered made =
    let here : at ≡ mount = asks_mount at mount call Claim made.0 in
    let is : call ≡ Claim = asks_call at mount call Claim made.0 in
    let state : State = state_of answered.0.1 in
    let told : answer ≡ claim_answer state state.holder =
    answered.0.2 ∙ ap (answer_at (shapes c) at answered.0.1 answered.0.0) is in
    let then : IsMade (after_claim mount frames (of_ring (claim_answer state state.holder))) rest =
    subst (λ (a : RingAnswer). IsMade (after_claim mount frames (of_ring a)) rest) told made.1 in
    subst (λ (m : ℕ). IsEither mount frames (at_ring m call answer ∷ rest)) (sym here)
    (subst (λ (x : RingCall). IsEither mount frames (at_ring mount x answer ∷ rest)) (sym is)
    (subst (λ (a : RingAnswer). IsEither mount frames (at_ring mount Claim a ∷ rest)) (sym told)
    (claim_made mount frames state state.holder rest then)))
source_made c mount frames (at_book call answer ∷ rest) answered made = absurd cc

-- ---- it joins nothing

publishing_such : (mount claim : ℕ) (frames : List (List ℕ)) → JoinsSuch IsNever (publishing mount claim frames)
publishing_such mount claim [] = tt
publishing_such mount claim (frame ∷ frames) = (tt, λ answer. publishing_such mount claim frames)

pub claim_such : (mount : ℕ) (frames : List (List ℕ)) (answer : Answer)
    → JoinsSuch IsNever (after_claim mount frames answer)
claim_such mount frames (of_ring (Given claim)) = publishing_such mount claim frames
claim_such mount frames (of_ring (Taken caller claim)) = tt
claim_such mount frames (of_ring answers.Released) = tt
claim_such mount frames (of_ring (answers.At place)) = tt
claim_such mount frames (of_ring (answers.Joined cursor)) = tt
claim_such mount frames (of_ring (answers.Looked live)) = tt
claim_such mount frames (of_ring (answers.Read report)) = tt
claim_such mount frames (of_book answer) = tt
