-- What more bytes of an accepted answer owe.
use Rattle.std.proofs.Common.{◌≡◌, ◌≤◌, ℕ, Bool, true, false, List, [], ◌∷◌, ◌++◌, drop, length, refl, sym, ap, subst, ◌∙◌}
use Rattle.std.proofs.lemmas.List.{drop-append-le, append-nil}
use Rattle.mount_ring.specs.declared.RingCall.TheVariants.{Claim}
use Rattle.mount_ring.specs.declared.RingAnswer.TheVariants as answers
use Rattle.session_calls.specs.Steps.{Step, Answer, answer_of, at_ring}
use Rattle.session_calls.specs.Plans.{IsMade, IsBegun}
use Rattle.source_session.specs.Body.{frames_of, completed}
use Rattle.source_session.proofs.BodyLemmas.{frames_more}
use Rattle.ntrip_client.specs.declared.Answer.TheVariants as heads
use Rattle.upstream_relay.specs.Owed.{publishing, after_claim, owed, IsDone}
use Rattle.upstream_relay.specs.Standing.{IsClaimed}
use Rattle.upstream_relay.proofs.StepLemmas.{publishing_made, publishing_begun, publishing_longer}

-- the frames of a longer body
frames_on : (at : ℕ) (chunked : Bool) (bytes more : List ℕ) → at ≤ length bytes
    → frames_of chunked (drop at (bytes ++ more))
    ≡ frames_of chunked (drop at bytes) ++ completed chunked (drop at bytes) more
frames_on at chunked bytes more within =
    ap (frames_of chunked) (drop-append-le at bytes more within) ∙ frames_more chunked (drop at bytes) more

-- what follows Claim, where the claim was given
abbrev Follows : Bool → ℕ → ℕ → List (List ℕ) → List Step → Type 0
Follows refused mount claim frames steps = IsDone refused (publishing mount claim frames) steps

given_on : (refused : Bool) (mount claim : ℕ) (first second : List (List ℕ)) (a b : List Step)
    → IsMade (publishing mount claim first) a → Follows refused mount claim second b
    → Follows refused mount claim (first ++ second) (a ++ b)
given_on false mount claim first second a b made more = publishing_made mount claim first second a b made more
given_on true mount claim first second a b made more = publishing_begun mount claim first second a b made more

-- the first step was Claim, and the claim was given
with_claim : (refused : Bool) (mount claim at : ℕ) (chunked : Bool) (bytes : List ℕ) (step : Step) (steps : List Step)
    → step ≡ at_ring mount Claim (answers.Given claim)
    → Follows refused mount claim (frames_of chunked (drop at bytes)) steps
    → IsDone refused (owed mount (heads.Accepted at chunked) bytes) (step ∷ steps)
with_claim false mount claim at chunked bytes step steps is follows =
    subst (λ (s : Step). IsMade (owed mount (heads.Accepted at chunked) bytes) (s ∷ steps)) (sym is) (refl, follows)
with_claim true mount claim at chunked bytes step steps is follows =
    subst (λ (s : Step). IsBegun (owed mount (heads.Accepted at chunked) bytes) (s ∷ steps)) (sym is) (refl, follows)

behind_claim : (refused : Bool) (mount claim at : ℕ) (chunked : Bool) (bytes : List ℕ) (step : Step) (steps : List Step)
    → step ≡ at_ring mount Claim (answers.Given claim)
    → IsDone refused (owed mount (heads.Accepted at chunked) bytes) (step ∷ steps)
    → Follows refused mount claim (frames_of chunked (drop at bytes)) steps
behind_claim false mount claim at chunked bytes step steps is made =
    subst (λ (a : Answer). IsMade (after_claim mount (frames_of chunked (drop at bytes)) a) steps) (ap answer_of is)
    made.1
behind_claim true mount claim at chunked bytes step steps is made =
    subst (λ (a : Answer). IsBegun (after_claim mount (frames_of chunked (drop at bytes)) a) steps) (ap answer_of is)
    made.1

-- ---- a claim that was given just now

pub claim_made : (mount claim : ℕ) (chunked : Bool) (head : List ℕ) → frames_of chunked (drop (length head) head) ≡ []
    → IsMade (owed mount (heads.Accepted (length head) chunked) head) (at_ring mount Claim (answers.Given claim) ∷ [])
claim_made mount claim chunked head none =
    (refl, subst (λ (fs : List (List ℕ)). IsMade (publishing mount claim fs) []) (sym none) refl)

-- ---- more of the body

pub body_on : (refused : Bool) (mount claim at : ℕ) (chunked : Bool) (bytes more : List ℕ) (steps later : List Step)
    → at ≤ length bytes → IsClaimed mount claim steps → IsMade (owed mount (heads.Accepted at chunked) bytes) steps
    → Follows refused mount claim (completed chunked (drop at bytes) more) later
    → IsDone refused (owed mount (heads.Accepted at chunked) (bytes ++ more)) (steps ++ later)
body_on refused mount claim at chunked bytes more [] later within claimed made follows = absurd claimed
body_on refused mount claim at chunked bytes more (step ∷ steps) later within claimed made follows =
    with_claim refused mount claim at chunked (bytes ++ more) step (steps ++ later) claimed
    (subst (λ (fs : List (List ℕ)). Follows refused mount claim fs (steps ++ later))
    (sym (frames_on at chunked bytes more within))
    (given_on refused mount claim (frames_of chunked (drop at bytes)) (completed chunked (drop at bytes) more) steps
    later
    (behind_claim false mount claim at chunked bytes step steps claimed made) follows))

-- a relay that was halted within the body makes no more calls; these frames are none where its body
-- is over
pub halted_body_on : (refused : Bool) (mount claim at : ℕ) (chunked : Bool) (bytes more : List ℕ) (steps : List Step)
    → at ≤ length bytes → IsClaimed mount claim steps
    → IsDone refused (owed mount (heads.Accepted at chunked) bytes) steps
    → (refused ≡ false → completed chunked (drop at bytes) more ≡ [])
    → IsDone refused (owed mount (heads.Accepted at chunked) (bytes ++ more)) steps
halted_body_on refused mount claim at chunked bytes more [] within claimed made over = absurd claimed
halted_body_on false mount claim at chunked bytes more (step ∷ steps) within claimed made over =
    with_claim false mount claim at chunked (bytes ++ more) step steps claimed
    (subst (λ (fs : List (List ℕ)). IsMade (publishing mount claim fs) steps)
    (sym (frames_on at chunked bytes more within
    ∙ ap (λ (fs : List (List ℕ)). frames_of chunked (drop at bytes) ++ fs) (over refl)
    ∙ append-nil (frames_of chunked (drop at bytes))))
    (behind_claim false mount claim at chunked bytes step steps claimed made))
halted_body_on true mount claim at chunked bytes more (step ∷ steps) within claimed made over =
    with_claim true mount claim at chunked (bytes ++ more) step steps claimed
    (subst (λ (fs : List (List ℕ)). IsBegun (publishing mount claim fs) steps)
    (sym (frames_on at chunked bytes more within))
    (publishing_longer mount claim (frames_of chunked (drop at bytes)) (completed chunked (drop at bytes) more) steps
    (behind_claim true mount claim at chunked bytes step steps claimed made)))
