-- What stands of a connection's first steps, and of those that closed it.
use Rattle.std.proofs.Common.{◌≡◌, ◌∙◌, ◌++◌, ℕ, Bool, true, false, cond, List, [], ◌∷◌, refl, ap}
use Rattle.mount_ring.specs.declared.call.RingCall.{RingCall}
use Rattle.mount_ring.specs.declared.call.RingCall.TheVariants.{Claim, Release, Publish, Join, Look, Read}
use Rattle.caster_accounts.specs.declared.call.BookCall.{BookCall}
use Rattle.rover_cursor.specs.declared.segment.Segment.{Segment}
use Rattle.session_calls.specs.Steps.{to_ring, to_book, Step, at_ring, at_book, ask_of}
use Rattle.session_calls.specs.Plans.{Plan, done, asks, IsMade}
use Rattle.rover_session.specs.Made.{after_step, is_owed, owed_among}
use Rattle.cast_config.specs.declared.config.Config.{Config}
use Rattle.session_model.specs.Judged.{SourceTerms, RoverTerms}
use Rattle.session_model.specs.Owed.{Came, nothing, over, holding, inside, first_answer, closing_by}
use Rattle.run_promise.specs.Promised.{asked}
use Rattle.run_promise.proofs.MadeLemmas.{asks_mount, asks_call, AreAnswered, StepsOn}
use Rattle.run_promise.proofs.CallLemmas.{calls_of}
use Rattle.run_promise.proofs.WalkLemmas.{IsJoinAsk, AreJoins, JoinsSuch, joins_made}

-- ---- the first of some steps, and those that are owed

pub answered_front : (c : Config) (first last : List Step) → AreAnswered c (first ++ last) → AreAnswered c first
answered_front c [] last all = tt
answered_front c (step ∷ first) last all = (all.0, answered_front c first last all.1)

answered_if : (c : Config) (b : Bool) (step : Step) (steps : List Step) → AreAnswered c (step ∷ steps)
    → AreAnswered c (cond b (step ∷ steps) steps)
answered_if c true step steps all = all
answered_if c false step steps all = all.1

pub answered_owed : (c : Config) (steps : List Step) → AreAnswered c steps → AreAnswered c (owed_among steps)
answered_owed c [] all = tt
answered_owed c (step ∷ steps) all =
    answered_if c (is_owed step) step (owed_among steps) (all.0, answered_owed c steps all.1)

pub on_front : (segments : List Segment) (first last : List Step) → StepsOn segments (first ++ last)
    → StepsOn segments first
on_front segments [] last on = tt
on_front segments (step ∷ first) last on = (on.0, on_front (after_step segments step) first last on.1)

joins_if : (IsSuch : ℕ → Type 0) (b : Bool) (step : Step) (steps : List Step) → IsJoinAsk IsSuch (ask_of step)
    → AreJoins IsSuch steps → AreJoins IsSuch (cond b (step ∷ steps) steps)
joins_if IsSuch true step steps one all = (one, all)
joins_if IsSuch false step steps one all = all

pub joins_owed : (IsSuch : ℕ → Type 0) (steps : List Step) → AreJoins IsSuch steps
    → AreJoins IsSuch (owed_among steps)
joins_owed IsSuch [] all = tt
joins_owed IsSuch (step ∷ steps) all =
    joins_if IsSuch (is_owed step) step (owed_among steps) all.0 (joins_owed IsSuch steps all.1)

-- the first step is no read, since there is no segment yet
pub received_owed : (steps : List Step) → StepsOn [] steps → first_answer (owed_among steps) ≡ first_answer steps
received_owed [] on = refl
received_owed (at_ring mount Claim answer ∷ steps) on = refl
received_owed (at_ring mount (Release claim) answer ∷ steps) on = refl
received_owed (at_ring mount (Publish claim frame) answer ∷ steps) on = refl
received_owed (at_ring mount (Join filter) answer ∷ steps) on = refl
received_owed (at_ring mount Look answer ∷ steps) on = refl
received_owed (at_ring mount (Read cursor budget) answer ∷ steps) on = absurd on.0
received_owed (at_book call answer ∷ steps) on = refl

-- ---- what closes a connection

pub last_such : (IsSuch : ℕ → Type 0) (plan : Plan) (last : List Step)
    → JoinsSuch IsSuch plan → IsMade plan last → AreJoins IsSuch (owed_among last)
last_such IsSuch plan last such made = joins_owed IsSuch last (joins_made IsSuch plan last such made)

-- a call on the book
book_last : (call : BookCall) (last : List Step) → IsMade (asks (to_book call) (λ answer. done)) last
    → calls_of (owed_among last) ≡ []
book_last call [] made = absurd made
book_last call (at_ring mount asked answer ∷ rest) made = absurd cc
book_last call (at_book asked answer ∷ rest) made = ap (λ (l : List Step). calls_of (owed_among l)) made.1

-- a claim that is given back
release_last : (mount claim : ℕ) (last : List Step) → IsMade (asks (to_ring mount (Release claim)) (λ answer. done)) last
    → asked (calls_of (owed_among last)) ≡ (mount, Release claim) ∷ []
release_last mount claim [] made = absurd made
release_last mount claim (at_ring at call answer ∷ rest) made =
    let here : at ≡ mount = asks_mount at mount call (Release claim) made.0 in
    let is : call ≡ Release claim = asks_call at mount call (Release claim) made.0 in
    ap (λ (l : List Step). asked (calls_of (owed_among (at_ring at call answer ∷ l)))) made.1
    ∙ ap (λ (x : RingCall). asked (calls_of (owed_among (at_ring at x answer ∷ [])))) is
    ∙ ap (λ (m : ℕ). (m, Release claim) ∷ []) here
release_last mount claim (at_book call answer ∷ rest) made = absurd cc

pub source_last : (terms : SourceTerms) (body : List ℕ) (claim : ℕ) (segments : List Segment) (last : List Step)
    → IsMade (closing_by (holding terms body claim) segments) last
    → asked (calls_of (owed_among last)) ≡ (terms.mount, Release claim) ∷ []
source_last terms body claim segments last made = release_last terms.mount claim last made

pub rover_last : (terms : RoverTerms) (segments : List Segment) (last : List Step)
    → IsMade (closing_by (inside terms) segments) last → calls_of (owed_among last) ≡ []
rover_last terms segments last made = book_last _ last made

-- no Join closes a connection
pub closing_such : (IsSuch : ℕ → Type 0) (came : Came) (segments : List Segment)
    → JoinsSuch IsSuch (closing_by came segments)
closing_such IsSuch nothing segments = tt
closing_such IsSuch (over reply end) segments = tt
closing_such IsSuch (holding terms body claim) segments = (tt, λ answer. tt)
closing_such IsSuch (inside terms) segments = (tt, λ answer. tt)
