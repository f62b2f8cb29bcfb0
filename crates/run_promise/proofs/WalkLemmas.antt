-- The segments of a connection have the filters of its Joins, and one that joined nothing has none.
use Rattle.std.proofs.Common.{◌≡◌, ◌++◌, ℕ, List, [], ◌∷◌, All, Option, None, Some, refl, sym, subst}
use Rattle.std.specs.Prelude.{⊤}
use Rattle.std.proofs.lemmas.List.Elements.{All-head, All-tail, All-cons}
use Rattle.mount_ring.specs.declared.call.RingCall.{RingCall}
use Rattle.mount_ring.specs.declared.call.RingCall.TheVariants.{Claim, Release, Publish, Join, Look, Read}
use Rattle.mount_ring.specs.declared.call.RingAnswer.{RingAnswer}
use Rattle.mount_ring.specs.declared.call.Holder.{Holder}
use Rattle.mount_ring.specs.History.{State, state_of, claim_answer}
use Rattle.rover_cursor.specs.declared.segment.Segment.{Segment}
use Rattle.session_calls.specs.Steps.{Ask, to_ring, to_book, Step, at_ring, at_book, ask_of, answer_of}
use Rattle.session_calls.specs.Plans.{Plan, done, asks, IsMade}
use Rattle.rover_session.specs.Made.{after_step, segments_after, owed_among}
use Rattle.cast_config.specs.declared.config.Config.{Config}
use Rattle.run_promise.proofs.MadeLemmas.{IsAnswered, AreAnswered, IsStepOn, StepsOn}

-- ---- joins with such filters

module _ (IsSuch : ℕ → Type 0) where
  abbrev pub IsJoinCall : RingCall → Type 0
  IsJoinCall Claim = ⊤
  IsJoinCall (Release claim) = ⊤
  IsJoinCall (Publish claim frame) = ⊤
  IsJoinCall (Join filter) = IsSuch filter
  IsJoinCall Look = ⊤
  IsJoinCall (Read cursor budget) = ⊤

  abbrev pub IsJoinAsk : Ask → Type 0
  IsJoinAsk (to_ring mount call) = IsJoinCall call
  IsJoinAsk (to_book call) = ⊤

  abbrev pub AreJoins : List Step → Type 0
  AreJoins [] = ⊤
  AreJoins (step ∷ steps) = IsJoinAsk (ask_of step) × AreJoins steps

  abbrev pub JoinsSuch : Plan → Type 0
  JoinsSuch done = ⊤
  JoinsSuch (asks ask next) = IsJoinAsk ask × ((answer : _) → JoinsSuch (next answer))

  pub joins_made : (plan : Plan) (steps : List Step) → JoinsSuch plan → IsMade plan steps → AreJoins steps
  joins_made done [] such made = tt
  joins_made done (step ∷ steps) such made = absurd cc
  joins_made (asks ask next) [] such made = absurd made
  joins_made (asks ask next) (step ∷ steps) such made = (
    subst IsJoinAsk (sym made.0) such.0,
    joins_made (next (answer_of step)) steps (such.1 (answer_of step)) made.1,
  )

  pub joins-append : (first second : List Step) → AreJoins first → AreJoins second → AreJoins (first ++ second)
  joins-append [] second x y = y
  joins-append (step ∷ first) second x y = (x.0, joins-append first second x.1 y)

  -- ---- the segments

  abbrev pub HasSuch : Segment → Type 0
  HasSuch segment = IsSuch segment.cursor.filter

  claim_keeps : (mount : ℕ) (state : State) (holder : Option Holder) (answer : RingAnswer) (segments : List Segment)
      → answer ≡ claim_answer state holder → All HasSuch segments
      → All HasSuch (after_step segments (at_ring mount Claim answer))
  claim_keeps mount state None answer segments is all =
      subst (λ (a : RingAnswer). All HasSuch (after_step segments (at_ring mount Claim a))) (sym is) all
  claim_keeps mount state (Some holder) answer segments is all =
      subst (λ (a : RingAnswer). All HasSuch (after_step segments (at_ring mount Claim a))) (sym is) all

  step_keeps : (c : Config) (segments : List Segment) (step : Step) → IsAnswered c step → IsStepOn segments step
      → IsJoinAsk (ask_of step) → All HasSuch segments → All HasSuch (after_step segments step)
  step_keeps c segments (at_ring mount Claim answer) answered on such all =
      claim_keeps mount (state_of answered.1) (state_of answered.1).holder answer segments answered.2 all
  step_keeps c segments (at_ring mount (Release claim) answer) answered on such all =
      subst (λ (a : RingAnswer). All HasSuch (after_step segments (at_ring mount (Release claim) a))) (sym answered.2)
      all
  step_keeps c segments (at_ring mount (Publish claim frame) answer) answered on such all =
      subst (λ (a : RingAnswer). All HasSuch (after_step segments (at_ring mount (Publish claim frame) a)))
      (sym answered.2) all
  step_keeps c segments (at_ring mount (Join filter) answer) answered on such all =
      subst (λ (a : RingAnswer). All HasSuch (after_step segments (at_ring mount (Join filter) a))) (sym answered.2)
      (All-cons HasSuch _ segments such all)
  step_keeps c segments (at_ring mount Look answer) answered on such all =
      subst (λ (a : RingAnswer). All HasSuch (after_step segments (at_ring mount Look a))) (sym answered.2) all
  step_keeps c [] (at_ring mount (Read cursor budget) answer) answered on such all = absurd on
  step_keeps c (segment ∷ older) (at_ring mount (Read cursor budget) answer) answered on such all =
      subst (λ (a : RingAnswer). All HasSuch (after_step (segment ∷ older) (at_ring mount (Read cursor budget) a)))
      (sym answered.2)
      (All-cons HasSuch _ older
      (subst (λ (k : _). IsSuch k.filter) (sym on.1) (All-head HasSuch segment older all))
      (All-tail HasSuch segment older all))
  step_keeps c segments (at_book call answer) answered on such all = all

  -- what the owed among some steps join
  owed_step : (step : Step) (steps : List Step) → AreJoins (owed_among (step ∷ steps))
      → IsJoinAsk (ask_of step) × AreJoins (owed_among steps)
  owed_step (at_ring mount Claim answer) steps such = such
  owed_step (at_ring mount (Release claim) answer) steps such = such
  owed_step (at_ring mount (Publish claim frame) answer) steps such = such
  owed_step (at_ring mount (Join filter) answer) steps such = such
  owed_step (at_ring mount Look answer) steps such = such
  owed_step (at_ring mount (Read cursor budget) answer) steps such = (tt, such)
  owed_step (at_book call answer) steps such = such

  pub walk_keeps : (c : Config) (segments : List Segment) (steps : List Step) → AreAnswered c steps
      → StepsOn segments steps → AreJoins (owed_among steps) → All HasSuch segments
      → All HasSuch (segments_after segments steps)
  walk_keeps c segments [] answered on such all = all
  walk_keeps c segments (step ∷ steps) answered on such all =
      let own = owed_step step steps such in
      walk_keeps c (after_step segments step) steps answered.1 on.1 own.1
      (step_keeps c segments step answered.0 on.0 own.0 all)

-- nobody joins with no filter
abbrev pub IsNever : ℕ → Type 0
IsNever filter = ⊥

pub none_such : (segments : List Segment) → All (HasSuch IsNever) segments → segments ≡ []
none_such [] all = refl
none_such (segment ∷ older) all = absurd (All-head (HasSuch IsNever) segment older all)
