-- What closes a link: nothing, a claim that is given back, or an account that is left. Where that
-- turn was refused, it is what would have been called.
use Rattle.std.proofs.Common.{◌≡◌, ◌∙◌, ◌++◌, ℕ, Bool, true, false, IsTrue, List, [], ◌∷◌, All, None, refl, sym, ap, subst}
use Rattle.std.specs.Prelude.{⊤}
use Rattle.std.proofs.lemmas.List.{append-nil}
use Rattle.std.proofs.lemmas.List.Elements.{All-nil, All-cons}
use Rattle.mount_ring.specs.declared.call.RingCall.{RingCall}
use Rattle.mount_ring.specs.declared.call.RingCall.TheVariants.{Claim, Release, Publish, Join, Look, Read}
use Rattle.mount_ring.specs.declared.call.RingAnswer.{RingAnswer}
use Rattle.rover_cursor.specs.declared.segment.Segment.{Segment}
use Rattle.session_calls.specs.Steps.{Ask, to_ring, to_book, Step, at_ring, at_book, ask_of, answer_of}
use Rattle.session_calls.specs.Plans.{Plan, done, asks, IsMade}
use Rattle.rover_session.specs.Made.{after_step, segments_after}
use Rattle.cast_config.specs.declared.config.Config.{Config}
use Rattle.session_model.specs.Judged.{Judged}
use Rattle.session_model.specs.Owed.{Came, nothing, over, holding, inside, came_by, came_to, closing, closing_by}
use Rattle.session_core.proofs.ClosingLemmas.{free_closed, uncalled_free}
use Rattle.session_model.specs.Run.{Histories, made}
use Rattle.session_core.specs.Closed.{IsSettled}
use Rattle.run_promise.specs.Calls.{Call, without_reads}
use Rattle.run_promise.specs.Promised.{is_release}
use Rattle.run_promise.proofs.MadeLemmas.{made_is, AreAnswered, made_answered}
use Rattle.run_promise.proofs.CallLemmas.{calls_of}

-- ---- a claim that is given back, and an account that is left

abbrev IsCloseCall : RingCall → Type 0
IsCloseCall Claim = ⊥
IsCloseCall (Release claim) = ⊤
IsCloseCall (Publish claim frame) = ⊥
IsCloseCall (Join filter) = ⊥
IsCloseCall Look = ⊥
IsCloseCall (Read cursor budget) = ⊥

abbrev IsCloseAsk : Ask → Type 0
IsCloseAsk (to_ring mount call) = IsCloseCall call
IsCloseAsk (to_book call) = ⊤

abbrev pub AreClosers : List Step → Type 0
AreClosers [] = ⊤
AreClosers (step ∷ steps) = IsCloseAsk (ask_of step) × AreClosers steps

abbrev ClosesAll : Plan → Type 0
ClosesAll done = ⊤
ClosesAll (asks ask next) = IsCloseAsk ask × ((answer : _) → ClosesAll (next answer))

made_closers : (plan : Plan) (steps : List Step) → ClosesAll plan → IsMade plan steps → AreClosers steps
made_closers done [] closes is = tt
made_closers done (step ∷ steps) closes is = absurd cc
made_closers (asks ask next) [] closes is = absurd is
made_closers (asks ask next) (step ∷ steps) closes is = (
  subst IsCloseAsk (sym is.0) closes.0,
  made_closers (next (answer_of step)) steps (closes.1 (answer_of step)) is.1,
)

closing_closes : (came : Came) (segments : List Segment) → ClosesAll (closing_by came segments)
closing_closes nothing segments = tt
closing_closes (over reply end) segments = tt
closing_closes (holding terms body claim) segments = (tt, λ answer. tt)
closing_closes (inside terms) segments = (tt, λ answer. tt)

pub closing_closers : (j : Judged) (steps last : List Step) → IsMade (closing j steps) last → AreClosers last
closing_closers j steps last is =
    made_closers (closing j steps) last (closing_closes (came_to j steps) (segments_after [] steps)) is

pub closers_front : (first second : List Step) → AreClosers (first ++ second) → AreClosers first
closers_front [] second all = tt
closers_front (step ∷ first) second all = (all.0, closers_front first second all.1)

-- they change no segment
pub closers_still : (c : Config) (segments : List Segment) (steps : List Step) → AreAnswered c steps
    → AreClosers steps → segments_after segments steps ≡ segments
closers_still c segments [] answered all = refl
closers_still c segments (at_ring mount Claim answer ∷ steps) answered all = absurd all.0
closers_still c segments (at_ring mount (Release claim) answer ∷ steps) answered all =
    ap (λ (a : RingAnswer). segments_after (after_step segments (at_ring mount (Release claim) a)) steps)
    answered.0.2
    ∙ closers_still c segments steps answered.1 all.1
closers_still c segments (at_ring mount (Publish claim frame) answer ∷ steps) answered all = absurd all.0
closers_still c segments (at_ring mount (Join filter) answer ∷ steps) answered all = absurd all.0
closers_still c segments (at_ring mount Look answer ∷ steps) answered all = absurd all.0
closers_still c segments (at_ring mount (Read cursor budget) answer ∷ steps) answered all = absurd all.0
closers_still c segments (at_book call answer ∷ steps) answered all =
    closers_still c segments steps answered.1 all.1

abbrev IsReleaseOf : Call → Type 0
IsReleaseOf one = IsTrue (is_release one.asked)

closers_release : (steps : List Step) → AreClosers steps → All IsReleaseOf (without_reads (calls_of steps))
closers_release [] all = All-nil IsReleaseOf
closers_release (at_ring mount Claim answer ∷ steps) all = absurd all.0
closers_release (at_ring mount (Release claim) answer ∷ steps) all =
    All-cons IsReleaseOf _ (without_reads (calls_of steps)) refl (closers_release steps all.1)
closers_release (at_ring mount (Publish claim frame) answer ∷ steps) all = absurd all.0
closers_release (at_ring mount (Join filter) answer ∷ steps) all = absurd all.0
closers_release (at_ring mount Look answer ∷ steps) all = absurd all.0
closers_release (at_ring mount (Read cursor budget) answer ∷ steps) all = absurd all.0
closers_release (at_book call answer ∷ steps) all = closers_release steps all.1

-- ---- with what was refused

pub record Closes (c : Config) (j : Judged) (steps closed_by : List Step) (settled : Bool) : Type 0 where
  pub extra : List Step
  pub is_made : IsMade (closing j steps) (closed_by ++ extra)
  pub answered : AreAnswered c (closed_by ++ extra)
  pub settled_none : settled ≡ true → extra ≡ []
  pub releases : All (λ (one : Call). IsTrue (is_release one.asked)) (without_reads (calls_of extra))

pub closes_so : (c : Config) (me : ℕ) (h : Histories) (j : Judged) (steps closed_by : List Step) (settled : Bool)
    → AreAnswered c closed_by → IsSettled settled (closing j steps) closed_by → Closes c j steps closed_by settled
closes_so c me h j steps closed_by true answered is = record {
  extra = [];
  is_made = subst (IsMade (closing j steps)) (sym (append-nil closed_by)) is;
  answered = subst (AreAnswered c) (sym (append-nil closed_by)) answered;
  settled_none = λ e. refl;
  releases = All-nil IsReleaseOf;
}
closes_so c me h j steps closed_by false answered none =
    let plan = closing j steps in
    let extra : List Step = made c me h plan in
    let all : IsMade plan extra = made_is c me h plan in
    record {
      extra = extra;
      is_made = subst (λ (l : List Step). IsMade plan (l ++ extra)) (sym none) all;
      answered = subst (λ (l : List Step). AreAnswered c (l ++ extra)) (sym none) (made_answered c me h plan);
      settled_none = λ e. absurd cc;
      releases = closers_release extra (closing_closers j steps extra all);
    }

-- nothing was to be closed
pub done_settled : (settled : Bool) (steps : List Step) → IsSettled settled done steps → steps ≡ []
done_settled true steps is = is
done_settled false steps is = is

-- who called nothing has nothing to close
pub unasked_none : (settled : Bool) (j : Judged) (segments : List Segment) (steps : List Step)
    → IsSettled settled (closing_by (came_by j None) segments) steps → steps ≡ []
unasked_none settled j segments steps is =
    done_settled settled steps
    (subst (λ (p : Plan). IsSettled settled p steps) (free_closed _ segments (uncalled_free [] refl j)) is)
