-- What stands of one connection of a run, after whatever happened to it.
use Rattle.std.proofs.Common.{◌≡◌, ◌≢◌, ◌∙◌, ◌<◌, ◌⊎◌, ◌++◌, ℕ, Bool, true, false, IsTrue, List, [], ◌∷◌, length, All, Option, None, Some, inl, inr, refl, sym, ap, subst}
use Rattle.std.specs.Prelude.{⊤, ◌&&◌, is_none}
use Rattle.std.proofs.lemmas.Bool.{and_parts, false≢true}
use Rattle.std.proofs.lemmas.List.{append-nil}
use Rattle.std.proofs.lemmas.List.Elements.{All-head, All-tail, All-cons, All-nil, All-append}
use Rattle.turn_log.specs.History.{History, entries_of}
use Rattle.turn_log.specs.Heard.{calls_in}
use Rattle.turn_log.proofs.HeardLaws.{heard_others}
use Rattle.mount_ring.specs.declared.call.RingCall.{RingCall}
use Rattle.mount_ring.specs.declared.call.RingAnswer.{RingAnswer}
use Rattle.mount_ring.specs.declared.call.RingAnswer.TheVariants.{Given, Taken, Released, At, Joined, Looked, Read}
use Rattle.rover_cursor.specs.declared.segment.Segment.{Segment}
use Rattle.session_calls.specs.Steps.{Ask, to_ring, to_book, Answer, Step, at_ring, at_book, answer_of, on_ring}
use Rattle.session_calls.specs.Plans.{Plan, done, asks, left, IsMade}
use Rattle.session_calls.specs.Rings.{history_at, answer_at, Went, WentOn}
use Rattle.session_calls.proofs.PlanLemmas.{made_both}
use Rattle.session_calls.proofs.WentLemmas.{went_both, went_less, went_on, alone_entries}
use Rattle.rover_session.specs.Owed.{reads}
use Rattle.rover_session.specs.Made.{after_step, segments_after, owed_among}
use Rattle.rover_session.proofs.MadeLemmas.{owed-append}
use Rattle.rover_session.proofs.SegmentLemmas.{Extends, went_extends}
use Rattle.cast_config.specs.declared.config.Config.{Config}
use Rattle.cast_config.specs.Kept.{KeepsRules}
use Rattle.session_model.specs.declared.ending.Ending.{Ending}
use Rattle.session_model.specs.declared.ending.Last.{Last}
use Rattle.session_model.specs.Setting.{shapes}
use Rattle.session_model.specs.Headings.{Heading}
use Rattle.session_model.specs.Judged.{Opening, Judged, judged}
use Rattle.session_model.specs.Owed.{came_by, first_answer, came_to, plan_of, closing, Happening, arrives, takes_turn, ends}
use Rattle.session_model.specs.Endings.{ended_by, goes_on}
use Rattle.session_model.specs.Run.{Histories, Connected, Moved, nothing_called, step_at, with_call, with_calls, made, judged_of, makes, closed_if, goes_to, with_text, with_last, moved, moved_if, fresh}
use Rattle.session_model.proofs.GoodLemmas.{IsGood, good_left, good_plan}
use Rattle.session_model.proofs.WellLemmas.{closing_good}
use Rattle.session_model.proofs.GrowLemmas.{plan_grows}
use Rattle.caster_replay.proofs.WorldClosedLemmas.{received_closed}
use Rattle.run_promise.proofs.MadeLemmas.{made_is, IsAskWithin, IsWithin, made_went, AreAnswered, answered-append, made_answered, made_owed, owed_all, StepsOn, on-append, owed_on, turn_on}
use Rattle.run_promise.proofs.WithinLemmas.{IsFed, plan_within, closing_within, left_within, judged_fed}

-- ---- its steps are at mountpoints that there are

abbrev pub IsStepWithin : ℕ → Step → Type 0
IsStepWithin count (at_ring mount call answer) = mount < count
IsStepWithin count (at_book call answer) = ⊤

abbrev pub AreStepsWithin : ℕ → List Step → Type 0
AreStepsWithin count [] = ⊤
AreStepsWithin count (step ∷ steps) = IsStepWithin count step × AreStepsWithin count steps

steps-append : (count : ℕ) (first second : List Step) → AreStepsWithin count first → AreStepsWithin count second
    → AreStepsWithin count (first ++ second)
steps-append count [] second x y = y
steps-append count (step ∷ first) second x y = (x.0, steps-append count first second x.1 y)

one_within : (c : Config) (count me : ℕ) (h : Histories) (ask : Ask) → IsAskWithin count ask
    → IsStepWithin count (step_at c me h ask)
one_within c count me h (to_ring mount call) within = within
one_within c count me h (to_book call) within = tt

made_within : (c : Config) (count me : ℕ) (h : Histories) (plan : Plan) → IsWithin count plan
    → AreStepsWithin count (made c me h plan)
made_within c count me h done within = tt
made_within c count me h (asks ask next) within =
    let step = step_at c me h ask in (
      one_within c count me h ask within.0,
      made_within c count me (with_call me h ask) (next (answer_of step)) (within.1 (answer_of step)),
    )

-- and so are its segments
abbrev IsBelow : ℕ → Segment → Type 0
IsBelow count segment = segment.mount < count

answer_below : (count mount : ℕ) (call : RingCall) (answer : RingAnswer) (segments : List Segment) → mount < count
    → All (IsBelow count) segments → All (IsBelow count) (after_step segments (at_ring mount call answer))
answer_below count mount call (Given claim) segments here all = all
answer_below count mount call (Taken caller claim) segments here all = all
answer_below count mount call Released segments here all = all
answer_below count mount call (At place) segments here all = all
answer_below count mount call (Joined cursor) segments here all = All-cons (IsBelow count) _ segments here all
answer_below count mount call (Looked live) segments here all = all
answer_below count mount call (Read report) [] here all = all
answer_below count mount call (Read report) (segment ∷ older) here all =
    All-cons (IsBelow count) _ older (All-head (IsBelow count) segment older all)
    (All-tail (IsBelow count) segment older all)

segments_below : (count : ℕ) (segments : List Segment) (steps : List Step) → All (IsBelow count) segments
    → AreStepsWithin count steps → All (IsBelow count) (segments_after segments steps)
segments_below count segments [] all within = all
segments_below count segments (at_ring mount call answer ∷ steps) all within =
    segments_below count (after_step segments (at_ring mount call answer)) steps
    (answer_below count mount call answer segments within.0 all) within.1
segments_below count segments (at_book call answer ∷ steps) all within =
    segments_below count segments steps all within.1

turn_within : (count budget : ℕ) (segments : List Segment) → All (IsBelow count) segments
    → IsWithin count (reads budget segments)
turn_within count budget [] all = tt
turn_within count budget (segment ∷ older) all =
    (All-head (IsBelow count) segment older all, λ answer. tt)

-- ---- its steps so far

-- they are all that the histories have of it, each answered as its place answers; each read is of
-- its newest segment
pub record Walked (c : Config) (h : Histories) (me : ℕ) (steps : List Step) : Type 0 where
  pub size : length h.rings ≡ length c.mount
  pub went : Went (shapes c) false (nothing_called c).rings h.rings me steps
  pub answered : AreAnswered c steps
  pub on : StepsOn [] steps
  pub within : AreStepsWithin (length c.mount) steps

-- what a plan adds
pub record Adds (c : Config) (old now : Histories) (me : ℕ) (steps : List Step) : Type 0 where
  pub went : Went (shapes c) true old.rings now.rings me steps
  pub size : length now.rings ≡ length old.rings

pub plan_adds : (c : Config) (h : Histories) (me : ℕ) (plan : Plan) → length h.rings ≡ length c.mount
    → IsWithin (length c.mount) plan → Adds c h (with_calls me h (made c me h plan)) me (made c me h plan)
plan_adds c h me plan size within =
    let went = made_went c me h plan (subst (λ (n : ℕ). IsWithin n plan) (sym size) within) in
    record { went = went; size = went.size }

pub walked_on : (c : Config) (h : Histories) (me : ℕ) (steps : List Step) (plan : Plan) → Walked c h me steps
    → IsWithin (length c.mount) plan → StepsOn (segments_after [] steps) (made c me h plan)
    → Walked c (with_calls me h (made c me h plan)) me (steps ++ made c me h plan)
walked_on c h me steps plan w within on =
    let more = made c me h plan in
    let now = with_calls me h more in
    let adds = plan_adds c h me plan w.size within in
    record {
      size = adds.size ∙ w.size;
      went = went_both (shapes c) false (nothing_called c).rings h.rings now.rings me steps more w.went
          (went_less (shapes c) true false h.rings now.rings me more (λ is. absurd cc) adds.went);
      answered = answered-append c steps more w.answered (made_answered c me h plan);
      on = on-append [] steps more w.on on;
      within = steps-append (length c.mount) steps more w.within (made_within c (length c.mount) me h plan within);
    }

-- ---- one connection

pub record Stood (c : Config) (heading : Heading) (h : Histories) (d : Connected) : Type 0 where
  pub walked : Walked c h d.number d.steps
  -- what its bytes owe, and what closed it
  pub first : List Step
  pub last : List Step
  pub split : d.steps ≡ first ++ last
  pub made_is : IsMade (plan_of c (judged_of c heading d)) (owed_among first)
  pub ends : ((last ≡ []) × (goes_on (judged_of c heading d) d.steps d.closed ≡ true))
      ⊎ ((goes_on (judged_of c heading d) d.steps d.closed ≡ false)
      × IsMade (closing (judged_of c heading d) first) last)

-- one that goes on was not closed
pub still_made : (c : Config) (heading : Heading) (h : Histories) (d : Connected) → Stood c heading h d
    → goes_on (judged_of c heading d) d.steps d.closed ≡ true
    → IsMade (plan_of c (judged_of c heading d)) (owed_among d.steps)
still_made c heading h d s goes =
    let none : s.last ≡ [] = elim s.ends [
      | inl (none, on) ↦ none
      | inr (over, closed) ↦ absurd (false≢true (sym over ∙ goes))
    ] in
    subst (λ (steps : List Step). IsMade (plan_of c (judged_of c heading d)) (owed_among steps))
    (sym (s.split ∙ ap (λ (l : List Step). s.first ++ l) none ∙ append-nil s.first)) s.made_is

-- a history all of whose callers are such
abbrev pub AllBy : (ℕ → Bool) → History RingCall → Type 0
AllBy is_such h = All (λ (entry : ℕ × RingCall). IsTrue (is_such entry.0)) h

-- histories that did not go on
pub extends_same : (h : List (History RingCall)) → Extends h h
extends_same h mount = ([], sym (append-nil (history_at h mount)))

-- what becomes of it and of the histories
pub record Moves (c : Config) (heading : Heading) (old : Histories) (d : Connected) (m : Moved) : Type 0 where
  pub number : m.connection.number ≡ d.number
  pub size : length m.histories.rings ≡ length old.rings
  pub others : (me : ℕ) → me ≢ d.number → WentOn old.rings m.histories.rings me
  pub callers : (is_such : ℕ → Bool) → IsTrue (is_such d.number) → (mount : ℕ)
      → AllBy is_such (history_at old.rings mount) → AllBy is_such (history_at m.histories.rings mount)
  pub later : Extends old.rings m.histories.rings
  pub stood : Stood c heading m.histories m.connection

-- ---- what calls of one caller leave

pub others_after : (c : Config) (old now : Histories) (by me : ℕ) (steps : List Step) → Adds c old now by steps
    → me ≢ by → WentOn old.rings now.rings me
others_after c old now by me steps adds apart = record {
  size = adds.size;
  rings = λ mount. heard_others (answer_at (shapes c) mount) me by (history_at old.rings mount)
      (history_at now.rings mount) (on_ring mount steps) (λ e. apart (sym e)) (adds.went.rings mount);
}

all_entries : (is_such : ℕ → Bool) (me : ℕ) (calls : List RingCall) → IsTrue (is_such me)
    → AllBy is_such (entries_of me calls)
all_entries is_such me [] is = All-nil (λ (entry : ℕ × RingCall). IsTrue (is_such entry.0))
all_entries is_such me (call ∷ calls) is =
    All-cons (λ (entry : ℕ × RingCall). IsTrue (is_such entry.0)) (me, call) (entries_of me calls) is
    (all_entries is_such me calls is)

pub callers_after : (c : Config) (old now : Histories) (me : ℕ) (steps : List Step) → Adds c old now me steps
    → (is_such : ℕ → Bool) → IsTrue (is_such me) → (mount : ℕ) → AllBy is_such (history_at old.rings mount)
    → AllBy is_such (history_at now.rings mount)
callers_after c old now me steps adds is_such is mount all =
    let calls = calls_in (on_ring mount steps) in
    subst (AllBy is_such) (sym (alone_entries (shapes c) old.rings now.rings me steps mount adds.went))
    (All-append (λ (entry : ℕ × RingCall). IsTrue (is_such entry.0)) (history_at old.rings mount) (entries_of me calls)
    all (all_entries is_such me calls is))

-- calls of another leave what stands
pub stood_on : (c : Config) (heading : Heading) (old now : Histories) (d : Connected)
    → WentOn old.rings now.rings d.number → Stood c heading old d → Stood c heading now d
stood_on c heading old now d others s = record {
  walked = record {
    size = others.size ∙ s.walked.size;
    went = went_on (shapes c) (nothing_called c).rings old.rings now.rings d.number d.steps s.walked.went others;
    answered = s.walked.answered;
    on = s.walked.on;
    within = s.walked.within;
  };
  first = s.first;
  last = s.last;
  split = s.split;
  made_is = s.made_is;
  ends = s.ends;
}

-- ---- bytes

and_false : (b : Bool) → (b && false) ≡ false
and_false true = refl
and_false false = refl

-- a connection that made all that its bytes owe, closed at once where it ended by itself
pub closed_moves : (end : Option Ending) (c : Config) (heading : Heading) (old : Histories) (d : Connected) (m : Moved)
    (more : List Step) → IsFed c (judged_of c heading m.connection)
    → ended_by (came_to (judged_of c heading m.connection) m.connection.steps) ≡ end
    → is_none m.connection.closed ≡ true → m.connection.number ≡ d.number → Adds c old m.histories d.number more
    → Walked c m.histories d.number m.connection.steps
    → IsMade (plan_of c (judged_of c heading m.connection)) (owed_among m.connection.steps)
    → Moves c heading old d (closed_if end c (judged_of c heading m.connection) m)
closed_moves None c heading old d m more fed is uncut number adds walked owes = record {
  number = number;
  size = adds.size;
  others = λ me apart. others_after c old m.histories d.number me more adds apart;
  callers = callers_after c old m.histories d.number more adds;
  later = went_extends (shapes c) true old.rings m.histories.rings d.number more adds.went;
  stood = record {
    walked = subst (λ (n : ℕ). Walked c m.histories n m.connection.steps) (sym number) walked;
    first = m.connection.steps;
    last = [];
    split = sym (append-nil m.connection.steps);
    made_is = owes;
    ends = inl (
      refl,
      ap (λ (b : Bool). b && is_none (ended_by (came_to (judged_of c heading m.connection) m.connection.steps))) uncut
          ∙ ap is_none is,
    );
  };
}
closed_moves (Some end) c heading old d m more fed is uncut number adds walked owes =
    let j = judged_of c heading m.connection in
    let steps = m.connection.steps in
    let me = m.connection.number in
    let plan = closing j steps in
    let last = made c me m.histories plan in
    let now = with_calls me m.histories last in
    let within = closing_within c j (first_answer steps) (segments_after [] steps) fed in
    let mine = subst (λ (n : ℕ). Walked c m.histories n steps) (sym number) walked in
    let second = plan_adds c m.histories me plan mine.size within in
    let second_too : Adds c m.histories now d.number last =
    subst (λ (n : ℕ). Adds c m.histories now n last) number second in
    let closed : IsMade plan last = made_is c me m.histories plan in
    let both : Adds c old now d.number (more ++ last) = record {
      went = went_both (shapes c) true old.rings m.histories.rings now.rings d.number more last adds.went
          second_too.went;
      size = second.size ∙ adds.size;
    } in
    record {
      number = number;
      size = both.size;
      others = λ me apart. others_after c old now d.number me (more ++ last) both apart;
      callers = callers_after c old now d.number (more ++ last) both;
      later = went_extends (shapes c) true old.rings now.rings d.number (more ++ last) both.went;
      stood = record {
        walked = walked_on c m.histories me steps plan mine within
            (owed_on (segments_after [] steps) last (made_owed c me m.histories plan (closing_good j steps)));
        first = steps;
        last = last;
        split = refl;
        made_is = owes;
        ends = inr (
          ap (λ (r : _). is_none m.connection.closed && is_none (ended_by (came_by j r))) (received_closed j steps last closed)
              ∙ ap (λ (e : Option Ending). is_none m.connection.closed && is_none e) is
              ∙ and_false (is_none m.connection.closed),
          closed,
        );
      };
    }

-- bytes came in, and what they owe was made
pub comes : (c : Config) (cap : ℕ) (heading : Heading) (h : Histories) (d now : Connected) (plan : Plan)
    → KeepsRules cap c → is_none now.closed ≡ true → now.number ≡ d.number → Walked c h d.number now.steps
    → IsGood plan
    → IsWithin (length c.mount) plan
    → IsMade (plan_of c (judged_of c heading now)) (owed_among (now.steps ++ made c now.number h plan))
    → Moves c heading h d (goes_to c heading h now plan)
comes c cap heading h d now plan kept uncut number walked good within owes =
    let mine = subst (λ (n : ℕ). Walked c h n now.steps) (sym number) walked in
    let steps = made c now.number h plan in
    let m = makes c h now plan in
    let adds = plan_adds c h now.number plan mine.size within in
    closed_moves (ended_by (came_to (judged_of c heading now) m.connection.steps)) c heading h d m steps
    (judged_fed c cap now.opening heading now.text kept) refl uncut number
    (subst (λ (n : ℕ). Adds c h m.histories n steps) number adds)
    (subst (λ (n : ℕ). Walked c m.histories n (now.steps ++ steps)) number
    (walked_on c h now.number now.steps plan mine within
    (owed_on (segments_after [] now.steps) steps (made_owed c now.number h plan good))))
    owes

-- ---- whatever happens

-- one that goes on was not closed
uncut_going : (c : Config) (heading : Heading) (d : Connected)
    → goes_on (judged_of c heading d) d.steps d.closed ≡ true → is_none d.closed ≡ true
uncut_going c heading d goes =
    (and_parts (is_none d.closed) (is_none (ended_by (came_to (judged_of c heading d) d.steps))) goes).0

pub moved_moves : (c : Config) (cap : ℕ) (heading : Heading) (h : Histories) (d : Connected) (what : Happening)
    → KeepsRules cap c → Stood c heading h d → goes_on (judged_of c heading d) d.steps d.closed ≡ true
    → Moves c heading h d (moved c heading h d what)
moved_moves c cap heading h d (arrives more) kept s goes =
    let now = with_text d (d.text ++ more) in
    let later = plan_of c (judged c d.opening heading (d.text ++ more)) in
    let plan = left later (owed_among d.steps) in
    let steps = made c d.number h plan in
    let good = good_left later (owed_among d.steps) (good_plan c (judged c d.opening heading (d.text ++ more))) in
    comes c cap heading h d now plan kept (uncut_going c heading d goes) refl s.walked good
    (left_within (length c.mount) later (owed_among d.steps)
    (plan_within c (judged c d.opening heading (d.text ++ more))
    (judged_fed c cap d.opening heading (d.text ++ more) kept)))
    (subst (IsMade later)
    (ap (λ (l : List Step). owed_among d.steps ++ l) (sym (owed_all steps (made_owed c d.number h plan good)))
    ∙ sym (owed-append d.steps steps))
    (made_both (plan_of c (judged_of c heading d)) later (owed_among d.steps) steps
    (plan_grows c d.opening heading d.text more) (still_made c heading h d s goes) (made_is c d.number h plan)))
moved_moves c cap heading h d (takes_turn budget) kept s goes =
    let segments = segments_after [] d.steps in
    let plan = reads budget segments in
    let steps = made c d.number h plan in
    let within = turn_within (length c.mount) budget segments
    (segments_below (length c.mount) [] d.steps (All-nil (IsBelow (length c.mount))) s.walked.within) in
    let m = makes c h d plan in
    let adds = plan_adds c h d.number plan s.walked.size within in
    record {
      number = refl;
      size = adds.size;
      others = λ me apart. others_after c h m.histories d.number me steps adds apart;
      callers = callers_after c h m.histories d.number steps adds;
      later = went_extends (shapes c) true h.rings m.histories.rings d.number steps adds.went;
      stood = record {
        walked = walked_on c h d.number d.steps plan s.walked within (turn_on c d.number h segments budget);
        first = d.steps ++ steps;
        last = [];
        split = sym (append-nil (d.steps ++ steps));
        made_is = subst (IsMade (plan_of c (judged_of c heading d)))
            (sym (owed-append d.steps steps
            ∙ ap (λ (l : List Step). owed_among d.steps ++ l) (none_owed c d.number h segments budget)
            ∙ append-nil (owed_among d.steps)))
            (still_made c heading h d s goes);
        ends = inl (
          refl,
          going_turned (judged_of c heading d) d.closed (first_answer d.steps)
              (first_answer (d.steps ++ steps)) (received_turned c d.number h d.steps budget) goes,
        );
      };
    }
  where
    going_turned : (j : Judged) (closed : Option Last) (before after : Option Answer) → after ≡ before
        → (is_none closed && is_none (ended_by (came_by j before))) ≡ true → (is_none closed && is_none (ended_by (came_by j after))) ≡ true
    going_turned j closed before after same goes =
        ap (λ (r : Option Answer). is_none closed && is_none (ended_by (came_by j r))) same ∙ goes

    received_turned : (c : Config) (me : ℕ) (h : Histories) (steps : List Step) (budget : ℕ)
        → first_answer (steps ++ made c me h (reads budget (segments_after [] steps))) ≡ first_answer steps
    received_turned c me h [] budget = refl
    received_turned c me h (step ∷ steps) budget = refl

    none_owed : (c : Config) (me : ℕ) (h : Histories) (segments : List Segment) (budget : ℕ)
        → owed_among (made c me h (reads budget segments)) ≡ []
    none_owed c me h [] budget = refl
    none_owed c me h (segment ∷ older) budget = refl
moved_moves c cap heading h d (ends last) kept s goes =
    let j = judged_of c heading d in
    let plan = closing j d.steps in
    let steps = made c d.number h plan in
    let within = closing_within c j (first_answer d.steps) (segments_after [] d.steps)
    (judged_fed c cap d.opening heading d.text kept) in
    let m = makes c h (with_last d last) plan in
    let adds = plan_adds c h d.number plan s.walked.size within in
    record {
      number = refl;
      size = adds.size;
      others = λ me apart. others_after c h m.histories d.number me steps adds apart;
      callers = callers_after c h m.histories d.number steps adds;
      later = went_extends (shapes c) true h.rings m.histories.rings d.number steps adds.went;
      stood = record {
        walked = walked_on c h d.number d.steps plan s.walked within
            (owed_on (segments_after [] d.steps) steps (made_owed c d.number h plan (closing_good j d.steps)));
        first = d.steps;
        last = steps;
        split = refl;
        made_is = still_made c heading h d s goes;
        ends = inr (refl, made_is c d.number h plan);
      };
    }

-- one that just opened
pub fresh_moves : (c : Config) (cap : ℕ) (heading : Heading) (h : Histories) (number : ℕ) (o : Opening)
    → KeepsRules cap c → Walked c h number []
    → Moves c heading h (fresh number o) (moved c heading h (fresh number o) (arrives []))
fresh_moves c cap heading h number o kept walked =
    let j = judged c o heading [] in
    let plan = left (plan_of c j) [] in
    let steps = made c number h plan in
    let good = good_left (plan_of c j) [] (good_plan c j) in
    comes c cap heading h (fresh number o) (with_text (fresh number o) []) plan kept refl refl walked good
    (left_within (length c.mount) (plan_of c j) [] (plan_within c j (judged_fed c cap o heading [] kept)))
    (subst (IsMade (plan_of c j)) (sym (owed_all steps (made_owed c number h plan good)))
    (subst (λ (p : Plan). IsMade p steps) (left_none (plan_of c j)) (made_is c number h plan)))
  where
    left_none : (plan : Plan) → left plan [] ≡ plan
    left_none done = refl
    left_none (asks ask next) = refl

pub moved_if_moves : (concerned : Bool) (c : Config) (cap : ℕ) (heading : Heading) (h : Histories) (d : Connected)
    (what : Happening) → KeepsRules cap c → Stood c heading h d
    → (concerned ≡ true → goes_on (judged_of c heading d) d.steps d.closed ≡ true)
    → Moves c heading h d (moved_if concerned c heading h d what)
moved_if_moves true c cap heading h d what kept s goes = moved_moves c cap heading h d what kept s (goes refl)
moved_if_moves false c cap heading h d what kept s goes = record {
  number = refl;
  size = refl;
  others = λ me apart. record { size = refl; rings = λ mount. ([], sym (append-nil (history_at h.rings mount)), refl) };
  callers = λ is_such is mount all. all;
  later = extends_same h.rings;
  stood = s;
}
