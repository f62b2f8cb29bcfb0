-- What stands of the steps of a link: its bytes, their answers, and that each read is of its newest
-- segment.
use Rattle.std.proofs.Common.{◌≡◌, ◌∙◌, ◌++◌, ℕ, Bool, true, false, cond, List, [], ◌∷◌, fold, refl, sym, ap, subst, inl, inr, eqb, eq-eqb, append_assoc}
use Rattle.std.specs.Prelude.{⊤}
use Rattle.std.proofs.lemmas.List.{append-nil}
use Rattle.std.proofs.lemmas.Grind.{fold-append}
use Rattle.cast_io.specs.declared.steps.Step.{Step as LinkStep}
use Rattle.cast_io.specs.declared.steps.Step.TheVariants as took
use Rattle.cast_io.specs.Links.{bytes_in}
use Rattle.turn_log.specs.History.{History}
use Rattle.turn_log.specs.Heard.{told}
use Rattle.mount_ring.specs.declared.call.RingCall.{RingCall}
use Rattle.mount_ring.specs.declared.call.RingCall.TheVariants.{Claim, Release, Publish, Join, Look, Read}
use Rattle.rover_cursor.specs.declared.segment.Segment.{Segment}
use Rattle.session_calls.specs.Steps.{Step, at_ring, at_book, ask_of, answer_of, ring_part, on_ring, on_book}
use Rattle.session_calls.specs.Plans.{Plan, done, asks, IsBegun}
use Rattle.session_calls.specs.Rings.{history_at, answer_at}
use Rattle.session_calls.proofs.PlanLemmas.{made_begun}
use Rattle.rover_session.specs.Owed.{reads}
use Rattle.rover_session.specs.Made.{segments_after, is_owed, owed_among}
use Rattle.cast_config.specs.declared.config.Config.{Config}
use Rattle.session_model.specs.Setting.{shapes}
use Rattle.session_model.specs.Called.{Called, book_answer}
use Rattle.session_model.specs.Headings.{Heading}
use Rattle.session_model.specs.Judged.{Opening, judged}
use Rattle.session_model.specs.Owed.{Happening, arrives, takes_turn, ends, came_to, plan_of, owed}
use Rattle.session_model.specs.Run.{Histories}
use Rattle.session_model.proofs.GoodLemmas.{IsGoodAsk, IsGood, good_left, good_plan, good_closing}
use Rattle.session_model.specs.Courses.{Event, happened, steps_on, steps_of, with_bytes, text_of, IsCourse, IsBroken, Ran}
use Rattle.caster_link.specs.Links.{happens_in, IsLeftOut}
use Rattle.caster_link.proofs.CourseLemmas.{text-snoc}
use Rattle.run_promise.specs.Calls.{IsReadOn}
use Rattle.run_promise.proofs.MadeLemmas.{asks_mount, asks_call, AreAnswered, AreOwed, StepsOn, on-append, owed_on}

-- ---- bytes

text_front : (text : List ℕ) (taken : List LinkStep)
    → fold with_bytes text (happens_in taken) ≡ text ++ bytes_in taken
text_front text [] = sym (append-nil text)
text_front text (took.Bytes bytes ∷ taken) =
    text_front (text ++ bytes) taken ∙ append_assoc text bytes (bytes_in taken)
text_front text (took.Idle ∷ taken) = text_front text taken
text_front text (took.End ∷ taken) = text_front text taken
text_front text (took.ReadFailed ∷ taken) = text_front text taken
text_front text (took.WriteFailed ∷ taken) = text_front text taken

-- a turn that was left out gave none
left_same : (ended : Bool) (whats missing : List Happening) → IsLeftOut ended missing
    → text_of (whats ++ missing) ≡ text_of whats
left_same false whats missing none =
    ap (λ (l : List Happening). text_of (whats ++ l)) none ∙ ap text_of (append-nil whats)
left_same true whats missing (inl none) =
    ap (λ (l : List Happening). text_of (whats ++ l)) none ∙ ap text_of (append-nil whats)
left_same true whats missing (inr turn) =
    ap (λ (l : List Happening). text_of (whats ++ l)) turn ∙ text-snoc whats (takes_turn 16)

pub given_is : (ended : Bool) (whats missing : List Happening) (taken : List LinkStep) → IsLeftOut ended missing
    → whats ++ missing ≡ happens_in taken → text_of whats ≡ bytes_in taken
given_is ended whats missing taken left split =
    sym (left_same ended whats missing left) ∙ ap text_of split ∙ text_front [] taken

-- ---- answers

-- each of these pairs is a call with an answer that its place gives
abbrev ArePairs : {C A : Type 0} → (History C → ℕ → C → A) → List (C × A) → Type 0
ArePairs answer [] = ⊤
ArePairs {C} answer (pair ∷ pairs) =
    ((me : ℕ) × (h : History C) × (pair.1 ≡ answer h me pair.0)) × ArePairs answer pairs

told_pairs : {C A : Type 0} (answer : History C → ℕ → C → A) (me : ℕ) (before more : History C)
    → ArePairs answer (told answer me before more)
told_pairs answer me before [] = tt
told_pairs {C} {A} answer me before (e ∷ more) =
    let later : List (C × A) = told answer me (before ++ e ∷ []) more in
    let rest : ArePairs answer later = told_pairs answer me (before ++ e ∷ []) more in
    elim (eqb e.0 me) as (λ b. ArePairs answer (cond b ((e.1, answer before me e.1) ∷ later) later)) [
      | true ↦ ((me, before, refl), rest)
      | false ↦ rest
    ]

pairs_back : {C A : Type 0} (answer : History C → ℕ → C → A) (first second : List (C × A))
    → ArePairs answer (first ++ second) → ArePairs answer second
pairs_back answer [] second all = all
pairs_back answer (pair ∷ first) second all = pairs_back answer first second all.1

steps_answered : (c : Config) (steps : List Step)
    → ((mount : ℕ) → ArePairs (answer_at (shapes c) mount) (on_ring mount steps))
    → ArePairs (book_answer c) (on_book steps) → AreAnswered c steps
steps_answered c [] rings book = tt
steps_answered c (at_ring mount call answer ∷ steps) rings book =
    let here = subst (λ (b : Bool). ArePairs (answer_at (shapes c) mount)
    (cond b ((call, answer) ∷ []) [] ++ on_ring mount steps)) (eq-eqb mount mount refl) (rings mount) in (
      here.0,
      steps_answered c steps
          (λ m. pairs_back (answer_at (shapes c) m) (ring_part m (at_ring mount call answer)) (on_ring m steps)
          (rings m)) book,
    )
steps_answered c (at_book call answer ∷ steps) rings book =
    ((book.0.1, book.0.2), steps_answered c steps rings book.1)

pub called_answered : (c : Config) (old now : Histories) (me : ℕ) (steps : List Step)
    → Called c false old now me steps → AreAnswered c steps
called_answered c old now me steps called =
    steps_answered c steps
    (λ mount. subst (ArePairs (answer_at (shapes c) mount)) (called.rings.rings mount).mine
    (told_pairs (answer_at (shapes c) mount) me (history_at old.rings mount) (called.rings.rings mount).more))
    (subst (ArePairs (book_answer c)) called.book.mine
    (told_pairs (book_answer c) me old.book called.book.more))

-- ---- reads

step_owed : (step : Step) → IsGoodAsk (ask_of step) → is_owed step ≡ true
step_owed (at_ring mount Claim answer) good = refl
step_owed (at_ring mount (Release claim) answer) good = refl
step_owed (at_ring mount (Publish claim frame) answer) good = refl
step_owed (at_ring mount (Join filter) answer) good = refl
step_owed (at_ring mount Look answer) good = refl
step_owed (at_ring mount (Read cursor budget) answer) good = absurd good
step_owed (at_book call answer) good = refl

pub good_owed : (plan : Plan) (steps : List Step) → IsGood plan → IsBegun plan steps → AreOwed steps
good_owed plan [] good begun = tt
good_owed done (step ∷ steps) good begun = absurd begun
good_owed (asks ask next) (step ∷ steps) good begun = (
  step_owed step (subst IsGoodAsk (sym begun.0) good.0),
  good_owed (next (answer_of step)) steps (good.1 (answer_of step)) begun.1,
)

turn_on : (segments : List Segment) (budget : ℕ) (steps : List Step) → IsBegun (reads budget segments) steps
    → StepsOn segments steps
turn_on segments budget [] begun = tt
turn_on [] budget (step ∷ steps) begun = absurd begun
turn_on (segment ∷ older) budget (at_ring mount call answer ∷ []) begun =
    let call_is : call ≡ Read segment.cursor budget =
    asks_call mount segment.mount call (Read segment.cursor budget) begun.0 in
    let mount_is : mount ≡ segment.mount =
    asks_mount mount segment.mount call (Read segment.cursor budget) begun.0 in
    (subst (λ (x : RingCall). IsReadOn x mount (segment ∷ older)) (sym call_is) (mount_is, refl), tt)
turn_on (segment ∷ older) budget (at_ring mount call answer ∷ next ∷ steps) begun = absurd begun.1
turn_on (segment ∷ older) budget (at_book call answer ∷ steps) begun = let clash = begun.0 in absurd cc

event_on : (c : Config) (opening : Opening) (heading : Heading) (text : List ℕ) (steps : List Step)
    (what : Happening) (made : List Step) → IsBegun (owed c opening heading text steps what) made
    → StepsOn (segments_after [] steps) made
event_on c opening heading text steps (arrives more) made begun =
    let j = judged c opening heading (text ++ more) in
    owed_on (segments_after [] steps) made
    (good_owed (owed c opening heading text steps (arrives more)) made
    (good_left (plan_of c j) (owed_among steps) (good_plan c j)) begun)
event_on c opening heading text steps (takes_turn budget) made begun =
    turn_on (segments_after [] steps) budget made begun
event_on c opening heading text steps (ends last) made begun =
    owed_on (segments_after [] steps) made
    (good_owed (owed c opening heading text steps (ends last)) made
    (good_closing (came_to (judged c opening heading text) steps) (segments_after [] steps)) begun)

course_on : (c : Config) (opening : Opening) (text : List ℕ) (steps : List Step) (events : List Event)
    → StepsOn [] steps → IsCourse c opening text steps events → StepsOn [] (steps_on steps events)
course_on c opening text steps [] on course = on
course_on c opening text steps (event ∷ events) on course =
    let is = course.1 in
    course_on c opening (with_bytes text event.what) (steps ++ event.made) events
    (on-append [] steps event.made on
    (event_on c opening is.heading text steps event.what event.made (made_begun _ event.made is.made))) course.2

broken_on : (halted : Bool) (c : Config) (opening : Opening) (text : List ℕ) (steps : List Step)
    (last : List Event) → StepsOn [] steps → IsBroken halted c opening text steps last
    → StepsOn [] (steps_on steps last)
broken_on false c opening text steps last on broken =
    subst (λ (l : List Event). StepsOn [] (steps_on steps l)) (sym broken) on
broken_on true c opening text steps [] on broken = on
broken_on true c opening text steps (event ∷ []) on broken = elim broken.1 [
  | inl is ↦ on-append [] steps event.made on
      (event_on c opening is.heading text steps event.what event.made is.begun)
  | inr none ↦ subst (λ (l : List Step). StepsOn [] (steps ++ l)) (sym none)
      (subst (StepsOn []) (sym (append-nil steps)) on)
]
broken_on true c opening text steps (event ∷ next ∷ events) on broken = absurd broken

pub ran_on : (c : Config) (opening : Opening) (halted : Bool) (events : List Event)
    → Ran c opening halted events → StepsOn [] (steps_of events)
ran_on c opening halted events ran =
    subst (λ (l : List Event). StepsOn [] (steps_of l)) (sym ran.split)
    (subst (StepsOn [])
    (sym (fold-append (λ (made : List Step) (e : Event). made ++ e.made) [] ran.whole ran.last))
    (broken_on halted c opening (text_of (happened ran.whole)) (steps_of ran.whole) ran.last
    (course_on c opening [] [] ran.whole tt ran.course) ran.broken))
