-- A session that was fed or took a turn reached one event more.
use Rattle.std.proofs.Common.{◌≡◌, ◌∙◌, ◌+◌, ◌<◌, ◌^◌, ℕ, Bool, true, false, List, [], ◌∷◌, ◌++◌, length, refl, sym, ap, subst, inl, inr, Option, None, Some, append_assoc, arith}
use Rattle.std.specs.Prelude.{is_some}
use Rattle.std.proofs.lemmas.List.{append-nil, length-append}
use Rattle.std.proofs.lemmas.List.Elements.{filter-append}
use Rattle.session_calls.specs.Steps.{Step, answer_of}
use Rattle.session_calls.specs.Plans.{Plan, done, asks, left, IsMade, IsBegun}
use Rattle.session_calls.proofs.PlanLemmas.{made_rest}
use Rattle.rover_session.specs.Owed.{reads}
use Rattle.rover_session.specs.Made.{segments_after, owed_among, is_owed}
use Rattle.cast_config.specs.declared.config.Config.{Config}
use Rattle.session_model.specs.declared.ending.Ending.{Ending}
use Rattle.session_core.specs.declared.session.Session.{Session}
use Rattle.session_core.specs.declared.session_stage.SessionStage.{SessionStage}
use Rattle.session_core.specs.declared.session_stage.SessionStage.TheVariants as stages
use Rattle.session_model.specs.Headings.{Heading}
use Rattle.session_model.specs.Judged.{Opening, Judged, judged}
use Rattle.session_model.specs.Owed.{Happening, arrives, takes_turn, plan_of}
use Rattle.session_model.specs.Reports.{IsHeadingOf}
use Rattle.session_model.specs.Run.{Histories}
use Rattle.session_model.specs.Called.{Called, OthersCalled}
use Rattle.session_core.specs.Standing.{Stands, StandsFor, IsAtStage, IsMadeBy, EndsAs, Follows, Fed, is_halted}
use Rattle.session_core.specs.declared.ending.Flow.TheVariants as flows
use Rattle.session_core.specs.Turned.{Turned, is_rover, flow_of}
use Rattle.session_core.specs.Asking.{TellsAsked}
use Rattle.session_model.specs.Courses.{Event, happened, steps_of, text_of, IsGoingOn, Ran}
use Rattle.caster_link.specs.Links.{IsLeftOut}
use Rattle.caster_link.specs.Served.{Reached, Arrived}
use Rattle.caster_link.proofs.CalledLemmas.{called_none, called_both, called_less, others_none}
use Rattle.caster_link.proofs.CourseLemmas.{OwedBy, happened-snoc, steps-snoc, text-snoc, text-more, ran_more}

-- ---- the connection went on before

-- a session that goes on was not lost
pub stands_going : (c : Config) (session : Session) (opening : Opening) (text : List ℕ) (steps : List Step)
    (now : Histories) (sent : List ℕ) → session.ended ≡ None
    → StandsFor c session opening text steps now sent → Stands c session opening text steps now sent
stands_going c session opening text steps now sent unended (inl stands) = stands
stands_going c session opening text steps now sent unended (inr lost) =
    let clash : Some _ ≡ None = sym lost.ended ∙ unended in absurd cc

ends_going : (ended by : Option Ending) → ended ≡ None → EndsAs ended by → by ≡ None
ends_going None by unended (inl halted) = absurd cc
ends_going None by unended (inr same) = sym same
ends_going (Some end) by unended ends = absurd cc

pub going_on : (c : Config) (session : Session) (opening : Opening) (text : List ℕ) (steps : List Step)
    (now : Histories) (sent : List ℕ) → session.ended ≡ None
    → StandsFor c session opening text steps now sent → IsGoingOn c opening text steps
going_on c session opening text steps now sent unended stands =
    let is = stands_going c session opening text steps now sent unended stands in record {
      heading = is.heading;
      is_heading = is.is_heading;
      unended = ends_going session.ended _ unended is.ends;
    }

-- ---- one event

pub reach_event : (c : Config) (opening : Opening) (me : ℕ) (start now later : Histories) (session next : Session)
    (sent added : List ℕ) (whats : List Happening) (what : Happening) (more : List Step)
    (reached : Reached c opening me start now session sent whats)
    → session.ended ≡ None → next.me ≡ session.me → Called c false now later session.me more
    → OwedBy (is_halted next.ended) c opening (text_of whats) (steps_of reached.events)
    (record { what = what; made = more })
    → StandsFor c next opening (text_of (whats ++ what ∷ [])) (steps_of reached.events ++ more) later (sent ++ added)
    → TellsAsked opening (text_of (whats ++ what ∷ [])) next
    → Reached c opening me start later next (sent ++ added) (whats ++ what ∷ [])
reach_event c opening me start now later session next sent added whats what more reached unended same called owes
    stands tells =
    let event : Event = record { what = what; made = more } in
    let unhalted : is_halted session.ended ≡ false = ap is_halted unended in
    let whole : Ran c opening false reached.events =
    subst (λ (h : Bool). Ran c opening h reached.events) unhalted reached.ran in
    let going : IsGoingOn c opening (text_of whats) (steps_of reached.events) =
    going_on c session opening (text_of whats) (steps_of reached.events) now sent unended reached.stands in
    let is : happened reached.events ≡ whats = reached.happened_are in
    record {
      caller = same ∙ reached.caller;
      first = reached.first;
      is_first = reached.is_first;
      events = reached.events ++ event ∷ [];
      ran = ran_more c opening (is_halted next.ended) reached.events event whole
          (subst (λ (w : List Happening). IsGoingOn c opening (text_of w) (steps_of reached.events)) (sym is) going)
          (subst (λ (w : List Happening). OwedBy (is_halted next.ended) c opening (text_of w)
          (steps_of reached.events) event) (sym is) owes);
      happened_are = happened-snoc reached.events event ∙ ap (λ (w : List Happening). w ++ what ∷ []) is;
      called = subst (λ (s : List Step). Called c false start later me s) (sym (steps-snoc reached.events event))
          (called_both c start now later me (steps_of reached.events) more reached.called
          (subst (λ (n : ℕ). Called c false now later n more) reached.caller called));
      stands = subst (λ (s : List Step). StandsFor c next opening (text_of (whats ++ what ∷ [])) s later
          (sent ++ added)) (sym (steps-snoc reached.events event)) stands;
      asks = tells;
    }

-- ---- bytes

-- what was begun of a plan as a whole is, behind its first steps, begun of what is left of it
begun_rest : (plan : Plan) (first second : List Step) → IsBegun plan (first ++ second)
    → IsBegun (left plan first) second
begun_rest done [] second begun = begun
begun_rest done (step ∷ first) second begun = absurd begun
begun_rest (asks ask next) [] second begun = begun
begun_rest (asks ask next) (step ∷ first) second begun = begun_rest (next (answer_of step)) first second begun.1

owed_on : (halted : Bool) (c : Config) (opening : Opening) (text bytes : List ℕ) (heading : Heading)
    (steps more : List Step) → IsHeadingOf (Some opening) (text ++ bytes) heading → owed_among more ≡ more
    → IsMadeBy halted (plan_of c (judged c opening heading (text ++ bytes))) (owed_among (steps ++ more))
    → OwedBy halted c opening text steps (record { what = arrives bytes; made = more })
owed_on false c opening text bytes heading steps more is no_read made = record {
  heading = heading;
  is_heading = is;
  made = made_rest (plan_of c (judged c opening heading (text ++ bytes))) (owed_among steps) more
      (subst (IsMade (plan_of c (judged c opening heading (text ++ bytes))))
      (filter-append is_owed steps more ∙ ap (λ (l : List Step). owed_among steps ++ l) no_read) made);
}
owed_on true c opening text bytes heading steps more is no_read made = inl (record {
  heading = heading;
  is_heading = is;
  begun = begun_rest (plan_of c (judged c opening heading (text ++ bytes))) (owed_among steps) more
      (subst (IsBegun (plan_of c (judged c opening heading (text ++ bytes))))
      (filter-append is_owed steps more ∙ ap (λ (l : List Step). owed_among steps ++ l) no_read) made);
})

-- nothing behind these steps
none_behind : (steps more : List Step) → steps ++ more ≡ [] → more ≡ []
none_behind [] more none = none
none_behind (step ∷ steps) more none = absurd cc

fed_owes : (c : Config) (session : Session) (opening : Opening) (text bytes : List ℕ) (steps more : List Step)
    (now : Histories) (sent : List ℕ) → owed_among more ≡ more
    → StandsFor c session opening (text ++ bytes) (steps ++ more) now sent
    → OwedBy (is_halted session.ended) c opening text steps (record { what = arrives bytes; made = more })
fed_owes c session opening text bytes steps more now sent no_read (inl stands) =
    owed_on (is_halted session.ended) c opening text bytes stands.heading steps more stands.is_heading no_read
    stands.owes
fed_owes c session opening text bytes steps more now sent no_read (inr lost) =
    subst (λ (ended : Option Ending). OwedBy (is_halted ended) c opening text steps
    (record { what = arrives bytes; made = more })) (sym lost.ended)
    (inr (none_behind steps more lost.uncalled))

pub reach_bytes : (c : Config) (opening : Opening) (me : ℕ) (alone : Bool) (start now later : Histories)
    (session next : Session) (sent before after bytes : List ℕ) (whats : List Happening)
    (reached : Reached c opening me start now session sent whats) → session.ended ≡ None
    → next.me ≡ session.me
    → (fed : Fed c alone now later next opening (text_of whats ++ bytes) (steps_of reached.events) sent before after)
    → TellsAsked opening (text_of whats ++ bytes) next
    → Reached c opening me start later next (sent ++ fed.added) (whats ++ arrives bytes ∷ [])
reach_bytes c opening me alone start now later session next sent before after bytes whats reached unended same fed
    tells =
    reach_event c opening me start now later session next sent fed.added whats (arrives bytes) fed.more reached unended
    same
    (called_less c alone now later session.me fed.more
    (subst (λ (n : ℕ). Called c alone now later n fed.more) same fed.called))
    (fed_owes c next opening (text_of whats) bytes (steps_of reached.events) fed.more later (sent ++ fed.added)
    fed.no_read fed.stands)
    (subst (λ (t : List ℕ). StandsFor c next opening t (steps_of reached.events ++ fed.more) later (sent ++ fed.added))
    (sym (text-snoc whats (arrives bytes))) fed.stands)
    (subst (λ (t : List ℕ). TellsAsked opening t next) (sym (text-snoc whats (arrives bytes))) tells)

-- ---- a turn

-- what is no rover has no segment
no_segments : (c : Config) (me : ℕ) (now : Histories) (opening : Opening) (j : Judged) (text : List ℕ)
    (steps : List Step) (stage : SessionStage) → is_rover stage ≡ false → IsAtStage c me now opening j text steps stage
    → segments_after [] steps ≡ []
no_segments c me now opening j text steps (stages.Head head) apart at = ap (segments_after []) at.2
no_segments c me now opening j text steps stages.Over apart at = at.segments
no_segments c me now opening j text steps (stages.Source mount session) apart at = at.segments
no_segments c me now opening j text steps (stages.Relay mount session) apart at = at.segments
no_segments c me now opening j text steps (stages.Rover account session) apart at = absurd cc

turn_owed : (halted : Bool) (c : Config) (opening : Opening) (text : List ℕ) (heading : Heading)
    (steps more : List Step) → IsHeadingOf (Some opening) text heading
    → IsMadeBy halted (reads 16 (segments_after [] steps)) more
    → OwedBy halted c opening text steps (record { what = takes_turn 16; made = more })
turn_owed false c opening text heading steps more is made =
    record { heading = heading; is_heading = is; made = made }
turn_owed true c opening text heading steps more is made =
    inl (record { heading = heading; is_heading = is; begun = made })

-- of a session that is no rover
pub reach_still : (c : Config) (opening : Opening) (me : ℕ) (start now later : Histories) (session next : Session)
    (sent : List ℕ) (whats : List Happening) → Reached c opening me start now session sent whats
    → session.ended ≡ None → is_rover session.stage ≡ false → next ≡ session → later ≡ now
    → Reached c opening me start later next (sent ++ []) (whats ++ takes_turn 16 ∷ [])
reach_still c opening me start now later session next sent whats reached unended apart same still =
    let stands = stands_going c session opening (text_of whats) (steps_of reached.events) now sent unended
    reached.stands in
    let steps = steps_of reached.events in
    let none : segments_after [] steps ≡ [] =
    no_segments c session.me now opening (judged c opening stands.heading (text_of whats)) (text_of whats) steps
    session.stage apart stands.stage in
    reach_event c opening me start now later session next sent [] whats (takes_turn 16) [] reached unended
    (ap (λ (s : Session). s.me) same)
    (subst (λ (h : Histories). Called c false now h session.me []) (sym still) (called_none c now session.me))
    (subst (λ (ended : Option Ending). OwedBy (is_halted ended) c opening (text_of whats) steps
    (record { what = takes_turn 16; made = [] })) (sym (ap (λ (s : Session). s.ended) same ∙ unended))
    (record {
      heading = stands.heading;
      is_heading = stands.is_heading;
      made = subst (λ segments. IsMade (reads 16 segments) []) (sym none) refl;
    }))
    (subst (λ (s : Session). StandsFor c s opening (text_of (whats ++ takes_turn 16 ∷ [])) (steps ++ []) later
    (sent ++ [])) (sym same)
    (subst (λ (h : Histories). StandsFor c session opening (text_of (whats ++ takes_turn 16 ∷ [])) (steps ++ []) h
    (sent ++ [])) (sym still)
    (subst (λ (t : List ℕ). StandsFor c session opening t (steps ++ []) now (sent ++ []))
    (sym (text-snoc whats (takes_turn 16)))
    (subst (λ (l : List ℕ). StandsFor c session opening (text_of whats) (steps ++ []) now l) (sym (append-nil sent))
    (subst (λ (s : List Step). StandsFor c session opening (text_of whats) s now sent) (sym (append-nil steps))
    reached.stands)))))
    (subst (λ (t : List ℕ). TellsAsked opening t next) (sym (text-snoc whats (takes_turn 16)))
    (subst (TellsAsked opening (text_of whats)) (sym same) reached.asks))

-- of a rover
pub reach_turn : (c : Config) (opening : Opening) (me : ℕ) (alone : Bool) (start now later : Histories)
    (session next : Session) (sent before after : List ℕ) (whats : List Happening)
    (reached : Reached c opening me start now session sent whats) → session.ended ≡ None
    → next.me ≡ session.me
    → (turned : Turned c alone now later 16 next opening (text_of whats) (steps_of reached.events) sent before after)
    → TellsAsked opening (text_of whats) next
    → Reached c opening me start later next (sent ++ turned.added) (whats ++ takes_turn 16 ∷ [])
reach_turn c opening me alone start now later session next sent before after whats reached unended same turned tells =
    let stands = stands_going c session opening (text_of whats) (steps_of reached.events) now sent unended
    reached.stands in
    reach_event c opening me start now later session next sent turned.added whats (takes_turn 16) turned.more reached
    unended same
    (called_less c alone now later session.me turned.more
    (subst (λ (n : ℕ). Called c alone now later n turned.more) same turned.called))
    (turn_owed (is_halted next.ended) c opening (text_of whats) stands.heading (steps_of reached.events) turned.more
    stands.is_heading turned.made)
    (subst (λ (t : List ℕ). StandsFor c next opening t (steps_of reached.events ++ turned.more) later
    (sent ++ turned.added)) (sym (text-snoc whats (takes_turn 16))) turned.stands)
    (subst (λ (t : List ℕ). TellsAsked opening t next) (sym (text-snoc whats (takes_turn 16))) tells)

-- ---- what the next call asks

pub follows_reached : (c : Config) (opening : Opening) (me : ℕ) (start now : Histories) (session : Session)
    (sent : List ℕ) (whats : List Happening) (more : ℕ) → Reached c opening me start now session sent whats
    → length (text_of whats) + more < 2 ^ 63 → Follows c session now more
follows_reached c opening me start now session sent whats more reached few =
    (opening, text_of whats, steps_of reached.events, now, sent, reached.stands, others_none now session.me, few)

pub follows_fed : (c : Config) (alone : Bool) (now later : Histories) (session next : Session)
    (before after bytes : List ℕ) → Follows c session now (length bytes)
    → ((opening : Opening) (text : List ℕ) (steps : List Step) (histories : Histories) (sent : List ℕ)
    → StandsFor c session opening text steps histories sent → OthersCalled histories now session.me
    → Fed c alone now later next opening (text ++ bytes) steps sent before after)
    → Follows c next later 0
follows_fed c alone now later session next before after bytes (
  opening,
  text,
  steps,
  histories,
  sent,
  stands,
  others,
  few,
) fed =
    let got = fed opening text steps histories sent stands others in (
      opening,
      text ++ bytes,
      steps ++ got.more,
      later,
      sent ++ got.added,
      got.stands,
      others_none later next.me,
      omega (arith, few, length-append text bytes),
    )

-- ---- all that was due

-- a whole turn
pub turn_arrived : (c : Config) (opening : Opening) (me : ℕ) (start later : Histories) (next : Session)
    (sent before after added : List ℕ) (whats : List Happening) → after ≡ before ++ added
    → Reached c opening me start later next (sent ++ added) (whats ++ takes_turn 16 ∷ [])
    → Arrived c opening me start later next sent before after whats (takes_turn 16 ∷ [])
turn_arrived c opening me start later next sent before after added whats out reached = record {
  added = added;
  out = out;
  done = takes_turn 16 ∷ [];
  missing = [];
  split = refl;
  left_out = none_left_out (is_some next.ended);
  bytes = refl;
  reached = reached;
} where
  none_left_out : (ended : Bool) → IsLeftOut ended []
  none_left_out false = refl
  none_left_out true = inl refl

-- bytes that ended the connection
pub bytes_ended : (c : Config) (opening : Opening) (me : ℕ) (start later : Histories) (next : Session)
    (sent before after added bytes : List ℕ) (whats : List Happening) → after ≡ before ++ added
    → is_some next.ended ≡ true
    → Reached c opening me start later next (sent ++ added) (whats ++ arrives bytes ∷ [])
    → Arrived c opening me start later next sent before after whats (arrives bytes ∷ takes_turn 16 ∷ [])
bytes_ended c opening me start later next sent before after added bytes whats out ended reached = record {
  added = added;
  out = out;
  done = arrives bytes ∷ [];
  missing = takes_turn 16 ∷ [];
  split = refl;
  left_out = subst (λ (b : Bool). IsLeftOut b (takes_turn 16 ∷ [])) (sym ended) (inr refl);
  bytes = text-snoc whats (arrives bytes) ∙ sym (text-more whats (arrives bytes) (takes_turn 16));
  reached = reached;
}

-- bytes, and then their turn
pub bytes_turned : (c : Config) (opening : Opening) (me : ℕ) (start later : Histories) (next : Session)
    (sent before between after added bytes : List ℕ) (whats : List Happening) → between ≡ before ++ added
    → Arrived c opening me start later next (sent ++ added) between after (whats ++ arrives bytes ∷ [])
    (takes_turn 16 ∷ [])
    → Arrived c opening me start later next sent before after whats (arrives bytes ∷ takes_turn 16 ∷ [])
bytes_turned c opening me start later next sent before between after added bytes whats out turned = record {
  added = added ++ turned.added;
  out = turned.out ∙ ap (λ (l : List ℕ). l ++ turned.added) out ∙ append_assoc before added turned.added;
  done = arrives bytes ∷ turned.done;
  missing = turned.missing;
  split = ap (λ (l : List Happening). arrives bytes ∷ l) turned.split;
  left_out = turned.left_out;
  bytes = sym (ap text_of (append_assoc whats (arrives bytes ∷ []) turned.done)) ∙ turned.bytes
      ∙ ap text_of (append_assoc whats (arrives bytes ∷ []) (takes_turn 16 ∷ []));
  reached = subst (λ (l : List ℕ). Reached c opening me start later next l (whats ++ arrives bytes ∷ turned.done))
      (append_assoc sent added turned.added)
      (subst (Reached c opening me start later next (sent ++ added ++ turned.added))
      (append_assoc whats (arrives bytes ∷ []) turned.done) turned.reached);
}

-- ---- by what a call of the session answers

pub turned_arrived : (c : Config) (opening : Opening) (me : ℕ) (alone : Bool) (start now later : Histories)
    (session next : Session) (sent before after : List ℕ) (whats : List Happening)
    (reached : Reached c opening me start now session sent whats) → session.ended ≡ None
    → next.me ≡ session.me → TellsAsked opening (text_of whats) next
    → (is_rover session.stage ≡ false → (next ≡ session) × (later ≡ now) × (after ≡ before))
    → (is_rover session.stage ≡ true
    → Turned c alone now later 16 next opening (text_of whats) (steps_of reached.events) sent before after)
    → Arrived c opening me start later next sent before after whats (takes_turn 16 ∷ [])
turned_arrived c opening me alone start now later session next sent before after whats reached unended same tells still
    turned = by (is_rover session.stage) refl where
      by : (b : Bool) → is_rover session.stage ≡ b
          → Arrived c opening me start later next sent before after whats (takes_turn 16 ∷ [])
      by true is =
          let t = turned is in
          turn_arrived c opening me start later next sent before after t.added whats t.out
          (reach_turn c opening me alone start now later session next sent before after whats reached unended same t
          tells)
      by false is =
          let s = still is in
          turn_arrived c opening me start later next sent before after [] whats (s.2 ∙ sym (append-nil before))
          (reach_still c opening me start now later session next sent whats reached unended is s.0 s.1)

pub ended_flow : (ended : Option Ending) → flows.Ended ≡ flow_of ended → is_some ended ≡ true
ended_flow None is = absurd cc
ended_flow (Some end) is = refl
