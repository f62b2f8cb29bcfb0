-- What stands of a link that was halted: its calls are the first of what its bytes owe.
use Rattle.std.proofs.Common.{◌≡◌, ◌∙◌, ◌++◌, ℕ, Bool, true, false, List, [], ◌∷◌, reverse, All, Option, None, Some, inl, inr, refl, sym, ap, subst, option_to_list}
use Rattle.std.specs.Prelude.{unwrap_or, None}
use Rattle.std.proofs.lemmas.List.{append-nil, map-append}
use Rattle.std.proofs.lemmas.List.Concat.{flat_map-append}
use Rattle.std.proofs.lemmas.List.Elements.{All-nil}
use Rattle.gga_read.specs.Report.{reports}
use Rattle.turn_log.specs.History.{History}
use Rattle.mount_ring.specs.declared.call.RingCall.{RingCall}
use Rattle.mount_ring.specs.declared.call.RingCall.TheVariants.{Claim, Publish}
use Rattle.mount_ring.specs.declared.call.RingAnswer.TheVariants.{Given, Taken}
use Rattle.caster_accounts.specs.declared.call.BookAnswer.TheVariants.{Entered, Full}
use Rattle.rover_cursor.specs.declared.segment.Segment.{Segment}
use Rattle.session_calls.specs.Steps.{Answer, of_ring, of_book, Step, at_ring, at_book, answer_of}
use Rattle.session_calls.specs.Plans.{Plan, done, asks, left, IsMade, IsBegun}
use Rattle.source_session.specs.Body.{payload, frames_of}
use Rattle.rover_session.specs.Body.{body_of}
use Rattle.rover_session.specs.Made.{segments_after, owed_among}
use Rattle.rover_session.specs.Owed.{rover_plan}
use Rattle.rover_session.proofs.MadeLemmas.{owed-append}
use Rattle.ntrip_head.specs.declared.request.Version.{Version}
use Rattle.ntrip_head.specs.declared.request.Version.TheVariants.{One}
use Rattle.ntrip_reply.specs.declared.kind.Reply.TheVariants as replies
use Rattle.cast_config.specs.declared.config.Config.{Config}
use Rattle.session_model.specs.declared.report.Receipt.{Receipt}
use Rattle.session_model.specs.Setting.{bases_at}
use Rattle.session_model.specs.Setting as setting
use Rattle.session_model.specs.Judged.{Opening, SourceTerms, RoverTerms, Judged, waiting, finished, source, rover}
use Rattle.session_model.specs.Owed.{holding, inside, came_by, first_answer, came_to, terms_of, plan_of, closing, closing_by}
use Rattle.session_core.proofs.BeginLemmas.{taken_untabled, full_untabled}
use Rattle.session_model.specs.Promises.{Keeps}
use Rattle.session_model.specs.Replies.{text_if, opening_text, reply_of, kept_frames, sent_by}
use Rattle.session_model.specs.Reports.{is_entered}
use Rattle.session_model.specs.Run.{nothing_called, made}
use Rattle.session_core.specs.Closed.{IsSettled}
use Rattle.run_promise.specs.Calls.{Call, call, without_reads}
use Rattle.run_promise.specs.Selected.{Selects}
use Rattle.run_promise.specs.Promised.{Holds, IsReplied, asked, publishes, WasTaken}
use Rattle.run_promise.proofs.MadeLemmas.{made_is, AreAnswered, answered-append, made_answered, StepsOn}
use Rattle.run_promise.proofs.CallLemmas.{call_in, calls_of, same_owed}
use Rattle.run_promise.proofs.WalkLemmas.{IsNever, AreJoins, joins_made, HasSuch, walk_keeps, none_such}
use Rattle.run_promise.proofs.SelectLemmas.{IsFilter, plan_made, plan_such}
use Rattle.run_promise.proofs.SourceLemmas.{Given_, Taken_, source_made}
use Rattle.run_promise.proofs.OwedLemmas.{answered_owed, received_owed, source_last, rover_last}
use Rattle.run_promise.proofs.AccountLemmas.{carries_so, source_joins, HasEntry, IsFull, entry_made, holds_so, all_reversed}
use Rattle.serve_promise.specs.Links.{HasEnteredFirst, HasClaimedFirst, WasFirst, given_back, told_as}
use Rattle.serve_promise.proofs.ClosesLemmas.{done_settled, unasked_none}

-- ---- the rest of a plan

begun_left : (plan : Plan) (first second : List Step) → IsBegun plan first → IsMade (left plan first) second
    → IsMade plan (first ++ second)
begun_left done [] second begun is = is
begun_left done (step ∷ first) second begun is = absurd begun
begun_left (asks ask next) [] second begun is = is
begun_left (asks ask next) (step ∷ first) second begun is =
    (begun.0, begun_left (next (answer_of step)) first second begun.1 is)

-- the steps begin the plan, and these are the whole of it with some answers
record Completed (c : Config) (plan : Plan) (steps : List Step) : Type 0 where
  more : List Step
  is_made : IsMade plan (steps ++ more)
  answered : AreAnswered c (steps ++ more)

completed : (c : Config) (plan : Plan) (steps : List Step) → AreAnswered c steps → IsBegun plan steps
    → Completed c plan steps
completed c plan steps answered begun =
    let rest = left plan steps in
    let more : List Step = made c 0 (nothing_called c) rest in
    record {
      more = more;
      is_made = begun_left plan steps more begun (made_is c 0 (nothing_called c) rest);
      answered = answered-append c steps more answered (made_answered c 0 (nothing_called c) rest);
    }

begun_done : (steps : List Step) → IsBegun done steps → steps ≡ []
begun_done [] begun = refl
begun_done (step ∷ steps) begun = absurd begun

joins_front : (IsSuch : ℕ → Type 0) (first second : List Step) → AreJoins IsSuch (first ++ second)
    → AreJoins IsSuch first
joins_front IsSuch [] second all = tt
joins_front IsSuch (step ∷ first) second all = (all.0, joins_front IsSuch first second all.1)

none_left : (first second : List Step) → first ++ second ≡ [] → first ≡ []
none_left [] second none = refl
none_left (step ∷ first) second none = absurd cc

cons_same : {X : Type 0} (x y : X) (xs ys : List X) → x ≡ y → xs ≡ ys → x ∷ xs ≡ y ∷ ys
cons_same x y xs ys head tail = cc

-- the first of some frames that are published
publishes_split : (mount claim : ℕ) (frames : List (List ℕ)) (first second : List (ℕ × RingCall))
    → first ++ second ≡ publishes mount claim frames
    → (these : List (List ℕ)) × (missing : List (List ℕ)) × (frames ≡ these ++ missing)
    × (first ≡ publishes mount claim these)
publishes_split mount claim frames [] second is = ([], frames, refl, refl)
publishes_split mount claim [] (one ∷ first) second is = absurd cc
publishes_split mount claim (frame ∷ frames) (one ∷ first) second is =
    let head : one ≡ (mount, Publish claim frame) = cc in
    let tail : first ++ second ≡ publishes mount claim frames = cc in
    let rest = publishes_split mount claim frames first second tail in (
      frame ∷ rest.0,
      rest.1,
      cons_same frame frame frames (rest.0 ++ rest.1) refl rest.2,
      cons_same one (mount, Publish claim frame) first (publishes mount claim rest.0) head rest.3,
    )

asked_both : (first second : List Call) (x y : List (ℕ × RingCall)) → asked first ≡ x → asked second ≡ y
    → asked (first ++ second) ≡ x ++ y
asked_both first second x y is also =
    map-append (λ (one : Call). (one.mount, one.asked)) first second
    ∙ ap (λ (l : List (ℕ × RingCall)). l ++ asked second) is ∙ ap (λ (l : List (ℕ × RingCall)). x ++ l) also

asked_split : (first second all : List Step) → all ≡ first ++ second
    → asked (calls_of all) ≡ asked (calls_of first) ++ asked (calls_of second)
asked_split first second all is =
    ap (λ (l : List Step). asked (calls_of l)) is
    ∙ ap asked (flat_map-append call_in first second)
    ∙ asked_both (calls_of first) (calls_of second) (asked (calls_of first)) (asked (calls_of second)) refl refl

-- ---- what stands of it

pub record Part (c : Config) (histories : List (History RingCall)) (opening : Opening) (me : ℕ) (j : Judged)
    (steps closed_by : List Step) (receipt : Receipt) (due : List ℕ) : Type 0 where
  pub answered : AreAnswered c steps
  pub on : StepsOn [] steps
  pub begun : IsBegun (plan_of c j) (owed_among steps)
  pub settled : IsSettled receipt.settled (closing j steps) closed_by
  pub segments : receipt.segments ≡ reverse (segments_after [] steps)
  pub entered : receipt.entered ≡ is_entered (came_to j steps)
  pub due_is : due ≡ sent_by c histories opening (came_to j steps) (reverse (segments_after [] steps))
  pub keeps : Keeps c histories (record {
    number = me;
    opening = opening;
    text = [];
    steps = steps;
    closed = None;
  })

module _ (c : Config) (histories : List (History RingCall)) (opening : Opening) (me : ℕ) (j : Judged)
    (steps closed_by : List Step) (receipt : Receipt) (due : List ℕ)
    (p : Part c histories opening me j steps closed_by receipt due) where
  abbrev all_calls : List Call
  all_calls = without_reads (calls_of (steps ++ closed_by))

  calls_are : all_calls ≡ calls_of (owed_among steps) ++ calls_of (owed_among closed_by)
  calls_are = same_owed (steps ++ closed_by) ∙ ap calls_of (owed-append steps closed_by)
      ∙ flat_map-append call_in (owed_among steps) (owed_among closed_by)

  received_is : (owed : List Step) → owed_among steps ≡ owed → first_answer steps ≡ first_answer owed
  received_is owed is = sym (received_owed steps p.on) ∙ ap first_answer is

  closes_by : (by : Option Answer) → first_answer steps ≡ by
      → IsSettled receipt.settled (closing_by (came_by j by) (segments_after [] steps)) closed_by
  closes_by by is =
      subst (λ (r : Option Answer). IsSettled receipt.settled (closing_by (came_by j r) (segments_after [] steps)) closed_by) is
      p.settled

  -- it was halted before it called anything
  none_called : owed_among steps ≡ [] → all_calls ≡ []
  none_called none =
      let closed : closed_by ≡ [] = unasked_none receipt.settled j (segments_after [] steps) closed_by
      (closes_by None (received_is [] none)) in
      calls_are
      ∙ ap (λ (l : List Step). calls_of l ++ calls_of (owed_among closed_by)) none
      ∙ ap (λ (l : List Step). calls_of (owed_among l)) closed

  such : (IsSuch : ℕ → Type 0) → AreJoins IsSuch (owed_among steps)
      → All (HasSuch IsSuch) (segments_after [] steps)
  such IsSuch joins = walk_keeps IsSuch c [] steps p.answered p.on joins (All-nil (HasSuch IsSuch))

  -- where it joined nothing, no more than a reply is due
  reply_due : (by : Option Answer) → first_answer steps ≡ by → AreJoins IsNever (owed_among steps)
      → due ≡ opening_text c opening ++ reply_of c (came_by j by)
  reply_due by is joins =
      p.due_is
      ∙ ap (λ (r : Option Answer). sent_by c histories opening (came_by j r) (reverse (segments_after [] steps))) is
      ∙ ap (λ (l : List Segment). sent_by c histories opening (came_by j by) (reverse l))
      (none_such (segments_after [] steps) (such IsNever joins))
      ∙ append-nil (opening_text c opening ++ reply_of c (came_by j by))

  none_first : owed_among steps ≡ []
      → IsReplied (told_as me receipt due) (opening_text c opening) all_calls (reply_of c (came_by j None))
  none_first none = (
    none_called none,
    reply_due None (received_is [] none) (subst (AreJoins IsNever) (sym none) tt),
  )

-- ---- a source

module _ (c : Config) (histories : List (History RingCall)) (opening : Opening) (me : ℕ) (terms : SourceTerms)
    (body : List ℕ) (steps closed_by : List Step) (receipt : Receipt) (due : List ℕ)
    (p : Part c histories opening me (source terms body) steps closed_by receipt due)
    (step : Step) (more : List Step) (owed : owed_among steps ≡ step ∷ more)
    (all : Completed c (plan_of c (source terms body)) (step ∷ more)) where
  abbrev sourced : Judged
  sourced = source terms body

  abbrev frames : List (List ℕ)
  frames = frames_of terms.chunked body

  joins : AreJoins IsNever (owed_among steps)
  joins = subst (AreJoins IsNever) (sym owed)
      (joins_front IsNever (step ∷ more) all.more
      (source_joins c terms body ((step ∷ more) ++ all.more) all.is_made))

  released_by : (settled : Bool) (claim : ℕ)
      → IsSettled settled (closing_by (holding terms body claim) (segments_after [] steps)) closed_by
      → asked (calls_of (owed_among closed_by)) ≡ given_back settled terms.mount claim
  released_by true claim is = source_last terms body claim (segments_after [] steps) closed_by is
  released_by false claim is = ap (λ (l : List Step). asked (calls_of (owed_among l))) is

  claimed_first : Given_ terms.mount frames ((step ∷ more) ++ all.more)
      → HasClaimedFirst (told_as me receipt due) terms (opening_text c opening) body
      (without_reads (calls_of (steps ++ closed_by)))
  claimed_first g =
      let first : step ≡ at_ring terms.mount Claim (Given g.claim) = let e = g.steps_are in cc in
      let rest : g.rest ≡ more ++ all.more = let e = g.steps_are in cc in
      let owed_is : owed_among steps ≡ at_ring terms.mount Claim (Given g.claim) ∷ more =
      owed ∙ ap (λ (s : Step). s ∷ more) first in
      let by : first_answer steps ≡ Some (of_ring (Given g.claim)) =
      received_is c histories opening me sourced steps closed_by receipt due p _ owed_is in
      let both : asked (calls_of more) ++ asked (calls_of all.more) ≡ publishes terms.mount g.claim frames =
      sym (asked_split more all.more g.rest rest) ∙ g.published in
      let split = publishes_split terms.mount g.claim frames (asked (calls_of more)) (asked (calls_of all.more))
      both in
      record {
        claim = g.claim;
        later = calls_of more ++ calls_of (owed_among closed_by);
        given = calls_are c histories opening me sourced steps closed_by receipt due p
            ∙ ap (λ (l : List Step). calls_of l ++ calls_of (owed_among closed_by)) owed_is;
        carried = payload terms.chunked body;
        carries = carries_so terms.chunked body;
        frames = split.0;
        missing = split.1;
        first = split.2;
        published = asked_both (calls_of more) (calls_of (owed_among closed_by))
            (publishes terms.mount g.claim split.0) (given_back receipt.settled terms.mount g.claim) split.3
            (released_by receipt.settled g.claim
            (closes_by c histories opening me sourced steps closed_by receipt due p (Some (of_ring (Given g.claim))) by));
        bytes = reply_due c histories opening me sourced steps closed_by receipt due p (Some (of_ring (Given g.claim))) by joins;
      }

  taken_first : Taken_ terms.mount ((step ∷ more) ++ all.more)
      → WasTaken (told_as me receipt due) terms (opening_text c opening)
      (without_reads (calls_of (steps ++ closed_by)))
  taken_first t =
      let first : step ≡ at_ring terms.mount Claim (Taken t.caller t.claim) = let e = t.steps_are in cc in
      let rest : more ++ all.more ≡ [] = let e = t.steps_are in cc in
      let owed_is : owed_among steps ≡ at_ring terms.mount Claim (Taken t.caller t.claim) ∷ [] =
      owed ∙ ap (λ (s : Step). s ∷ more) first
      ∙ ap (λ (l : List Step). at_ring terms.mount Claim (Taken t.caller t.claim) ∷ l)
      (none_left more all.more rest) in
      let by : first_answer steps ≡ Some (of_ring (Taken t.caller t.claim)) =
      received_is c histories opening me sourced steps closed_by receipt due p _ owed_is in
      let closed : closed_by ≡ [] = done_settled receipt.settled closed_by
      (closes_by c histories opening me sourced steps closed_by receipt due p (Some (of_ring (Taken t.caller t.claim))) by) in (
        t.caller,
        t.claim,
        calls_are c histories opening me sourced steps closed_by receipt due p
            ∙ ap (λ (l : List Step). calls_of l ++ calls_of (owed_among closed_by)) owed_is
            ∙ ap (λ (l : List Step). call terms.mount Claim (Taken t.caller t.claim) ∷ calls_of (owed_among l)) closed,
        reply_due c histories opening me sourced steps closed_by receipt due p
            (Some (of_ring (Taken t.caller t.claim))) by joins
            ∙ ap (λ (l : List ℕ). opening_text c opening ++ l)
            (sym (taken_untabled terms.version (setting.table c))),
      )

-- ---- a rover

module _ (c : Config) (histories : List (History RingCall)) (opening : Opening) (me : ℕ) (terms : RoverTerms)
    (tail : List ℕ) (steps closed_by : List Step) (receipt : Receipt) (due : List ℕ)
    (p : Part c histories opening me (rover terms tail) steps closed_by receipt due)
    (step : Step) (more : List Step) (owed : owed_among steps ≡ step ∷ more)
    (all : Completed c (plan_of c (rover terms tail)) (step ∷ more)) where
  abbrev roved : Judged
  roved = rover terms tail

  left_last : (settled : Bool)
      → IsSettled settled (closing_by (inside terms) (segments_after [] steps)) closed_by
      → calls_of (owed_among closed_by) ≡ []
  left_last true is = rover_last terms (segments_after [] steps) closed_by is
  left_last false is = ap (λ (l : List Step). calls_of (owed_among l)) is

  abbrev group : ℕ
  group = terms.admission.group

  entered_first : HasEntry c terms tail ((step ∷ more) ++ all.more)
      → HasEnteredFirst c histories (told_as me receipt due) terms (opening_text c opening) tail
      (without_reads (calls_of (steps ++ closed_by)))
  entered_first e =
      let told = option_to_list terms.first ++ reports tail in
      let plan = rover_plan (terms_of c terms.admission) terms.first tail in
      let segments : List Segment = segments_after [] steps in
      let version : Version = unwrap_or terms.version One in
      let first : step ≡ at_book e.call Entered = let f = e.steps_are in cc in
      let rest : e.rest ≡ more ++ all.more = let f = e.steps_are in cc in
      let owed_is : owed_among steps ≡ at_book e.call Entered ∷ more =
      owed ∙ ap (λ (s : Step). s ∷ more) first in
      let by : first_answer steps ≡ Some (of_book Entered) =
      received_is c histories opening me roved steps closed_by receipt due p _ owed_is in
      let calls : without_reads (calls_of (steps ++ closed_by)) ≡ calls_of more =
      calls_are c histories opening me roved steps closed_by receipt due p
      ∙ ap (λ (l : List Step). calls_of l ++ calls_of (owed_among closed_by)) owed_is
      ∙ ap (λ (l : List Call). calls_of more ++ l)
      (left_last receipt.settled
      (closes_by c histories opening me roved steps closed_by receipt due p (Some (of_book Entered)) by))
      ∙ append-nil (calls_of more) in
      let selected : calls_of e.rest ≡ without_reads (calls_of (steps ++ closed_by)) ++ calls_of all.more =
      ap calls_of rest ∙ flat_map-append call_in more all.more
      ∙ ap (λ (l : List Call). l ++ calls_of all.more) (sym calls) in
      let joins : AreJoins (IsFilter group) (owed_among steps) =
      subst (AreJoins (IsFilter group)) (sym owed_is) (
        tt,
        joins_front (IsFilter group) more all.more
            (subst (AreJoins (IsFilter group)) rest
            (joins_made (IsFilter group) plan e.rest
            (plan_such terms.admission.near (terms_of c terms.admission) told) e.made)),
      ) in
      record {
        entered = p.entered ∙ ap (λ (r : Option Answer). is_entered (came_by roved r)) by;
        missing = calls_of all.more;
        selects = subst (Selects terms.admission.near c.hysteresis group (bases_at c terms.admission.bases) told)
            selected (plan_made c terms.admission.near (terms_of c terms.admission) told e.rest e.answered e.made);
        filter = subst (All (HasSuch (IsFilter group))) (sym p.segments)
            (all_reversed (HasSuch (IsFilter group)) segments
            (such c histories opening me roved steps closed_by receipt due p (IsFilter group) joins));
        body = body_of version (kept_frames c histories receipt.segments);
        bytes = p.due_is
            ∙ ap (λ (r : Option Answer). sent_by c histories opening (came_by roved r) (reverse segments)) by
            ∙ ap (λ (l : List Segment). sent_by c histories opening (inside terms) l) (sym p.segments);
        holds = subst (λ (l : List Segment).
            Holds version (body_of version (kept_frames c histories l)) (kept_frames c histories l))
            (sym p.segments)
            (holds_so version (kept_frames c histories (reverse segments)) p.keeps.plain p.keeps.chunked
            p.keeps.data_is);
      }

  full_first : IsFull ((step ∷ more) ++ all.more)
      → (receipt.entered ≡ false)
      × IsReplied (told_as me receipt due) (opening_text c opening) (without_reads (calls_of (steps ++ closed_by)))
      (text_if terms.version replies.Full [])
  full_first e =
      let first : step ≡ at_book e.call (Full e.busy e.cap) = let f = e.steps_are in cc in
      let rest : more ++ all.more ≡ [] = let f = e.steps_are in cc in
      let owed_is : owed_among steps ≡ at_book e.call (Full e.busy e.cap) ∷ [] =
      owed ∙ ap (λ (s : Step). s ∷ more) first
      ∙ ap (λ (l : List Step). at_book e.call (Full e.busy e.cap) ∷ l) (none_left more all.more rest) in
      let by : first_answer steps ≡ Some (of_book (Full e.busy e.cap)) =
      received_is c histories opening me roved steps closed_by receipt due p _ owed_is in
      let closed : closed_by ≡ [] = done_settled receipt.settled closed_by
      (closes_by c histories opening me roved steps closed_by receipt due p (Some (of_book (Full e.busy e.cap))) by) in (
        p.entered ∙ ap (λ (r : Option Answer). is_entered (came_by roved r)) by,
        (
          calls_are c histories opening me roved steps closed_by receipt due p
              ∙ ap (λ (l : List Step). calls_of l ++ calls_of (owed_among closed_by)) owed_is
              ∙ ap (λ (l : List Step). calls_of (owed_among l)) closed,
          reply_due c histories opening me roved steps closed_by receipt due p
              (Some (of_book (Full e.busy e.cap))) by (subst (AreJoins IsNever) (sym owed_is) (tt, tt))
              ∙ ap (λ (l : List ℕ). opening_text c opening ++ l)
              (sym (full_untabled terms.version (setting.table c))),
        ),
      )

-- ---- by its judgement

source_first : (c : Config) (histories : List (History RingCall)) (opening : Opening) (me : ℕ) (terms : SourceTerms)
    (body : List ℕ) (steps closed_by : List Step) (receipt : Receipt) (due : List ℕ)
    (p : Part c histories opening me (source terms body) steps closed_by receipt due) (owed : List Step)
    → owed_among steps ≡ owed
    → WasFirst c histories (told_as me receipt due) (opening_text c opening)
    (without_reads (calls_of (steps ++ closed_by))) (source terms body)
source_first c histories opening me terms body steps closed_by receipt due p [] is =
    inr (inr (none_first c histories opening me (source terms body) steps closed_by receipt due p is))
source_first c histories opening me terms body steps closed_by receipt due p (step ∷ more) is =
    let plan = plan_of c (source terms body) in
    let all = completed c plan (step ∷ more)
    (subst (AreAnswered c) is (answered_owed c steps p.answered)) (subst (IsBegun plan) is p.begun) in
    elim (source_made c terms.mount (frames_of terms.chunked body) ((step ∷ more) ++ all.more) all.answered
    all.is_made) [
      | inl given ↦
          inl (claimed_first c histories opening me terms body steps closed_by receipt due p step more is all given)
      | inr other ↦
          inr (inl (taken_first c histories opening me terms body steps closed_by receipt due p step more is all
          other))
    ]

rover_first : (c : Config) (histories : List (History RingCall)) (opening : Opening) (me : ℕ) (terms : RoverTerms)
    (tail : List ℕ) (steps closed_by : List Step) (receipt : Receipt) (due : List ℕ)
    (p : Part c histories opening me (rover terms tail) steps closed_by receipt due) (owed : List Step)
    → owed_among steps ≡ owed
    → WasFirst c histories (told_as me receipt due) (opening_text c opening)
    (without_reads (calls_of (steps ++ closed_by))) (rover terms tail)
rover_first c histories opening me terms tail steps closed_by receipt due p [] is = inr (
  p.entered ∙ ap (λ (r : Option Answer). is_entered (came_by (rover terms tail) r))
      (received_is c histories opening me (rover terms tail) steps closed_by receipt due p [] is),
  inl (none_first c histories opening me (rover terms tail) steps closed_by receipt due p is),
)
rover_first c histories opening me terms tail steps closed_by receipt due p (step ∷ more) is =
    let plan = plan_of c (rover terms tail) in
    let all = completed c plan (step ∷ more)
    (subst (AreAnswered c) is (answered_owed c steps p.answered)) (subst (IsBegun plan) is p.begun) in
    elim (entry_made c terms tail ((step ∷ more) ++ all.more) all.answered all.is_made) [
      | inl entry ↦
          inl (entered_first c histories opening me terms tail steps closed_by receipt due p step more is all entry)
      | inr other ↦
          let is_full = full_first c histories opening me terms tail steps closed_by receipt due p step more is all
          other in
          inr (is_full.0, inr is_full.1)
    ]

pub first_so : (c : Config) (histories : List (History RingCall)) (opening : Opening) (me : ℕ) (j : Judged)
    (steps closed_by : List Step) (receipt : Receipt) (due : List ℕ)
    → Part c histories opening me j steps closed_by receipt due
    → WasFirst c histories (told_as me receipt due) (opening_text c opening)
    (without_reads (calls_of (steps ++ closed_by))) j
first_so c histories opening me waiting steps closed_by receipt due p = (
  refl,
  none_first c histories opening me waiting steps closed_by receipt due p (begun_done (owed_among steps) p.begun),
)
first_so c histories opening me (finished reply end) steps closed_by receipt due p =
    none_first c histories opening me (finished reply end) steps closed_by receipt due p
    (begun_done (owed_among steps) p.begun)
first_so c histories opening me (source terms body) steps closed_by receipt due p =
    source_first c histories opening me terms body steps closed_by receipt due p (owed_among steps) refl
first_so c histories opening me (rover terms tail) steps closed_by receipt due p =
    rover_first c histories opening me terms tail steps closed_by receipt due p (owed_among steps) refl
