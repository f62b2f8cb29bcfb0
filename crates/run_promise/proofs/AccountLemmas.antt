-- What a connection was, from its steps: by its judgement.
use Rattle.std.proofs.Common.{◌≡◌, ◌∙◌, ◌⊎◌, ◌++◌, ℕ, ◌-◌, ◌^◌, Bool, true, false, cond, IsTrue, List, [], ◌∷◌, reverse, All, Option, Some, inl, inr, refl, sym, ap, subst, option_to_list, eqb}
use Rattle.std.specs.Prelude.{is_none, min, unwrap_or}
use Rattle.std.specs.List.{concat}
use Rattle.std.proofs.lemmas.Bool.{false≢true}
use Rattle.std.proofs.lemmas.List.{append-nil, map-append}
use Rattle.std.proofs.lemmas.List.Sorted.{All-permutation, IsPermutation-reverse}
use Rattle.std.proofs.lemmas.List.Concat.{flat_map-append}
use Rattle.std.proofs.lemmas.List.Elements.{All-nil}
use Rattle.rtcm_frame.specs.Cut.{cut}
use Rattle.chunk_body.specs.Text.{IsOpen, IsPlain}
use Rattle.chunk_body.specs.declared.phase.Phase.{Phase}
use Rattle.chunk_body.specs.declared.phase.Phase.TheVariants.{Ended, Broken}
use Rattle.chunk_body.specs.Machine.{read, is_ended, is_broken}
use Rattle.chunk_body.proofs.TextLemmas.{bad_dead}
use Rattle.chunk_body.proofs.ReadingLemmas.{known, ended_reading, bad_reading, plain_read}
use Rattle.gga_read.specs.Report.{reports}
use Rattle.mount_ring.specs.declared.call.RingCall.{RingCall}
use Rattle.mount_ring.specs.declared.call.RingCall.TheVariants.{Claim}
use Rattle.mount_ring.specs.declared.call.RingAnswer.TheVariants.{Given, Taken}
use Rattle.caster_accounts.specs.declared.call.BookCall.{BookCall}
use Rattle.caster_accounts.specs.declared.call.BookCall.TheVariants.{Enter}
use Rattle.caster_accounts.specs.declared.call.BookAnswer.{BookAnswer}
use Rattle.caster_accounts.specs.declared.call.BookAnswer.TheVariants.{Entered, Full}
use Rattle.caster_accounts.specs.History.{inside, cap_at}
use Rattle.caster_accounts.specs.History as books
use Rattle.rover_cursor.specs.declared.segment.Segment.{Segment}
use Rattle.session_calls.specs.Steps.{to_book, Answer, of_ring, of_book, Step, at_ring, at_book}
use Rattle.session_calls.specs.Plans.{IsMade}
use Rattle.source_session.specs.Body.{payload, frames_of}
use Rattle.rover_session.specs.Body.{body_of}
use Rattle.rover_session.specs.Made.{segments_after, owed_among, sent_in, overrun_in}
use Rattle.rover_session.specs.Owed.{rover_plan}
use Rattle.rover_session.proofs.MadeLemmas.{owed-append}
use Rattle.rover_session.proofs.LawLemmas.{body_plain, sum_reversed}
use Rattle.ntrip_head.specs.declared.request.Version.{Version}
use Rattle.ntrip_head.specs.declared.request.Version.TheVariants.{One, Two}
use Rattle.ntrip_reply.specs.declared.kind.Reply.TheVariants as replies
use Rattle.cast_config.specs.declared.config.Config.{Config}
use Rattle.session_model.specs.declared.ending.Last.TheVariants as lasts
use Rattle.session_model.specs.declared.report.Connection.{Connection}
use Rattle.session_model.specs.Setting.{caps, bases_at}
use Rattle.session_model.specs.Setting as setting
use Rattle.session_core.proofs.BeginLemmas.{taken_untabled, full_untabled}
use Rattle.run_promise.specs.Selected.{Selects}
use Rattle.session_model.specs.Judged.{SourceTerms, RoverTerms, Judged, waiting, finished, source, rover}
use Rattle.session_model.specs.Owed.{came_by, first_answer, came_to, is_let_in, if_entered, terms_of, plan_of, closing, closing_by}
use Rattle.session_model.specs.Endings.{ended_by, claimed_ending, body_ending}
use Rattle.session_model.specs.Replies.{text_if, opening_text, reply_of, version_of, kept_frames, sent_by}
use Rattle.session_model.specs.Promises.{IsSoundIn, CountsAll, Keeps}
use Rattle.session_model.specs.Reports.{receipt_of, is_entered}
use Rattle.session_model.specs.Run.{Histories, Connected}
use Rattle.run_promise.specs.Calls.{Call, without_reads}
use Rattle.run_promise.specs.Promised.{Carries, Holds, IsReplied, HasEntered, asked, publishes, HasClaimed, WasTaken, Was}
use Rattle.run_promise.proofs.MadeLemmas.{AreAnswered, StepsOn}
use Rattle.run_promise.proofs.CallLemmas.{call_in, calls_of, same_owed}
use Rattle.run_promise.proofs.WalkLemmas.{IsNever, AreJoins, joins_made, joins-append, HasSuch, walk_keeps, none_such}
use Rattle.run_promise.proofs.SelectLemmas.{IsFilter, plan_made, plan_such}
use Rattle.run_promise.proofs.SourceLemmas.{Given_, Taken_, source_made, claim_such}
use Rattle.run_promise.proofs.OwedLemmas.{answered_front, answered_owed, on_front, received_owed, last_such, source_last, rover_last, closing_such}

-- ---- a connection that is judged so

-- what is told of it
abbrev pub told_with : Config → Histories → Connected → Judged → Connection
told_with c h d j =
    let receipt = receipt_of j d.steps (unwrap_or d.closed lasts.End) in
    record {
      number = d.number;
      receipt = receipt;
      bytes = sent_by c h.rings d.opening (came_to j d.steps) receipt.segments;
    }

-- what stands of it, and of its bytes that came when it was over
pub record Facts (c : Config) (h : Histories) (d : Connected) (j : Judged) (rest : List ℕ) : Type 0 where
  pub answered : AreAnswered c d.steps
  pub on : StepsOn [] d.steps
  pub first : List Step
  pub last : List Step
  pub split : d.steps ≡ first ++ last
  pub made : IsMade (plan_of c j) (owed_among first)
  pub closed : IsMade (closing j first) last
  pub whole : (rest ≡ []) ⊎ (is_none (ended_by (came_to j d.steps)) ≡ false)
  pub keeps : Keeps c h.rings d

module _ (c : Config) (h : Histories) (d : Connected) (j : Judged) (rest : List ℕ) (f : Facts c h d j rest) where
  owed_is : owed_among d.steps ≡ owed_among f.first ++ owed_among f.last
  owed_is = ap owed_among f.split ∙ owed-append f.first f.last

  pub calls_are : without_reads (calls_of d.steps) ≡ calls_of (owed_among f.first) ++ calls_of (owed_among f.last)
  calls_are = same_owed d.steps ∙ ap calls_of owed_is
      ∙ flat_map-append call_in (owed_among f.first) (owed_among f.last)

  pub first_answered : AreAnswered c (owed_among f.first)
  first_answered = answered_owed c f.first (answered_front c f.first f.last
      (subst (AreAnswered c) f.split f.answered))

  -- how it was received
  pub first_received : first_answer (owed_among f.first) ≡ first_answer f.first
  first_received = received_owed f.first (on_front [] f.first f.last
      (subst (λ (l : List Step). StepsOn [] l) f.split f.on))

  pub received_is : first_answer d.steps ≡ first_answer (owed_among f.first ++ owed_among f.last)
  received_is = sym (received_owed d.steps f.on) ∙ ap first_answer owed_is

  -- the filters of its segments
  pub has_such : (IsSuch : ℕ → Type 0) → AreJoins IsSuch (owed_among f.first)
      → All (HasSuch IsSuch) (segments_after [] d.steps)
  has_such IsSuch such =
      walk_keeps IsSuch c [] d.steps f.answered f.on
      (subst (AreJoins IsSuch) (sym owed_is)
      (joins-append IsSuch (owed_among f.first) (owed_among f.last) such
      (last_such IsSuch (closing j f.first) f.last
      (closing_such IsSuch (came_to j f.first) (segments_after [] f.first)) f.closed)))
      (All-nil (HasSuch IsSuch))

  pub no_segments : AreJoins IsNever (owed_among f.first) → segments_after [] d.steps ≡ []
  no_segments none = none_such (segments_after [] d.steps) (has_such IsNever none)

  -- where it has none, it was sent no more than a reply
  pub sent_reply : AreJoins IsNever (owed_among f.first)
      → (told_with c h d j).bytes ≡ opening_text c d.opening ++ reply_of c (came_to j d.steps)
  sent_reply none =
      ap (λ (l : List Segment). sent_by c h.rings d.opening (came_to j d.steps) (reverse l)) (no_segments none)
      ∙ append-nil (opening_text c d.opening ++ reply_of c (came_to j d.steps))

  -- the closing owes so, by how it was received
  pub closes_so : (by : Option Answer) → first_answer (owed_among f.first) ≡ by
      → IsMade (closing_by (came_by j by) (segments_after [] f.first)) f.last
  closes_so by is =
      subst (λ (r : Option Answer). IsMade (closing_by (came_by j r) (segments_after [] f.first)) f.last) (sym first_received ∙ is)
      f.closed

-- ---- who calls nothing

quiet_so : (c : Config) (h : Histories) (d : Connected) (j : Judged) (rest : List ℕ) (f : Facts c h d j rest)
    → owed_among f.first ≡ [] → owed_among f.last ≡ []
    → IsReplied (told_with c h d j) (opening_text c d.opening) (without_reads (calls_of d.steps))
    (reply_of c (came_to j d.steps))
quiet_so c h d j rest f first last = (
  calls_are c h d j rest f ∙ ap (λ (l : List Step). calls_of l ++ calls_of (owed_among f.last)) first
      ∙ ap calls_of last,
  sent_reply c h d j rest f (subst (AreJoins IsNever) (sym first) tt),
)

-- ---- a source

-- a body that has ended or is broken is not open
not_open : (body : List ℕ) (phase : Phase) → (read body).phase ≡ phase → IsTrue (is_ended phase) ⊎ IsTrue (is_broken phase)
    → IsOpen body → ⊥
not_open body Ended is over goes = goes.going ((ended_reading body (read body) (known body)).0 is)
not_open body Broken is over goes =
    bad_dead body (read body).taken ((bad_reading body (read body) (read body).taken (known body)).0 (is, refl)) goes.live
not_open body phase is (inl ended) goes = absurd cc
not_open body phase is (inr broken) goes = absurd cc

pub over_if : (chunked : Bool) (claim : ℕ) (body : List ℕ) → is_none (claimed_ending chunked claim body) ≡ false
    → (chunked ≡ true) × (IsOpen body → ⊥)
over_if false claim body over = absurd cc
over_if true claim body over = (
  refl,
  not_open body (read body).phase refl
      (over_by (is_ended (read body).phase) (is_broken (read body).phase) (read body).taken over),
)
  where
    over_by : (ended broken : Bool) (before : ℕ) → is_none (body_ending claim ended broken before) ≡ false
        → IsTrue ended ⊎ IsTrue broken
    over_by true broken before over = inl refl
    over_by false true before over = inr refl
    over_by false false before over = absurd cc

pub carries_so : (chunked : Bool) (body : List ℕ) → Carries chunked body (payload chunked body)
carries_so false body = refl
carries_so true body = plain_read body

pub source_joins : (c : Config) (terms : SourceTerms) (body : List ℕ) (steps : List Step)
    → IsMade (plan_of c (source terms body)) steps → AreJoins IsNever steps
source_joins c terms body steps made =
    joins_made IsNever (plan_of c (source terms body)) steps
    (tt, claim_such terms.mount (frames_of terms.chunked body)) made

given_so : (c : Config) (h : Histories) (d : Connected) (terms : SourceTerms) (body rest : List ℕ)
    (f : Facts c h d (source terms body) rest)
    → Given_ terms.mount (frames_of terms.chunked body) (owed_among f.first)
    → HasClaimed (told_with c h d (source terms body)) terms (opening_text c d.opening) body rest
    (without_reads (calls_of d.steps))
given_so c h d terms body rest f g =
    let j : Judged = source terms body in
    let by : first_answer (owed_among f.first) ≡ Some (of_ring (Given g.claim)) = ap first_answer g.steps_are in
    let all : first_answer d.steps ≡ Some (of_ring (Given g.claim)) =
    received_is c h d j rest f ∙ ap (λ (l : List Step). first_answer (l ++ owed_among f.last)) g.steps_are in
    let back = source_last terms body g.claim (segments_after [] f.first) f.last
    (closes_so c h d j rest f (Some (of_ring (Given g.claim))) by) in
    record {
      all_bytes = elim f.whole [
        | inl none ↦ inl none
        | inr over ↦ inr (over_if terms.chunked g.claim body
            (ap (λ (r : Option Answer). is_none (ended_by (came_by j r))) (sym all) ∙ over))
      ];
      claim = g.claim;
      later = calls_of g.rest ++ calls_of (owed_among f.last);
      given = calls_are c h d j rest f
          ∙ ap (λ (l : List Step). calls_of l ++ calls_of (owed_among f.last)) g.steps_are;
      carried = payload terms.chunked body;
      carries = carries_so terms.chunked body;
      published = map-append (λ (one : Call). (one.mount, one.asked)) (calls_of g.rest)
          (calls_of (owed_among f.last))
          ∙ ap (λ (l : List (ℕ × RingCall)). l ++ asked (calls_of (owed_among f.last))) g.published
          ∙ ap (λ (l : List (ℕ × RingCall)).
          publishes terms.mount g.claim (frames_of terms.chunked body) ++ l) back;
      bytes = sent_reply c h d j rest f (source_joins c terms body (owed_among f.first) f.made)
          ∙ ap (λ (r : Option Answer). opening_text c d.opening ++ reply_of c (came_by j r)) all;
    }

taken_so : (c : Config) (h : Histories) (d : Connected) (terms : SourceTerms) (body rest : List ℕ)
    (f : Facts c h d (source terms body) rest) → Taken_ terms.mount (owed_among f.first)
    → WasTaken (told_with c h d (source terms body)) terms (opening_text c d.opening) (without_reads (calls_of d.steps))
taken_so c h d terms body rest f t =
    let j : Judged = source terms body in
    let by : first_answer (owed_among f.first) ≡ Some (of_ring (Taken t.caller t.claim)) = ap first_answer t.steps_are in
    let all : first_answer d.steps ≡ Some (of_ring (Taken t.caller t.claim)) =
    received_is c h d j rest f ∙ ap (λ (l : List Step). first_answer (l ++ owed_among f.last)) t.steps_are in
    let last : owed_among f.last ≡ [] = ap owed_among (closes_so c h d j rest f (Some (of_ring (Taken t.caller t.claim))) by) in (
      t.caller,
      t.claim,
      calls_are c h d j rest f
          ∙ ap (λ (l : List Step). calls_of l ++ calls_of (owed_among f.last)) t.steps_are
          ∙ ap (λ (l : List Step). call_in (at_ring terms.mount Claim (Taken t.caller t.claim)) ++ calls_of l) last,
      sent_reply c h d j rest f (source_joins c terms body (owed_among f.first) f.made)
          ∙ ap (λ (r : Option Answer). opening_text c d.opening ++ reply_of c (came_by j r)) all
          ∙ ap (λ (l : List ℕ). opening_text c d.opening ++ l)
          (sym (taken_untabled terms.version (setting.table c))),
    )

-- ---- a rover

-- it entered, and then called what is selected
pub record HasEntry (c : Config) (terms : RoverTerms) (tail : List ℕ) (steps : List Step) : Type 0 where
  pub call : BookCall
  pub rest : List Step
  pub steps_are : steps ≡ at_book call Entered ∷ rest
  pub answered : AreAnswered c rest
  pub made : IsMade (rover_plan (terms_of c terms.admission) terms.first tail) rest

-- or its account was full
pub record IsFull (steps : List Step) : Type 0 where
  pub call : BookCall
  pub busy : ℕ
  pub cap : ℕ
  pub steps_are : steps ≡ at_book call (Full busy cap) ∷ []

asks_book : (x y : BookCall) → to_book x ≡ to_book y → x ≡ y
asks_book x y e = cc

entry_by : (c : Config) (terms : RoverTerms) (tail : List ℕ) (call : BookCall) (busy cap : ℕ) (full_now : Bool)
    (rest : List Step) → AreAnswered c rest
    → IsMade (if_entered (is_let_in (of_book (cond full_now (Full busy cap) Entered)))
    (rover_plan (terms_of c terms.admission) terms.first tail)) rest
    → HasEntry c terms tail (at_book call (cond full_now (Full busy cap) Entered) ∷ rest)
    ⊎ IsFull (at_book call (cond full_now (Full busy cap) Entered) ∷ rest)
entry_by c terms tail call busy cap true rest answered made = inr (record {
  call = call;
  busy = busy;
  cap = cap;
  steps_are = ap (λ (l : List Step). at_book call (Full busy cap) ∷ l) made;
})
entry_by c terms tail call busy cap false rest answered made = inl (record {
  call = call;
  rest = rest;
  steps_are = refl;
  answered = answered;
  made = made;
})

pub entry_made : (c : Config) (terms : RoverTerms) (tail : List ℕ) (steps : List Step) → AreAnswered c steps
    → IsMade (plan_of c (rover terms tail)) steps → HasEntry c terms tail steps ⊎ IsFull steps
entry_made c terms tail [] answered made = absurd made
entry_made c terms tail (at_ring at call answer ∷ rest) answered made = absurd cc
entry_made c terms tail (at_book call answer ∷ rest) answered made =
    let account : ℕ = terms.admission.account in
    let cap : ℕ = cap_at (caps c) account in
    let busy : ℕ = inside cap account answered.0.0 in
    let told : answer ≡ cond (eqb busy cap) (Full busy cap) Entered =
    answered.0.1 ∙ ap (λ (x : BookCall). books.answer (caps c) answered.0.0 x) (asks_book call (Enter account) made.0) in
    subst (λ (a : BookAnswer). HasEntry c terms tail (at_book call a ∷ rest) ⊎ IsFull (at_book call a ∷ rest)) (sym told)
    (entry_by c terms tail call busy cap (eqb busy cap) rest answered.1
    (subst (λ (a : BookAnswer). IsMade (if_entered (is_let_in (of_book a))
    (rover_plan (terms_of c terms.admission) terms.first tail)) rest) told made.1))

-- the frames of its segments are what its body holds
pub holds_so : (version : Version) (frames : List (List ℕ))
    → cut (body_of One frames) ≡ record { frames = frames; junk = 0; rest = [] } → IsOpen (body_of Two frames)
    → IsPlain (body_of Two frames) (concat frames) → Holds version (body_of version frames) frames
holds_so One frames cuts opens plain = cuts
holds_so Two frames cuts opens plain = (concat frames, opens, plain, ap cut (sym (body_plain frames)) ∙ cuts)

pub all_reversed : (P : Segment → Type 0) (segments : List Segment) → All P segments → All P (reverse segments)
all_reversed P segments all =
    All-permutation P segments (reverse segments) (IsPermutation-reverse segments) all

entered_so : (c : Config) (h : Histories) (d : Connected) (terms : RoverTerms) (tail rest : List ℕ)
    (f : Facts c h d (rover terms tail) rest) → HasEntry c terms tail (owed_among f.first)
    → HasEntered c h.rings (told_with c h d (rover terms tail)) terms (opening_text c d.opening) tail rest
    (without_reads (calls_of d.steps))
entered_so c h d terms tail rest f e =
    let j : Judged = rover terms tail in
    let by : first_answer (owed_among f.first) ≡ Some (of_book Entered) = ap first_answer e.steps_are in
    let all : first_answer d.steps ≡ Some (of_book Entered) =
    received_is c h d j rest f ∙ ap (λ (l : List Step). first_answer (l ++ owed_among f.last)) e.steps_are in
    let last : calls_of (owed_among f.last) ≡ [] = rover_last terms (segments_after [] f.first) f.last
    (closes_so c h d j rest f (Some (of_book Entered)) by) in
    let calls : without_reads (calls_of d.steps) ≡ calls_of e.rest =
    calls_are c h d j rest f
    ∙ ap (λ (l : List Step). calls_of l ++ calls_of (owed_among f.last)) e.steps_are
    ∙ ap (λ (l : List Call). calls_of e.rest ++ l) last ∙ append-nil (calls_of e.rest) in
    let told = option_to_list terms.first ++ reports tail in
    let frames = kept_frames c h.rings (reverse (segments_after [] d.steps)) in
    let version = unwrap_or terms.version One in
    record {
      entered = ap (λ (r : Option Answer). is_entered (came_by j r)) all;
      all_bytes = elim f.whole [
        | inl none ↦ none
        | inr over ↦ absurd (false≢true (sym over ∙ ap (λ (r : Option Answer). is_none (ended_by (came_by j r))) all))
      ];
      selects = subst (Selects terms.admission.near c.hysteresis terms.admission.group
          (bases_at c terms.admission.bases) told) (sym calls)
          (plan_made c terms.admission.near (terms_of c terms.admission) told e.rest e.answered e.made);
      filter = all_reversed (HasSuch (IsFilter terms.admission.group)) (segments_after [] d.steps)
          (has_such c h d j rest f (IsFilter terms.admission.group)
          (subst (AreJoins (IsFilter terms.admission.group)) (sym e.steps_are) (
            tt,
            joins_made (IsFilter terms.admission.group)
                (rover_plan (terms_of c terms.admission) terms.first tail) e.rest
                (plan_such terms.admission.near (terms_of c terms.admission) told) e.made,
          )));
      sound = all_reversed (IsSoundIn c h.rings) (segments_after [] d.steps) f.keeps.sound;
      counts = all_reversed (CountsAll c h.rings) (segments_after [] d.steps) f.keeps.counts;
      body = body_of version frames;
      bytes = ap (λ (r : Option Answer). opening_text c d.opening ++ reply_of c (came_by j r)
          ++ body_of (version_of (came_by j r)) frames) all;
      holds = holds_so version frames f.keeps.plain f.keeps.chunked f.keeps.data_is;
    }

full_so : (c : Config) (h : Histories) (d : Connected) (terms : RoverTerms) (tail rest : List ℕ)
    (f : Facts c h d (rover terms tail) rest) → IsFull (owed_among f.first)
    → ((told_with c h d (rover terms tail)).receipt.entered ≡ false)
    × IsReplied (told_with c h d (rover terms tail)) (opening_text c d.opening) (without_reads (calls_of d.steps))
    (text_if terms.version replies.Full [])
full_so c h d terms tail rest f e =
    let j : Judged = rover terms tail in
    let by : first_answer (owed_among f.first) ≡ Some (of_book (Full e.busy e.cap)) = ap first_answer e.steps_are in
    let all : first_answer d.steps ≡ Some (of_book (Full e.busy e.cap)) =
    received_is c h d j rest f ∙ ap (λ (l : List Step). first_answer (l ++ owed_among f.last)) e.steps_are in
    let last : owed_among f.last ≡ [] = ap owed_among (closes_so c h d j rest f (Some (of_book (Full e.busy e.cap))) by) in (
      ap (λ (r : Option Answer). is_entered (came_by j r)) all,
      (
        calls_are c h d j rest f
            ∙ ap (λ (l : List Step). calls_of l ++ calls_of (owed_among f.last)) e.steps_are
            ∙ ap calls_of last,
        sent_reply c h d j rest f (subst (AreJoins IsNever) (sym e.steps_are) (tt, tt))
            ∙ ap (λ (r : Option Answer). opening_text c d.opening ++ reply_of c (came_by j r)) all
            ∙ ap (λ (l : List ℕ). opening_text c d.opening ++ l)
            (sym (full_untabled terms.version (setting.table c))),
      ),
    )

-- ---- by its judgement

pub was_so : (c : Config) (h : Histories) (d : Connected) (j : Judged) (rest : List ℕ) → Facts c h d j rest
    → Was c h.rings (told_with c h d j) (opening_text c d.opening) rest (without_reads (calls_of d.steps)) j
was_so c h d waiting rest f =
    (whole_waiting f.whole, quiet_so c h d waiting rest f f.made (ap owed_among f.closed))
  where
    whole_waiting : (rest ≡ []) ⊎ (true ≡ false) → rest ≡ []
    whole_waiting (inl none) = none
    whole_waiting (inr over) = absurd cc
was_so c h d (finished reply end) rest f =
    quiet_so c h d (finished reply end) rest f f.made (ap owed_among f.closed)
was_so c h d (source terms body) rest f =
    elim (source_made c terms.mount (frames_of terms.chunked body) (owed_among f.first)
    (first_answered c h d (source terms body) rest f) f.made) [
      | inl given ↦ inl (given_so c h d terms body rest f given)
      | inr other ↦ inr (taken_so c h d terms body rest f other)
    ]
was_so c h d (rover terms tail) rest f =
    elim (entry_made c terms tail (owed_among f.first) (first_answered c h d (rover terms tail) rest f) f.made) [
      | inl entry ↦ inl (entered_so c h d terms tail rest f entry)
      | inr other ↦ inr (full_so c h d terms tail rest f other)
    ]

-- ---- sums

pub sent_so : (segments : List Segment) → sent_in segments ≡ sent_in (reverse segments)
sent_so segments =
    ap (λ (n : ℕ). min n (2 ^ 64 - 1)) (sym (sum_reversed (λ (segment : Segment). segment.sent) segments))

pub overrun_so : (segments : List Segment) → overrun_in segments ≡ overrun_in (reverse segments)
overrun_so segments =
    ap (λ (n : ℕ). min n (2 ^ 64 - 1)) (sym (sum_reversed (λ (segment : Segment). segment.overrun) segments))
