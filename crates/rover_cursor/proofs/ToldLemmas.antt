-- What one more entry makes of the segment that a history tells.
use Rattle.std.proofs.Common.{◌≡◌, ℕ, ◌+◌, ◌<◌, ◌≤◌, Bool, true, false, IsTrue, List, [], ◌∷◌, ◌++◌, length, map, refl, ap, ◌∙◌, sym, subst, arith, eq-eqb, Option, None, Some}
use Rattle.std.specs.Prelude.{◌==◌, cond, fold, option_to_list}
use Rattle.mount_ring.specs.declared.Lap.{Lap}
use Rattle.std.specs.List.{list_all}
use Rattle.std.proofs.lemmas.Bool.{and_parts}
use Rattle.std.proofs.lemmas.List.Sums.{fold-append}
use Rattle.turn_log.specs.History.{History, own, GoesOn}
use Rattle.turn_log.specs.Turn.{Turned}
use Rattle.turn_log.specs.Heard.{told, Heard}
use Rattle.turn_log.proofs.HeardLaws.{heard_turn}
use Rattle.mount_ring.specs.declared.Cursor.{Cursor}
use Rattle.mount_ring.specs.declared.RingCall.{RingCall}
use Rattle.mount_ring.specs.declared.RingCall.TheVariants.{Claim, Release, Publish, Join, Look, Read}
use Rattle.mount_ring.specs.declared.RingAnswer.{RingAnswer}
use Rattle.mount_ring.specs.declared.RingAnswer.TheVariants.{Joined}
use Rattle.mount_ring.specs.declared.RingAnswer.TheVariants as answers
use Rattle.mount_ring.specs.declared.ReadReport.{ReadReport}
use Rattle.mount_ring.specs.declared.Holder.{Holder}
use Rattle.mount_ring.specs.declared.RingShape.{RingShape}
use Rattle.mount_ring.specs.Shapes.{shape_of}
use Rattle.mount_ring.specs.Reads.{read_report, read_frames}
use Rattle.mount_ring.specs.Places.{published_by}
use Rattle.mount_ring.specs.History.{Shape, State, after, state_of, permits_at, joined, answer, claim_answer, own_answers, answers_since, fits, filled}
use Rattle.mount_ring.proofs.OwnLemmas.{known_filter}
use Rattle.mount_ring.proofs.HistoryLemmas.{state_of-append, own_answers-append, published-append}
use Rattle.rover_cursor.specs.declared.segment.Segment.{Segment}
use Rattle.rover_cursor.specs.Segments.{begun, read_on, after_answer, newest_segments, lap_overrun}
use Rattle.rover_cursor.specs.Sound.{IsSound}
use Rattle.rover_cursor.specs.Told.{published_in, report_in, frames_in, segments_told, IsSegment, is_quiet, Resumes}
use Rattle.rover_cursor.proofs.SoundLemmas.{IsSound-append, IsSound-begun, IsSound-read, sound_few, sound_readable}

-- ---- one call of the caller

answers_one : (shape : Shape) (me : ℕ) (h : History RingCall) (call : RingCall) →
    own_answers shape me (h ++ (me, call) ∷ []) ≡ own_answers shape me h ++ answer shape (state_of h) call ∷ []
answers_one shape me h call =
    own_answers-append shape me h ((me, call) ∷ [])
    ∙ ap (λ (b : Bool). own_answers shape me h ++ map (λ (pair : RingCall × RingAnswer). pair.1)
    (cond b ((call, answer shape (state_of h) call) ∷ []) [])) (eq-eqb me me refl)

-- the segments told change by that call's answer
told_one : (shape : Shape) (mount me : ℕ) (h : History RingCall) (call : RingCall) →
    segments_told shape mount me (h ++ (me, call) ∷ [])
    ≡ after_answer mount (segments_told shape mount me h) (answer shape (state_of h) call)
told_one shape mount me h call =
    ap (newest_segments mount) (answers_one shape me h call)
    ∙ fold-append (after_answer mount) [] (own_answers shape me h) (answer shape (state_of h) call ∷ [])

-- a join publishes nothing, nor does a read
pub published_joined : (me filter : ℕ) (h : History RingCall) → published_in (h ++ (me, Join filter) ∷ [])
    ≡ published_in h
published_joined me filter h = ap (λ (s : State). s.published) (state_of-append h ((me, Join filter) ∷ []))

pub published_read : (me : ℕ) (cursor : Cursor) (budget : ℕ) (h : History RingCall) →
    published_in (h ++ (me, Read cursor budget) ∷ []) ≡ published_in h
published_read me cursor budget h = ap (λ (s : State). s.published) (state_of-append h ((me, Read cursor budget) ∷ []))

-- ---- a segment begins

joined_here : (shape : Shape) (mount me filter : ℕ) (h : History RingCall) → filter < length shape.filters →
    IsSegment shape me (h ++ (me, Join filter) ∷ []) (begun mount (joined shape (state_of h) filter))
joined_here shape mount me filter h known = record {
  older = segments_told shape mount me h;
  told = told_one shape mount me h (Join filter);
  known = known;
  sound = subst (λ frames. IsSound (permits_at shape filter) shape.capacity frames
      (begun mount (joined shape (state_of h) filter)))
      (sym (published_joined me filter h)) (IsSound-begun _ _ _ mount _ refl refl);
}

-- the same of a history that is known by an equation
pub segment_joined : (shape : Shape) (mount me filter : ℕ) (h now : History RingCall) → filter < length shape.filters →
    now ≡ h ++ (me, Join filter) ∷ [] → IsSegment shape me now (begun mount (joined shape (state_of h) filter))
segment_joined shape mount me filter h now known is =
    subst (λ now. IsSegment shape me now (begun mount (joined shape (state_of h) filter))) (sym is)
    (joined_here shape mount me filter h known)

-- ---- a segment is read on

read_here : (shape : Shape) (me budget : ℕ) (h : History RingCall) (segment : Segment) → IsSegment shape me h segment →
    IsSegment shape me (h ++ (me, Read segment.cursor budget) ∷ [])
    (read_on (report_in shape h segment.cursor budget) segment)
read_here shape me budget h segment is = record {
  older = is.older;
  told = told_one shape segment.mount me h (Read segment.cursor budget)
      ∙ ap (λ (segments : List Segment). after_answer segment.mount segments
      (answer shape (state_of h) (Read segment.cursor budget))) is.told;
  known = is.known;
  sound = subst (λ frames. IsSound (permits_at shape segment.cursor.filter) shape.capacity frames
      (read_on (report_in shape h segment.cursor budget) segment))
      (sym (published_read me segment.cursor budget h))
      (IsSound-read (permits_at shape segment.cursor.filter) shape.capacity (published_in h) segment budget is.sound);
}

-- a read answers at its own point what it answers after it
pub report_read : (shape : Shape) (me : ℕ) (cursor : Cursor) (budget : ℕ) (h now : History RingCall) →
    now ≡ h ++ (me, Read cursor budget) ∷ [] → report_in shape h cursor budget ≡ report_in shape now cursor budget
report_read shape me cursor budget h now is =
    ap (λ frames. read_report (permits_at shape cursor.filter) shape.capacity frames cursor budget)
    (sym (ap published_in is ∙ published_read me cursor budget h))

pub frames_read : (shape : Shape) (me : ℕ) (cursor : Cursor) (budget : ℕ) (h now : History RingCall) →
    now ≡ h ++ (me, Read cursor budget) ∷ [] → frames_in shape h cursor budget ≡ frames_in shape now cursor budget
frames_read shape me cursor budget h now is =
    ap (λ frames. read_frames (permits_at shape cursor.filter) shape.capacity frames cursor budget)
    (sym (ap published_in is ∙ published_read me cursor budget h))

pub segment_read : (shape : Shape) (me budget : ℕ) (h now : History RingCall) (segment : Segment)
    → IsSegment shape me h segment →
    now ≡ h ++ (me, Read segment.cursor budget) ∷ []
    → IsSegment shape me now (read_on (report_in shape now segment.cursor budget) segment)
segment_read shape me budget h now segment segment_is is =
    subst (λ report. IsSegment shape me now (read_on report segment))
    (report_read shape me segment.cursor budget h now is)
    (subst (λ now. IsSegment shape me now (read_on (report_in shape h segment.cursor budget) segment)) (sym is)
    (read_here shape me budget h segment segment_is))

-- ---- other calls

-- a quiet call's answer leaves the segments as they were
claim_is_quiet : (mount : ℕ) (segments : List Segment) (state : State) (holder : Option Holder) →
    after_answer mount segments (claim_answer state holder) ≡ segments
claim_is_quiet mount segments state None = refl
claim_is_quiet mount segments state (Some holder) = refl

quiet_answer : (shape : Shape) (mount : ℕ) (segments : List Segment) (state : State) (call : RingCall)
    → is_quiet call ≡ true →
    after_answer mount segments (answer shape state call) ≡ segments
quiet_answer shape mount segments state Claim quiet = claim_is_quiet mount segments state state.holder
quiet_answer shape mount segments state (Release claim) quiet = refl
quiet_answer shape mount segments state (Publish claim frame) quiet = refl
quiet_answer shape mount segments state (Join filter) quiet = absurd cc
quiet_answer shape mount segments state Look quiet = refl
quiet_answer shape mount segments state (Read cursor budget) quiet = absurd cc

quiet_answers : (shape : Shape) (mount me : ℕ) (segments : List Segment) (before more : History RingCall)
    → list_all is_quiet (own me more) ≡ true
    → fold (after_answer mount) segments (answers_since shape me before more) ≡ segments
quiet_answers shape mount me segments before [] quiet = refl
quiet_answers shape mount me segments before (entry ∷ more) quiet =
    by_caller (entry.0 == me) quiet (quiet_answers shape mount me segments (before ++ entry ∷ []) more) where
      later : List (RingCall × RingAnswer)
      later = told (λ h by call. answer shape (state_of h) call) me (before ++ entry ∷ []) more

      by_caller : (mine : Bool) → list_all is_quiet (cond mine (entry.1 ∷ own me more) (own me more)) ≡ true
          → (list_all is_quiet (own me more) ≡ true
          → fold (after_answer mount) segments (map (λ pair. pair.1) later) ≡ segments)
          → fold (after_answer mount) segments
          (map (λ pair. pair.1) (cond mine ((entry.1, answer shape (state_of before) entry.1) ∷ later) later)) ≡ segments
      by_caller false quiet rest = rest quiet
      by_caller true quiet rest =
          let parts : (is_quiet entry.1 ≡ true) × (list_all is_quiet (own me more) ≡ true) = and_parts _ _ quiet in
          ap (λ (s : List Segment). fold (after_answer mount) s (map (λ pair. pair.1) later))
          (quiet_answer shape mount segments (state_of before) entry.1 parts.0)
          ∙ rest parts.1

stays_here : (shape : Shape) (me : ℕ) (h more : History RingCall) (segment : Segment) → IsSegment shape me h segment →
    list_all is_quiet (own me more) ≡ true → IsSegment shape me (h ++ more) segment
stays_here shape me h more segment is quiet = record {
  older = is.older;
  told = ap (newest_segments segment.mount) (own_answers-append shape me h more)
      ∙ fold-append (after_answer segment.mount) [] (own_answers shape me h) (answers_since shape me h more)
      ∙ quiet_answers shape segment.mount me (segments_told shape segment.mount me h) h more quiet
      ∙ is.told;
  known = is.known;
  sound = subst (λ frames. IsSound (permits_at shape segment.cursor.filter) shape.capacity frames segment)
      (sym (published-append h more))
      (IsSound-append (permits_at shape segment.cursor.filter) shape.capacity (published_in h)
      (published_by more) segment is.sound);
}

-- a segment stays the one that the history tells while its caller neither joins nor reads
pub segment_stays : (shape : Shape) (me : ℕ) (h now : History RingCall) (segment : Segment)
    → IsSegment shape me h segment →
    Resumes me h now → IsSegment shape me now segment
segment_stays shape me h now segment is resumes =
    subst (λ now. IsSegment shape me now segment) (sym resumes.1) (stays_here shape me h resumes.0 segment is resumes.2)

-- and while others call
pub segment_beside : (shape : Shape) (me : ℕ) (h others : History RingCall) (segment : Segment)
    → IsSegment shape me h segment →
    own me others ≡ [] → IsSegment shape me (h ++ others) segment
segment_beside shape me h others segment is none =
    stays_here shape me h others segment is (ap (list_all is_quiet) none)

-- its next read may be made
pub segment_fits : (shape : Shape) (me budget : ℕ) (h : History RingCall) (segment : Segment)
    → IsSegment shape me h segment →
    IsTrue (fits shape (state_of h) me (Read segment.cursor budget))
segment_fits shape me budget h segment is = sound_readable shape (state_of h) segment is.known is.sound

-- the sums of a segment fit where its end does
pub sums_fit : (shape : Shape) (me : ℕ) (h : History RingCall) (segment : Segment) → IsSegment shape me h segment →
    segment.sent + segment.overrun ≤ segment.to
sums_fit shape me h segment is =
    sound_few (permits_at shape segment.cursor.filter) shape.capacity (published_in h) segment is.sound

-- ---- by turns

-- a filter of the ring is one of those that the definitions take
-- a turn is one call of the caller, with the call and the answer as they were matched
pub heard_as : {C A R : Type 0} {alone : Bool} {fits : History C → ℕ → C → Bool} {answer : History C → ℕ → C → A}
    {filled : History C → ℕ → C → R → R} {old now : History C} {me : ℕ} {call : C} {reply : A} {before after : R}
    → Turned alone fits answer filled old now me call reply before after → (asked : C) (other : A) → call ≡ asked
    → reply ≡ other
    → Heard alone answer old now me ((asked, other) ∷ [])
heard_as {C} {A} {alone = alone} {answer = answer} {old = old} {now = now} {me = me} {call = call} t asked other same
    is =
    subst (λ (x : C). Heard {C = C} {A = A} alone answer old now me ((x, other) ∷ [])) same
    (subst (λ (r : A). Heard {C = C} {A = A} alone answer old now me ((call, r) ∷ [])) is (heard_turn t))

-- the segment of a turn that joined
pub segment_joined_by : (shape : RingShape) (mount me filter : ℕ) (h now : History RingCall) (cursor : Cursor)
    (segment : Segment) →
    filter < length shape.filters → now ≡ h ++ (me, Join filter) ∷ []
    → Joined cursor ≡ answer (shape_of shape) (state_of h) (Join filter) →
    segment ≡ begun mount cursor → IsSegment (shape_of shape) me now segment
segment_joined_by shape mount me filter h now cursor segment known is joins begins =
    let at : cursor ≡ joined (shape_of shape) (state_of h) filter = cc in
    subst (λ segment. IsSegment (shape_of shape) me now segment) (sym (begins ∙ ap (begun mount) at))
    (segment_joined (shape_of shape) mount me filter h now (known_filter shape filter known) is)

-- ---- a read by a turn

-- what a read answered at its point is what it answers after it
report_by : (shape : Shape) (me : ℕ) (cursor : Cursor) (budget : ℕ) (h now : History RingCall) (report : ReadReport) →
    now ≡ h ++ (me, Read cursor budget) ∷ [] → answers.Read report ≡ answer shape (state_of h) (Read cursor budget) →
    report ≡ report_in shape now cursor budget
report_by shape me cursor budget h now report is reads =
    let at : report ≡ report_in shape h cursor budget = cc in at ∙ report_read shape me cursor budget h now is

-- The segment after a read from its cursor, and what the read answered: others may have called
-- since the segment's last call and before the read.
pub after_read : (shape : Shape) (me budget : ℕ) (h seen others now : History RingCall) (cursor : Cursor)
    (segment : Segment) (report : ReadReport) →
    cursor ≡ segment.cursor → IsSegment shape me h segment → Resumes me h seen → own me others ≡ [] →
    now ≡ (seen ++ others) ++ (me, Read cursor budget) ∷ [] →
    answers.Read report ≡ answer shape (state_of (seen ++ others)) (Read cursor budget) →
    IsSegment shape me now (read_on report segment) × (report ≡ report_in shape now segment.cursor budget)
after_read shape me budget h seen others now cursor segment report same is resumes none goes reads =
    let point : History RingCall = seen ++ others in
    let here : IsSegment shape me point segment =
    segment_beside shape me seen others segment (segment_stays shape me h seen segment is resumes) none in
    let its_own : now ≡ point ++ (me, Read segment.cursor budget) ∷ [] =
    goes ∙ ap (λ (c : Cursor). point ++ (me, Read c budget) ∷ []) same in
    let answered : report ≡ report_in shape now segment.cursor budget =
    report_by shape me segment.cursor budget point now report its_own
    (reads ∙ ap (λ (c : Cursor). answer shape (state_of point) (Read c budget)) same) in (
      subst (λ (report : ReadReport). IsSegment shape me now (read_on report segment)) (sym answered)
          (segment_read shape me budget point now segment here its_own),
      answered,
    )

-- the sums after a read fit where its place does
pub sums_after : (shape : Shape) (me : ℕ) (now : History RingCall) (segment : Segment) (report : ReadReport)
    (sent overrun : ℕ) →
    sent ≡ segment.sent → overrun ≡ segment.overrun → IsSegment shape me now (read_on report segment) →
    (sent + report.taken) + (overrun + lap_overrun report.lapped) ≤ report.cursor.next
sums_after shape me now segment report sent overrun sent_is overrun_is is =
    omega (arith, sent_is, overrun_is, sums_fit shape me now (read_on report segment) is)

-- the next read from the segment's cursor may be made
pub next_fits : (shape : Shape) (me budget : ℕ) (h seen : History RingCall) (cursor : Cursor) (segment : Segment) →
    cursor ≡ segment.cursor → IsSegment shape me h segment → Resumes me h seen
    → IsTrue (fits shape (state_of seen) me (Read cursor budget))
next_fits shape me budget h seen cursor segment same is resumes =
    subst (λ (c : Cursor). IsTrue (fits shape (state_of seen) me (Read c budget))) (sym same)
    (segment_fits shape me budget seen segment (segment_stays shape me h seen segment is resumes))

-- what the read took is what it takes after it
pub taken_by : (shape : Shape) (me budget : ℕ) (point now : History RingCall) (cursor its : Cursor)
    (before room : List (List ℕ)) →
    cursor ≡ its → now ≡ point ++ (me, Read cursor budget) ∷ []
    → room ≡ filled shape (state_of point) (Read cursor budget) before →
    room ≡ frames_in shape now its budget
taken_by shape me budget point now cursor its before room same goes took =
    took ∙ frames_read shape me cursor budget point now goes ∙ ap (λ (c : Cursor). frames_in shape now c budget) same

-- what was noted and counted is the segment read on
pub noted : (segment after : Segment) (report : ReadReport) (mount from sent overrun : ℕ) (laps : List Lap) →
    mount ≡ segment.mount → from ≡ segment.from → sent ≡ segment.sent → overrun ≡ segment.overrun →
    laps ≡ segment.laps ++ option_to_list report.lapped →
    after ≡ record {
      mount = mount;
      from = from;
      to = report.cursor.next;
      sent = sent + report.taken;
      overrun = overrun + lap_overrun report.lapped;
      laps = laps;
      cursor = report.cursor;
    } → after ≡ read_on report segment
noted segment after report mount from sent overrun laps a b c d e is =
    is ∙ ap (λ (m : ℕ). record {
      mount = m;
      from = from;
      to = report.cursor.next;
      sent =
          sent + report.taken;
      overrun = overrun + lap_overrun report.lapped;
      laps = laps;
      cursor = report.cursor;
    }) a
    ∙ ap (λ (m : ℕ). record {
      mount = segment.mount;
      from = m;
      to = report.cursor.next;
      sent =
          sent + report.taken;
      overrun = overrun + lap_overrun report.lapped;
      laps = laps;
      cursor = report.cursor;
    }) b
    ∙ ap (λ (m : ℕ). record {
      mount = segment.mount;
      from = segment.from;
      to = report.cursor.next;
      sent =
          m + report.taken;
      overrun = overrun + lap_overrun report.lapped;
      laps = laps;
      cursor = report.cursor;
    }) c
    ∙ ap (λ (m : ℕ). record {
      mount = segment.mount;
      from = segment.from;
      to = report.cursor.next;
      sent =
          segment.sent + report.taken;
      overrun = m + lap_overrun report.lapped;
      laps = laps;
      cursor = report.cursor;
    }) d
    ∙ ap (λ (m : List Lap). record {
      mount = segment.mount;
      from = segment.from;
      to = report.cursor.next;
      sent =
          segment.sent + report.taken;
      overrun = segment.overrun + lap_overrun report.lapped;
      laps = m;
      cursor =
          report.cursor;
    }) e

-- ---- laws

-- others' calls are no joins or reads of this caller
pub goes_resumes : (me : ℕ) (h now : History RingCall) → GoesOn me h now → Resumes me h now
goes_resumes me h now goes = (goes.0, goes.1, ap (list_all is_quiet) goes.2)

-- a history tells one segment of a caller
pub one_segment : (shape : Shape) (me : ℕ) (h : History RingCall) (segment other : Segment)
    → IsSegment shape me h segment →
    IsSegment shape me h other → segment.mount ≡ other.mount → segment ≡ other
one_segment shape me h segment other is other_is same =
    let both : segment ∷ is.older ≡ other ∷ other_is.older =
    sym is.told ∙ ap (λ (mount : ℕ). segments_told shape mount me h) same ∙ other_is.told in cc
