-- A turn of a rover.
use Rattle.std.proofs.Common.{◌≡◌, ◌∙◌, ◌&&◌, ℕ, Bool, true, false, IsTrue, List, [], ◌∷◌, ◌++◌, map, refl, sym, ap, subst, inl, inr, Option, None, Some, Result, Ok, Err, append_assoc}
use Rattle.std.specs.Result.{result_err}
use Rattle.std.specs.Prelude.{IfOk, OnErr, IfErr, IfNone, IfSome, is_none, reverse}
use Rattle.std.proofs.lemmas.List.{append-nil}
use Rattle.turn_log.specs.History.{History, GoesOn}
use Rattle.gga_read.specs.declared.Position.{Position}
use Rattle.mount_ring.specs.declared.call.RingCall.{RingCall}
use Rattle.mount_ring.specs.declared.call.RingCall.TheVariants.{Read}
use Rattle.mount_ring.specs.declared.shape.RingShape.{RingShape}
use Rattle.caster_accounts.specs.declared.call.BookCall.{BookCall}
use Rattle.caster_accounts.specs.declared.call.BookCall.TheVariants.{Enter}
use Rattle.caster_accounts.specs.declared.call.BookAnswer.TheVariants.{Entered}
use Rattle.ntrip_head.specs.declared.request.Version.{Version}
use Rattle.rover_cursor.specs.declared.segment.Segment.{Segment}
use Rattle.rover_cursor.specs.declared.fault.SegFault.{SegFault}
use Rattle.rover_cursor.specs.declared.fault.SegFault.TheVariants as seg_faults
use Rattle.session_calls.specs.Steps.{Answer, Step, to_ring, at_ring, at_book, ask_of, on_book}
use Rattle.session_calls.specs.Plans.{Plan, done, asks, IsMade, IsBegun}
use Rattle.session_calls.specs.Rings.{Went, history_at}
use Rattle.session_calls.proofs.PlanLemmas.{made_begun}
use Rattle.session_calls.proofs.WentLemmas.{went_none}
use Rattle.rover_session.specs.declared.session.RoverSession.{RoverSession}
use Rattle.rover_session.specs.Owed.{reads}
use Rattle.rover_session.specs.Made.{segments_after, owed_among, IsRefusedBy}
use Rattle.rover_session.specs.Body.{body_of}
use Rattle.rover_session.specs.Standing.{Rover, ReadOn, TurnSent, SameAdmission, SameButSegments, IsResumable, frames_sent, frames_read}
use Rattle.rover_session.specs.Standing as rover_standing
use Rattle.rover_session.proofs.LawLemmas.{body-append}
use Rattle.rover_session.proofs.MadeLemmas.{owed-append}
use Rattle.rover_session.proofs.SegmentLemmas.{all_sound, sent_later}
use Rattle.cast_config.specs.declared.config.Config.{Config}
use Rattle.session_model.specs.declared.ending.Ending.{Ending}
use Rattle.session_model.specs.declared.ending.Ending.TheVariants as endings
use Rattle.session_core.specs.declared.session.Session.{Session}
use Rattle.session_core.specs.declared.session_stage.SessionStage.{SessionStage}
use Rattle.session_core.specs.declared.session_stage.SessionStage.TheVariants as stages
use Rattle.session_model.specs.Setting.{caps, shapes}
use Rattle.session_model.specs.Judged.{Opening, Judged, rover, judged}
use Rattle.session_model.specs.Owed.{came_by, first_answer, came_to, plan_of}
use Rattle.session_model.specs.Endings.{ended_by}
use Rattle.session_model.specs.Replies.{opening_text, reply_of, version_of, kept_frames, sent_by}
use Rattle.session_model.specs.Run.{Histories}
use Rattle.session_model.specs.Called.{OthersCalled, IsCause, is_halt, seen_at}
use Rattle.session_core.specs.Beginnings.{ended_joining, histories_of}
use Rattle.session_core.specs.Standing.{IsRover, IsAtStage, IsMadeBy, IsSentBy, EndsAs, EndsAt, Stands, StandsFor, Follows, is_halted, is_halted_uncalled}
use Rattle.session_core.specs.Turned.{HaltedUnread, IsReadBy, ReadAt, RoverTurned, TurnedAt, Turned, is_rover}
use Rattle.session_core.proofs.BeginLemmas.{made_by, sent_all}
use Rattle.session_core.proofs.CloseLemmas.{called_rings}
use Rattle.session_core.proofs.EnteredLemmas.{sent_kept}
use Rattle.session_core.proofs.HeldLemmas.{inside_on}

-- ---- plans

begun_none : (plan : Plan) → IsBegun plan []
begun_none done = tt
begun_none (asks ask next) = tt

begun_by : (halted : Bool) (plan : Plan) (steps : List Step) → IsMadeBy halted plan steps → IsBegun plan steps
begun_by false plan steps made = made_begun plan steps made
begun_by true plan steps made = made

-- what a turn reads is no call at the book, and is owed for no bytes
abbrev IsRead : List Step → Type 0
IsRead steps = (on_book steps ≡ []) × (owed_among steps ≡ [])

begun_read : (budget : ℕ) (segments : List Segment) (steps : List Step) → IsBegun (reads budget segments) steps
    → IsRead steps
begun_read budget segments [] begun = (refl, refl)
begun_read budget [] (step ∷ steps) begun = absurd begun
begun_read budget (segment ∷ older) (at_ring mount call answer ∷ []) begun = (refl, read_call call begun.0) where
  read_call : (call : RingCall) → to_ring mount call ≡ to_ring segment.mount (Read segment.cursor budget)
      → owed_among (at_ring mount call answer ∷ []) ≡ []
  read_call call is =
      let same : call ≡ Read segment.cursor budget = cc in
      ap (λ (asked : RingCall). owed_among (at_ring mount asked answer ∷ [])) same
begun_read budget (segment ∷ older) (at_book call answer ∷ []) begun = absurd (apart begun.0) where
  apart : ask_of (at_book call answer) ≡ to_ring segment.mount (Read segment.cursor budget) → ⊥
  apart is = cc
begun_read budget (segment ∷ older) (step ∷ next ∷ steps) begun = absurd begun.1

-- ---- what halted it

-- it was halted, and what stands where it was refused
pub halted_of : {H : Type 0} (P : Type 0) (old now : H) (before after : List ℕ) (r : Result ℕ SegFault)
    (ended : Option Ending) → ended ≡ ended_joining (result_err r) → OnErr r (P × (now ≡ old) × (after ≡ before))
    → IfSome ended (HaltedUnread old now before after)
halted_of P old now before after (Ok count) ended is err = rw is tt
halted_of P old now before after (Err (seg_faults.Worn given)) ended is err =
    rw is (record { halt = refl; unread = err.1; unsent = err.2 })
halted_of P old now before after (Err seg_faults.Memory) ended is err =
    rw is (record { halt = refl; unread = err.1; unsent = err.2 })

pub halts_in : {H : Type 0} (old now : H) (before after : List ℕ) (ended : Option Ending)
    → IfSome ended (HaltedUnread old now before after) → IfSome ended (λ end. IsTrue (is_halt end))
halts_in old now before after None halted = tt
halts_in old now before after (Some end) halted = halted.halt

pub cause_of : (rings : List ℕ) (halt : Option SegFault) (r : Result ℕ SegFault) (ended : Option Ending)
    → ended ≡ ended_joining (result_err r) → halt ≡ None → IfNone halt (IfErr r (IsRefusedBy rings))
    → IfSome ended (IsCause rings)
cause_of rings None (Ok count) ended is going cause = rw is tt
cause_of rings None (Err (seg_faults.Worn given)) ended is going cause = rw is cause
cause_of rings None (Err seg_faults.Memory) ended is going cause = rw is tt
cause_of rings (Some fault) r ended is going cause = absurd cc

-- as all places have seen it
pub halted_back : {P B : Type 0} (ring_seen : P → History RingCall) (book_seen : B → History BookCall)
    (slice items new : List P) (book : B) (before after : List ℕ) (ended : Option Ending) → slice ≡ items
    → IfSome ended (HaltedUnread (map ring_seen slice) (map ring_seen new) before after)
    → IfSome ended (HaltedUnread (seen_at ring_seen book_seen items book) (seen_at ring_seen book_seen new book) before
    after)
halted_back ring_seen book_seen slice items new book before after None there halted = tt
halted_back {P} {B} ring_seen book_seen slice items new book before after (Some end) there halted = record {
  halt = halted.halt;
  unread = ap (λ (h : List (History RingCall)). histories_of h (book_seen book))
      (halted.unread ∙ ap (map ring_seen) there);
  unsent = halted.unsent;
}

-- ---- a rover's session

same_admission : (before after : Rover) → SameButSegments before after → SameAdmission before after
same_admission before after same =
    (ap (λ (r : Rover). r.version) same, ap (λ (r : Rover). r.me) same, ap (λ (r : Rover). r.terms) same)

read_at : (shapes : List RingShape) (alone : Bool) (old now : List (History RingCall)) (budget : ℕ)
    (before after : Rover) (first : Option Position) (bytes : List ℕ) (steps : List Step) → after.me ≡ before.me
    → ReadOn shapes alone old now budget before.segments after first bytes steps
    → ReadAt shapes alone old now budget before after None first bytes steps
read_at shapes alone old now budget before after first bytes steps same read = record {
  more = read.more;
  went = subst (λ (me : ℕ). Went shapes alone old now me read.more) same read.went;
  made = read.read;
  stands = read.stands;
}

-- it read on
turned_ok : (shapes : List RingShape) (alone : Bool) (old now : List (History RingCall)) (budget count : ℕ)
    (before after : Rover) (out_before out_after : List ℕ) → SameButSegments before after
    → IsResumable shapes before.me now after.segments
    → TurnSent shapes alone old now budget before after (frames_read shapes now budget before.segments) out_before
    out_after count
    → RoverTurned shapes alone old now budget before after None out_before out_after
turned_ok shapes alone old now budget count before after out_before out_after same resumable turned = record {
  same = same;
  resumable = resumable;
  frames = frames_read shapes now budget before.segments;
  out = turned.body;
  sent = turned.sent;
  read = λ first bytes steps stands.
      read_at shapes alone old now budget before after first bytes steps (ap (λ (r : Rover). r.me) same)
      (turned.read first bytes steps stands);
}

-- or it was refused
turned_err : (shapes : List RingShape) (alone : Bool) (old now : List (History RingCall)) (budget : ℕ)
    (before after : Rover) (end : Ending) (out_before out_after : List ℕ) → IsTrue (is_halt end)
    → SameButSegments before after → IsResumable shapes before.me now after.segments
    → after ≡ before → now ≡ old → out_after ≡ out_before
    → RoverTurned shapes alone old now budget before after (Some end) out_before out_after
turned_err shapes alone old now budget before after end out_before out_after halts same resumable still unseen unsent =
    record {
      same = same;
      resumable = resumable;
      frames = [];
      out = unsent ∙ sym (append-nil out_before);
      sent = ap (frames_sent shapes now) (ap (λ (r : Rover). r.segments) still)
          ∙ ap (λ (h : List (History RingCall)). frames_sent shapes h before.segments) unseen
          ∙ sym (append-nil (frames_sent shapes old before.segments));
      read = λ first bytes steps stands. record {
        more = [];
        went = subst (λ (h : List (History RingCall)). Went shapes alone old h before.me []) (sym unseen)
            (went_none shapes alone old before.me);
        made = subst (λ (b : Bool). IsMadeBy b (reads budget before.segments) []) (sym halts)
            (begun_none (reads budget before.segments));
        stands = subst (λ (r : Rover). rover_standing.Stands r first bytes (steps ++ [])) (sym still)
            (subst (λ (l : List Step). rover_standing.Stands before first bytes l) (sym (append-nil steps)) stands);
      };
    }

turned_as : (shapes : List RingShape) (alone : Bool) (old now : List (History RingCall)) (budget : ℕ)
    (before after : Rover) (r : Result ℕ SegFault) (out_before out_after : List ℕ) → SameButSegments before after
    → IsResumable shapes before.me now after.segments
    → IfOk r (TurnSent shapes alone old now budget before after (frames_read shapes now budget before.segments)
    out_before out_after)
    → OnErr r ((after ≡ before) × (now ≡ old) × (out_after ≡ out_before))
    → RoverTurned shapes alone old now budget before after (ended_joining (result_err r)) out_before out_after
turned_as shapes alone old now budget before after (Ok count) out_before out_after same resumable turned err =
    turned_ok shapes alone old now budget count before after out_before out_after same resumable turned
turned_as shapes alone old now budget before after (Err (seg_faults.Worn given)) out_before out_after same resumable
    turned err =
    turned_err shapes alone old now budget before after (endings.Worn given) out_before out_after refl same resumable
    err.0 err.1 err.2
turned_as shapes alone old now budget before after (Err seg_faults.Memory) out_before out_after same resumable
    turned err =
    turned_err shapes alone old now budget before after endings.Memory out_before out_after refl same resumable
    err.0 err.1 err.2

pub rover_turned : (shapes : List RingShape) (alone : Bool) (old now : List (History RingCall)) (budget : ℕ)
    (before after : Rover) (r : Result ℕ SegFault) (ended : Option Ending) (out_before out_after : List ℕ)
    → ended ≡ ended_joining (result_err r) → SameButSegments before after
    → IsResumable shapes before.me now after.segments
    → IfOk r (TurnSent shapes alone old now budget before after (frames_read shapes now budget before.segments)
    out_before out_after)
    → OnErr r ((after ≡ before) × (now ≡ old) × (out_after ≡ out_before))
    → RoverTurned shapes alone old now budget before after ended out_before out_after
rover_turned shapes alone old now budget before after r ended out_before out_after is same resumable turned err =
    subst (λ (e : Option Ending). RoverTurned shapes alone old now budget before after e out_before out_after) (sym is)
    (turned_as shapes alone old now budget before after r out_before out_after same resumable turned err)

-- ---- what it needs

is_none_of : {X : Type 0} (o : Option X) → IsTrue (is_none o) → o ≡ None
is_none_of None none = refl
is_none_of (Some x) none = absurd cc

readable_at : (c : Config) (me : ℕ) (h now : Histories) (opening : Opening) (j : Judged) (text : List ℕ)
    (steps : List Step) (stage : SessionStage) → IsAtStage c me h opening j text steps stage → EndsAt stage None
    → OthersCalled h now me → IsReadBy (shapes c) me now.rings stage
readable_at c me h now opening j text steps (stages.Head head) at halts others = tt
readable_at c me h now opening j text steps stages.Over at halts others = tt
readable_at c me h now opening j text steps (stages.Source mount session) at halts others = tt
readable_at c me h now opening j text steps (stages.Relay mount session) at halts others = tt
readable_at c me h now opening j text steps (stages.Rover account session) at halts others = (
  at.caller,
  is_none_of session.halt (halts.goes refl),
  (h.rings, at.resumes, others.rings),
)

readable : (c : Config) (session : Session) (now : Histories) → session.ended ≡ None → Follows c session now 0
    → IsReadBy (shapes c) session.me now.rings session.stage
readable c session now going (o, text, steps, h, sent, inl stands, others, few) =
    readable_at c session.me h now o (judged c o stands.heading text) text steps session.stage stands.stage
    (subst (λ (e : Option Ending). EndsAt session.stage e) going stands.halts) others
readable c session now going (o, text, steps, h, sent, inr lost, others, few) =
    subst (IsReadBy (shapes c) session.me now.rings) (sym lost.stage) tt

pub readable_by : (c : Config) (session : Session) (now : Histories) (given : List RingShape) → given ≡ shapes c
    → session.ended ≡ None → Follows c session now 0 → IsReadBy given session.me now.rings session.stage
readable_by c session now given shaped going follows =
    subst (λ (z : List RingShape). IsReadBy z session.me now.rings session.stage) (sym shaped)
    (readable c session now going follows)

-- ---- what it sent

-- the texts before a rover's body stay, and more is sent of it
more_sent : (opening reply body more sent : List ℕ) → sent ≡ opening ++ reply ++ body
    → sent ++ more ≡ opening ++ reply ++ (body ++ more)
more_sent opening reply body more sent is =
    ap (λ (l : List ℕ). l ++ more) is ∙ append_assoc (opening ++ reply) body more

body_sent : (c : Config) (h old now : List (History RingCall)) (me : ℕ) (version : Version)
    (before after : List Segment)
    (frames : List (List ℕ)) → IsResumable (shapes c) me h before
    → ((mount : ℕ) → (more : History RingCall) × (history_at old mount ≡ history_at h mount ++ more))
    → frames_sent (shapes c) now after ≡ frames_sent (shapes c) old before ++ frames
    → body_of version (kept_frames c h (reverse before)) ++ body_of version frames
    ≡ body_of version (kept_frames c now (reverse after))
body_sent c h old now me version before after frames resumes extends sent =
    ap (λ (l : List (List ℕ)). body_of version l ++ body_of version frames)
    (sent_kept c h before
    ∙ sym (sent_later (shapes c) h old before extends (all_sound (shapes c) me h before resumes)))
    ∙ sym (body-append version (frames_sent (shapes c) old before) frames)
    ∙ ap (body_of version) (sym sent ∙ sym (sent_kept c now after))

-- ---- a rover that entered

-- what a rover's steps begin with tells how it was received
received_on : (steps behind more : List Step) (account : ℕ) → steps ≡ at_book (Enter account) Entered ∷ behind
    → first_answer (steps ++ more) ≡ first_answer steps
received_on steps behind more account is = rw is refl

segments_behind : (steps behind : List Step) (account : ℕ) → steps ≡ at_book (Enter account) Entered ∷ behind
    → segments_after [] steps ≡ segments_after [] behind
segments_behind steps behind account is = ap (segments_after []) is

ends_none : (ended : Option Ending) → IfSome ended (λ end. IsTrue (is_halt end)) → EndsAs ended None
ends_none None halts = inr refl
ends_none (Some end) halts = inl halts

ends_on : (ended by : Option Ending) → EndsAs ended None → EndsAs None by → EndsAs ended by
ends_on ended by (inl halted) ends = inl halted
ends_on ended by (inr none) (inl halted) = absurd cc
ends_on ended by (inr none) (inr is) = inr (none ∙ is)

halts_at : (account : ℕ) (was next : RoverSession) (ended : Option Ending) → EndsAt (stages.Rover account was) None
    → next.halt ≡ was.halt → EndsAt (stages.Rover account next) ended
halts_at account was next ended halts same = record {
  goes = λ none. ap is_none same ∙ halts.goes refl;
  refused = λ short. absurd cc;
}

rover_on : (c : Config) (me : ℕ) (h now : Histories) (j : Judged) (steps more : List Step) (account : ℕ)
    (was next : RoverSession) (at : IsRover c me h j steps account was)
    → SameAdmission was next
    → IsResumable (shapes c) was.me now.rings next.segments
    → GoesOn me h.book now.book
    → rover_standing.Stands next at.terms.first at.tail (at.behind ++ more)
    → IsRover c me now j (steps ++ more) account next
rover_on c me h now j steps more account was next at same resumable goes stands = record {
  terms = at.terms;
  tail = at.tail;
  behind = at.behind ++ more;
  judged_is = at.judged_is;
  account_is = at.account_is;
  steps_are = ap (λ (l : List Step). l ++ more) at.steps_are;
  caller = same.1 ∙ at.caller;
  admitted = same.2 ∙ at.admitted;
  version = same.0 ∙ at.version;
  stands = stands;
  resumes = subst (λ (m : ℕ). IsResumable (shapes c) m now.rings next.segments) at.caller resumable;
  inside = inside_on (caps c) h.book now.book me account at.inside goes;
}

-- the texts behind its opening
sent_on : (c : Config) (me : ℕ) (h : Histories) (old now : List (History RingCall)) (o : Opening) (j : Judged)
    (steps more : List Step) (account : ℕ) (was : RoverSession) (after : List Segment) (frames : List (List ℕ))
    (sent : List ℕ) (at : IsRover c me h j steps account was)
    → ((mount : ℕ) → (later : History RingCall) × (history_at old mount ≡ history_at h.rings mount ++ later))
    → frames_sent (shapes c) now after ≡ frames_sent (shapes c) old was.segments ++ frames
    → after ≡ segments_after [] (at.behind ++ more)
    → sent ≡ sent_by c h.rings o (came_to j steps) (reverse (segments_after [] steps))
    → sent ++ body_of was.version frames
    ≡ sent_by c now o (came_to j (steps ++ more)) (reverse (segments_after [] (steps ++ more)))
sent_on c me h old now o j steps more account was after frames sent at extends kept are is =
    let version : Version = was.version in
    let named : version_of (came_to j steps) ≡ version =
    ap (λ (k : Judged). version_of (came_to k steps)) at.judged_is
    ∙ ap (λ (l : List Step). version_of (came_to (rover at.terms at.tail) l)) at.steps_are ∙ sym at.version in
    let segments : segments_after [] steps ≡ was.segments =
    segments_behind steps at.behind account at.steps_are ∙ sym at.stands.segments in
    let later : segments_after [] (steps ++ more) ≡ after =
    segments_behind (steps ++ more) (at.behind ++ more) account (ap (λ (l : List Step). l ++ more) at.steps_are)
    ∙ sym are in
    let opening : List ℕ = opening_text c o in
    let reply : List ℕ = reply_of c (came_to j steps) in
    let begun : sent ≡ opening ++ reply ++ body_of version (kept_frames c h.rings (reverse was.segments)) =
    is ∙ ap (λ (v : Version). opening ++ reply ++ body_of v (kept_frames c h.rings
    (reverse (segments_after [] steps)))) named
    ∙ ap (λ (l : List Segment). opening ++ reply ++ body_of version (kept_frames c h.rings (reverse l))) segments in
    more_sent opening reply (body_of version (kept_frames c h.rings (reverse was.segments)))
    (body_of version frames) sent begun
    ∙ ap (λ (l : List ℕ). opening ++ reply ++ l)
    (body_sent c h.rings old now me version was.segments after frames at.resumes extends kept)
    ∙ ap (λ (l : List Segment). opening ++ reply ++ body_of version (kept_frames c now (reverse l))) (sym later)
    ∙ ap (λ (v : Version). opening ++ reply ++ body_of v (kept_frames c now
    (reverse (segments_after [] (steps ++ more))))) (sym named)
    ∙ ap (λ (by : Option Answer). opening ++ reply_of c (came_by j by) ++ body_of (version_of (came_by j by))
    (kept_frames c now (reverse (segments_after [] (steps ++ more))))) (sym (received_on steps at.behind more account at.steps_are))

turned_rover : (c : Config) (ring_alone book_alone : Bool) (old now : List (History RingCall))
    (book : History BookCall) (budget : ℕ) (session : Session) (o : Opening) (text : List ℕ) (steps : List Step)
    (h : Histories) (sent before after : List ℕ) (account : ℕ) (was next : RoverSession) (ended : Option Ending)
    → session.ended ≡ None → (stands : Stands c session o text steps h sent)
    → IsRover c session.me h (judged c o stands.heading text) steps account was
    → EndsAt (stages.Rover account was) None → OthersCalled h (record { rings = old; book = book }) session.me
    → RoverTurned (shapes c) ring_alone old now budget was next ended before after
    → EndsAs ended None
    → Turned c (ring_alone && book_alone) (record { rings = old; book = book }) (record { rings = now; book = book })
    budget (record session { stage = stages.Rover account next; ended = ended }) o text steps sent before after
turned_rover c ring_alone book_alone old now book budget session o text steps h sent before after account was next
    ended going stands at halts others turned by =
    let j : Judged = judged c o stands.heading text in
    let read : ReadAt (shapes c) ring_alone old now budget was next ended at.terms.first at.tail
    at.behind = turned.read at.terms.first at.tail at.behind at.stands in
    let more : List Step = read.more in
    let segments : segments_after [] steps ≡ was.segments =
    segments_behind steps at.behind account at.steps_are ∙ sym at.stands.segments in
    let none : IsRead more =
    begun_read budget was.segments more
    (begun_by (is_halted ended) (reads budget was.segments) more read.made) in
    let owed : owed_among (steps ++ more) ≡ owed_among steps =
    owed-append steps more ∙ ap (λ (l : List Step). owed_among steps ++ l) none.1 ∙ append-nil (owed_among steps) in
    record {
      more = more;
      added = body_of was.version turned.frames;
      out = turned.out;
      called = called_rings c ring_alone book_alone (shapes c) old now book session.me more refl none.0
          (subst (λ (m : ℕ). Went (shapes c) ring_alone old now m more) at.caller read.went);
      made = subst (λ (s : List Segment). IsMadeBy (is_halted ended) (reads budget s) more) (sym segments) read.made;
      stands = inl (record {
        heading = stands.heading;
        is_heading = stands.is_heading;
        owes = made_by (is_halted ended) (plan_of c j) (owed_among (steps ++ more))
            (subst (λ (l : List Step). IsMade (plan_of c j) l) (sym owed)
            (subst (λ (e : Option Ending). IsMadeBy (is_halted e) (plan_of c j) (owed_among steps)) going
            stands.owes));
        ends = ends_on ended (ended_by (came_to j (steps ++ more))) by
            (subst (λ (r : Option Answer). EndsAs None (ended_by (came_by j r)))
            (sym (received_on steps at.behind more account at.steps_are))
            (subst (λ (e : Option Ending). EndsAs e (ended_by (came_to j steps))) going stands.ends));
        stage = rover_on c session.me h (record { rings = now; book = book }) j steps more account was next at
            (same_admission was next turned.same) turned.resumable others.book read.stands;
        halts = halts_at account was next ended halts (ap (λ (r : Rover). r.halt) turned.same);
        sent_is = sent_all (is_halted_uncalled ended (steps ++ more)) _ _
            (sent_on c session.me h old now o j steps more account was next.segments turned.frames sent at
            (λ mount. ((others.rings.rings mount).0, (others.rings.rings mount).1)) turned.sent read.stands.segments
            (subst (λ (e : Option Ending). IsSentBy (is_halted_uncalled e steps) sent
            (sent_by c h.rings o (came_to j steps)
            (reverse (segments_after [] steps)))) going stands.sent_is));
      });
    }

-- ---- by stage

turned_at : (c : Config) (ring_alone book_alone : Bool) (old now : List (History RingCall))
    (book : History BookCall) (budget : ℕ) (session : Session) (o : Opening) (text : List ℕ) (steps : List Step)
    (h : Histories) (sent before after : List ℕ) (was stage : SessionStage) (ended : Option Ending)
    → is_rover was ≡ true → session.ended ≡ None → (stands : Stands c session o text steps h sent)
    → IsAtStage c session.me h o (judged c o stands.heading text) text steps was
    → EndsAt was None → OthersCalled h (record { rings = old; book = book }) session.me
    → TurnedAt (shapes c) ring_alone old now budget was stage ended before after
    → IfSome ended (λ end. IsTrue (is_halt end))
    → Turned c (ring_alone && book_alone) (record { rings = old; book = book }) (record { rings = now; book = book })
    budget (record session { stage = stage; ended = ended }) o text steps sent before after
turned_at c ring_alone book_alone old now book budget session o text steps h sent before after (stages.Head head) stage
    ended is going stands at halts others turned halted = absurd cc
turned_at c ring_alone book_alone old now book budget session o text steps h sent before after stages.Over stage
    ended is going stands at halts others turned halted = absurd cc
turned_at c ring_alone book_alone old now book budget session o text steps h sent before after
    (stages.Source mount source) stage ended is going stands at halts others turned halted = absurd cc
turned_at c ring_alone book_alone old now book budget session o text steps h sent before after
    (stages.Relay mount relay) stage ended is going stands at halts others turned halted = absurd cc
turned_at c ring_alone book_alone old now book budget session o text steps h sent before after
    (stages.Rover account was) stage ended is going stands at halts others (next, same, turned) halted =
    subst (λ (s : SessionStage). Turned c (ring_alone && book_alone) (record { rings = old; book = book })
    (record { rings = now; book = book }) budget (record session { stage = s; ended = ended }) o text steps sent before
    after) (sym same)
    (turned_rover c ring_alone book_alone old now book budget session o text steps h sent before after account was next
    ended going stands at halts others turned (ends_none ended halted))

pub turned_by : (c : Config) (ring_alone book_alone : Bool) (given : List RingShape) (old now : List (History RingCall))
    (book : History BookCall) (budget : ℕ) (session : Session) (o : Opening) (text : List ℕ) (steps : List Step)
    (h : Histories) (sent before after : List ℕ) (stage : SessionStage) (ended : Option Ending)
    → is_rover session.stage ≡ true → session.ended ≡ None → given ≡ shapes c
    → StandsFor c session o text steps h sent → OthersCalled h (record { rings = old; book = book }) session.me
    → TurnedAt given ring_alone old now budget session.stage stage ended before after
    → IfSome ended (λ end. IsTrue (is_halt end))
    → Turned c (ring_alone && book_alone) (record { rings = old; book = book }) (record { rings = now; book = book })
    budget (record session { stage = stage; ended = ended }) o text steps sent before after
turned_by c ring_alone book_alone given old now book budget session o text steps h sent before after stage ended is
    going shaped (inl stands) others turned halted =
    turned_at c ring_alone book_alone old now book budget session o text steps h sent before after session.stage stage
    ended is going stands stands.stage (subst (λ (e : Option Ending). EndsAt session.stage e) going stands.halts) others
    (subst (λ (z : List RingShape). TurnedAt z ring_alone old now budget session.stage stage ended before after) shaped
    turned) halted
turned_by c ring_alone book_alone given old now book budget session o text steps h sent before after stage ended is
    going shaped (inr lost) others turned halted = absurd (both (sym going ∙ lost.ended)) where
      both : {end : Ending} → None ≡ Some end → ⊥
      both e = cc

-- ---- of anything else

pub no_bystander : (was : SessionStage) (account : ℕ) (session : RoverSession) → was ≡ stages.Rover account session
    → is_rover was ≡ false → ⊥
no_bystander was account session is apart = absurd (both (sym (ap is_rover is) ∙ apart)) where
  both : true ≡ false → ⊥
  both e = cc

pub same_session : (session : Session) (stage : SessionStage) (ended : Option Ending) → stage ≡ session.stage → ended ≡ None
    → session.ended ≡ None → record session { stage = stage; ended = ended } ≡ session
same_session session stage ended still none going =
    ap (λ (s : SessionStage). record session { stage = s; ended = ended }) still
    ∙ ap (λ (e : Option Ending). record session { ended = e }) (none ∙ sym going)
