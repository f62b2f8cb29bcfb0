-- Every report of a recorded session with greetings keeps what is promised.
use Rattle.std.proofs.Common.{◌≡◌, ◌∙◌, ◌++◌, ℕ, Bool, true, false, List, [], ◌∷◌, length, drop, map, reverse, All, Option, Some, inl, inr, refl, sym, ap, subst, eq-eqb, append_assoc}
use Rattle.std.specs.Prelude.{unwrap_or, if◌then◌else◌}
use Rattle.std.proofs.Math.Path.{fun_ext}
use Rattle.std.proofs.lemmas.Bool.{false≢true, ne_eqb}
use Rattle.std.proofs.lemmas.List.{append-nil}
use Rattle.std.proofs.lemmas.List.Elements.{All-head, All-tail, All-nil}
use Rattle.rover_cursor.specs.declared.segment.Segment.{Segment}
use Rattle.turn_log.specs.History.{History}
use Rattle.mount_ring.specs.declared.call.RingCall.{RingCall}
use Rattle.ntrip_head.specs.declared.request.Version.TheVariants.{One}
use Rattle.session_script.specs.declared.Event.{Event}
use Rattle.session_script.specs.declared.Event.TheVariants as events
use Rattle.session_script.specs.declared.ScriptKind.{ScriptKind}
use Rattle.session_script.specs.Numbers.{no_numbers}
use Rattle.session_script.specs.Script.{IsSession}
use Rattle.rover_session.specs.Body.{body_of}
use Rattle.cast_config.specs.declared.config.Config.{Config}
use Rattle.cast_config.specs.Kept.{KeepsRules}
use Rattle.session_model.specs.declared.ending.Last.TheVariants as lasts
use Rattle.session_model.specs.declared.report.Report.{Report}
use Rattle.session_model.specs.Headings.{Heading}
use Rattle.session_model.specs.Judged.{Opening, sends_head, relays, bare_source, bare_rover, RoverTerms, Judged, waiting, rover, judged}
use Rattle.caster_accounts.specs.declared.call.BookAnswer.TheVariants.{Entered}
use Rattle.session_calls.specs.Steps.{Answer, of_book}
use Rattle.session_model.specs.Owed.{came_by, first_answer, came_to, arrives, takes_turn, ends}
use Rattle.session_model.specs.Replies.{opening_text, reply_of, version_of}
use Rattle.session_model.specs.Reports.{told_of, is_entered, opened_as, opened_if, bytes_to, IsHeadingOf, AreHeadings, report}
use Rattle.session_model.specs.Run.{Histories, Connected, World, judged_of, is_opened, opens, after_event, after_events, world}
use Rattle.session_model.proofs.KeepLemmas.{AreFrames}
use Rattle.session_model.proofs.WellLemmas.{IsWell, events_well, world_well}
use Rattle.caster_replay.specs.Runs.{IsIncreasing}
use Rattle.caster_replay.proofs.WorldHeadingLemmas.{opened-append, or_later}
use Rattle.caster_replay.proofs.WorldRunnerLemmas.{after_one}
use Rattle.caster_warm.specs.Warm.{greeting_by, sent_by_event, sent_by_events, told_with, warm_report, IsWarmReport}
use Rattle.caster_warm.proofs.PartLemmas.{events_more}
use Rattle.run_promise.proofs.CutLemmas.{first_session}
use Rattle.run_promise.proofs.PromiseLemmas.{promised_by}
use Rattle.run_promise.proofs.ReadLemmas.{IsRead, world_read, events_read}
use Rattle.run_promise.proofs.RunLemmas.{IsStood, IsRunning, event_runs, events_runs, world_runs}
use Rattle.warm_promise.specs.Greeted.{AreSent, IsGreetedRover, IsSentSo, IsToldSo, AreToldSo, IsGreeted}
use Rattle.warm_promise.proofs.BackLemmas.{greeted_all}
use Rattle.warm_promise.proofs.JudgedLemmas.{by_bytes, by_terms, is_one, has_entered}
use Rattle.warm_promise.proofs.SentLemmas.{AreSentBack, none_back, plain}
use Rattle.warm_promise.proofs.MoveLemmas.{segments_of, SentOf}
use Rattle.warm_promise.proofs.OpenLemmas.{none_judged}
use Rattle.warm_promise.proofs.EachLemmas.{told_at, greeting_at}
use Rattle.warm_promise.proofs.EventLemmas.{AreSent as AreSentIn, happens_sent, opens_sent, closes_sent}
use Rattle.warm_promise.proofs.FrameLemmas.{sent_frames, frames_held}

-- ---- one event more

module _ (c : Config) (cap : ℕ) (headings : ℕ → Heading) (w : World) (bytes : ℕ → List ℕ) (kept : KeepsRules cap c)
    (run : IsRunning c headings w) (fine : IsWell c w) (are : AreSentIn c headings w bytes) where
  abbrev with_event : Event → ℕ → List ℕ
  with_event event n = bytes n ++ sent_by_event c headings w event n

  abbrev IsMore : Event → Type 0
  IsMore event = AreSentIn c headings (after_event c headings w event) (with_event event)

  came_sent : (number : ℕ) (text : List ℕ) → IsMore (events.In number text)
  came_sent number text =
      let event : Event = events.In number text in
      let next : World = after_event c headings w event in
      happens_sent c cap headings w bytes (greeting_by c headings w event next) number (arrives text) kept run fine are
      (ap (λ (b : Bool). if b then greeting_at c headings w.histories next.histories number next.connections else [])
      (eq-eqb number number refl))
      (λ n apart. ap (λ (b : Bool).
      if b then greeting_at c headings w.histories next.histories n next.connections else [])
      (ne_eqb number n (λ e. apart (sym e))))

  -- of a head nothing is judged as it opens
  abbrev Waits : Event → Type 0
  Waits event =
      (number : ℕ) → event ≡ events.Open number → is_opened number w.connections ≡ false
      → judged c sends_head (headings number) [] ≡ waiting

  begun_sent : (event : Event) (number : ℕ) (o : Opening)
      → (is_opened number w.connections ≡ false → o ≡ sends_head → judged c o (headings number) [] ≡ waiting)
      → after_event c headings w event ≡ opens c headings w number o
      → AreSentIn c headings (opens c headings w number o)
      (λ n. bytes n ++ (drop (length (told_at c headings w.histories n w.connections))
      (told_at c headings (opens c headings w number o).histories n (opens c headings w number o).connections) ++ []))
  begun_sent event number o waits is =
      opens_sent c cap headings w bytes number o kept run fine are waits
      (subst (λ (v : World). IsIncreasing v.connections) is (event_runs c cap headings w event kept run).order)

  event_sent : (event : Event) → Waits event → IsMore event
  event_sent (events.Source number mount) waits =
      begun_sent (events.Source number mount) number (bare_source mount) (λ new is. absurd (no_head is)) refl
    where
      no_head : bare_source mount ≡ sends_head → ⊥
      no_head is = cc
  event_sent (events.Rover number mount) waits =
      begun_sent (events.Rover number mount) number (bare_rover mount) (λ new is. absurd (no_head is)) refl
    where
      no_head : bare_rover mount ≡ sends_head → ⊥
      no_head is = cc
  event_sent (events.Open number) waits =
      begun_sent (events.Open number) number sends_head (λ new is. waits number refl new) refl
  event_sent (events.Relay number relay) waits =
      begun_sent (events.Relay number relay) number (relays relay) (λ new is. absurd (no_head is)) refl
    where
      no_head : relays relay ≡ sends_head → ⊥
      no_head is = cc
  event_sent (events.In number text) waits = came_sent number text
  event_sent (events.Turn number budget) waits =
      happens_sent c cap headings w bytes (λ n. []) number (takes_turn budget) kept run fine are refl (λ n apart. refl)
  event_sent (events.Break number) waits =
      happens_sent c cap headings w bytes (λ n. []) number (ends lasts.ReadFault) kept run fine are refl
      (λ n apart. refl)
  event_sent (events.End number) waits =
      happens_sent c cap headings w bytes (λ n. []) number (ends lasts.End) kept run fine are refl (λ n apart. refl)

-- ---- the whole run

-- what each number is sent by these events
abbrev pub sent_all : Config → (ℕ → Heading) → List Event → ℕ → List ℕ
sent_all c headings list n = sent_by_events c headings (after_events c headings []) list n

open_waits : (c : Config) (headings : ℕ → Heading) (kind : ScriptKind) (first later : List Event) (number : ℕ)
    → IsSession kind (first ++ events.Open number ∷ later) → AreHeadings (first ++ events.Open number ∷ later) headings
    → is_opened number (after_events c headings first).connections ≡ false
    → judged c sends_head (headings number) [] ≡ waiting
open_waits c headings kind first later number session are new =
    let script = first ++ events.Open number ∷ later in
    let known = events_read c headings kind first
    (first_session kind no_numbers first (events.Open number ∷ later) session) in
    let opened : opened_as number script ≡ Some sends_head =
    opened-append number first (events.Open number ∷ later)
    ∙ ap (λ (o : Option Opening). or_later o (opened_as number (events.Open number ∷ later)))
    (known.known.none number new)
    ∙ ap (λ (b : Bool). opened_if b sends_head (opened_as number later)) (eq-eqb number number refl) in
    none_judged c (bytes_to number script) (headings number)
    (subst (λ (o : Option Opening). IsHeadingOf o (bytes_to number script) (headings number)) opened (are number))

run_sent : (c : Config) (cap : ℕ) (kind : ScriptKind) (headings : ℕ → Heading) (first later : List Event)
    → KeepsRules cap c → IsSession kind (first ++ later) → AreHeadings (first ++ later) headings
    → AreSentIn c headings (after_events c headings first) (sent_all c headings first)
    → AreSentIn c headings (after_events c headings (first ++ later)) (sent_all c headings (first ++ later))
run_sent c cap kind headings first [] kept session are sent =
    subst (λ (l : List Event). AreSentIn c headings (after_events c headings l) (sent_all c headings l))
    (sym (append-nil first)) sent
run_sent c cap kind headings first (event ∷ later) kept session are sent =
    let w = after_events c headings first in
    let split : (first ++ event ∷ []) ++ later ≡ first ++ event ∷ later = append_assoc first (event ∷ []) later in
    let more : (n : ℕ) → sent_all c headings (first ++ event ∷ []) n
    ≡ sent_all c headings first n ++ sent_by_event c headings w event n =
    λ n. events_more c headings (after_events c headings []) first event n in
    let next = event_sent c cap headings w (sent_all c headings first) kept (events_runs c cap headings first kept)
    (events_well c headings first) sent event
    (λ number is. open_waits c headings kind first later number
    (subst (λ (e : Event). IsSession kind (first ++ e ∷ later)) is session)
    (subst (λ (e : Event). AreHeadings (first ++ e ∷ later) headings) is are)) in
    subst (λ (l : List Event). AreSentIn c headings (after_events c headings l) (sent_all c headings l)) split
    (run_sent c cap kind headings (first ++ event ∷ []) later kept (subst (IsSession kind) (sym split) session)
    (subst (λ (l : List Event). AreHeadings l headings) (sym split) are)
    (subst (AreSentIn c headings (after_events c headings (first ++ event ∷ []))) (sym (fun_ext more))
    (subst (λ (v : World). AreSentIn c headings v
    (λ n. sent_all c headings first n ++ sent_by_event c headings w event n))
    (sym (after_one c headings first event)) next)))

-- ---- one connection

back_sent : (joins : Bool) (c : Config) (h : List (History RingCall)) (segments : List Segment)
    (frames : List (List ℕ)) → AreSentBack joins c h segments frames
    → AreSent joins c h (reverse segments) frames
back_sent true c h segments frames back = greeted_all c h segments frames back
back_sent false c h segments frames back = back

world_sent : (c : Config) (cap : ℕ) (kind : ScriptKind) (headings : ℕ → Heading) (script : List Event)
    → KeepsRules cap c → IsSession kind script → AreHeadings script headings
    → AreSentIn c headings (world c headings script) (sent_all c headings script)
world_sent c cap kind headings script kept session are =
    let w = after_events c headings script in
    closes_sent c cap headings w (sent_all c headings script) (map (λ (d : Connected). d.number) w.connections) kept
    (events_runs c cap headings script kept) (events_well c headings script)
    (run_sent c cap kind headings [] script kept session are
    (record {
      each = All-nil (λ (d : Connected). SentOf c (headings d.number) (after_events c headings []).histories d
          (sent_all c headings [] d.number));
      none = λ n none. refl;
    }))

module _ (c : Config) (headings : ℕ → Heading) (script : List Event) (h : Histories) (bytes : ℕ → List ℕ)
    (d : Connected) (all : AreFrames h.rings) (s : IsStood c headings h d) (is : IsRead c headings script d)
    (sent : SentOf c (headings d.number) h d (bytes d.number)) where
  abbrev j : Judged
  j = judged_of c (headings d.number) d

  -- one that did not enter
  plain_so : is_entered (came_to j d.steps) ≡ false → bytes d.number ≡ (told_of c headings h d).bytes
  plain_so out =
      let none : segments_of d ≡ [] = elim (is_one c (headings d.number) h d s) [
        | inl none ↦ none
        | inr (terms, tail, so, in_it) ↦
            absurd (false≢true (sym out ∙ ap (λ (x : Judged). is_entered (came_to x d.steps)) so
            ∙ ap (λ (r : Option Answer). is_entered (came_by (rover terms tail) r)) in_it))
      ] in
      let frames : sent.frames ≡ [] =
      none_back (by_bytes d.opening j) c h.rings sent.frames
      (subst (λ (l : List Segment). AreSentBack (by_bytes d.opening j) c h.rings l sent.frames) none sent.sent) in
      sent.bytes_are
      ∙ ap (λ (l : List (List ℕ)). (opening_text c d.opening ++ reply_of c (came_to j d.steps))
      ++ body_of (version_of (came_to j d.steps)) l) frames
      ∙ ap (plain c h.rings d.opening j (first_answer d.steps)) (sym none)

  -- one that did
  rover_so : is_entered (came_to j d.steps) ≡ true
      → IsGreetedRover c headings script h.rings (told_with bytes (told_of c headings h d))
  rover_so in_it =
      let e = has_entered c (headings d.number) h d s in_it in
      rover_as e.0 e.1 e.2 e.3
    where
      rover_as : (terms : RoverTerms) (tail : List ℕ) → j ≡ rover terms tail → first_answer d.steps ≡ Some (of_book Entered)
          → IsGreetedRover c headings script h.rings (told_with bytes (told_of c headings h d))
      rover_as terms tail so received_so = record {
        opening = d.opening;
        opened = is.opened;
        text = d.text;
        rest = is.rest;
        came = is.begins;
        terms = terms;
        tail = tail;
        is_rover = so;
        frames = sent.frames;
        sent = subst (λ (b : Bool). AreSent b c h.rings (reverse (segments_of d)) sent.frames)
            (ap (by_bytes d.opening) so ∙ by_terms d.opening terms tail)
            (back_sent (by_bytes d.opening j) c h.rings (segments_of d) sent.frames sent.sent);
        body = body_of (unwrap_or terms.version One) sent.frames;
        bytes = sent.bytes_are
            ∙ ap (λ (x : Judged). (opening_text c d.opening ++ reply_of c (came_to x d.steps))
            ++ body_of (version_of (came_to x d.steps)) sent.frames) so
            ∙ ap (λ (r : Option Answer). (opening_text c d.opening ++ reply_of c (came_by (rover terms tail) r))
            ++ body_of (version_of (came_by (rover terms tail) r)) sent.frames) received_so;
        holds = frames_held (unwrap_or terms.version One) sent.frames
            (sent_frames (by_bytes d.opening j) c h.rings (segments_of d) sent.frames all sent.sent);
      }

  sent_so : (is_in : Bool) → is_entered (came_to j d.steps) ≡ is_in
      → IsSentSo is_in c headings script h.rings (told_with bytes (told_of c headings h d)) (told_of c headings h d)
  sent_so true in_it = rover_so in_it
  sent_so false out = plain_so out

  pub told_so : IsToldSo c headings script h.rings (told_with bytes (told_of c headings h d)) (told_of c headings h d)
  told_so = (refl, refl, sent_so (is_entered (came_to j d.steps)) refl)

all_told : (c : Config) (headings : ℕ → Heading) (script : List Event) (h : Histories) (bytes : ℕ → List ℕ)
    (ds : List Connected) → AreFrames h.rings → All (IsStood c headings h) ds → All (IsRead c headings script) ds
    → All (λ (d : Connected). SentOf c (headings d.number) h d (bytes d.number)) ds
    → AreToldSo c headings script h.rings (map (told_with bytes) (map (told_of c headings h) ds))
    (map (told_of c headings h) ds)
all_told c headings script h bytes [] all stood read sent = tt
all_told c headings script h bytes (d ∷ ds) all stood read sent =
    let IsSent = λ (e : Connected). SentOf c (headings e.number) h e (bytes e.number) in (
      told_so c headings script h bytes d all (All-head (IsStood c headings h) d ds stood)
          (All-head (IsRead c headings script) d ds read) (All-head IsSent d ds sent),
      all_told c headings script h bytes ds all (All-tail (IsStood c headings h) d ds stood)
          (All-tail (IsRead c headings script) d ds read) (All-tail IsSent d ds sent),
    )

-- ---- the report

warm_greeted : (c : Config) (cap : ℕ) (kind : ScriptKind) (script : List Event) (headings : ℕ → Heading)
    → KeepsRules cap c → IsSession kind script → AreHeadings script headings
    → IsGreeted c script (warm_report c headings script)
warm_greeted c cap kind script headings kept session are =
    let w = world c headings script in
    let plain : Report = report c headings script in
    let warm : Report = warm_report c headings script in
    let by = promised_by c cap kind script headings kept session are in
    record {
      plain = plain;
      promised = by.0;
      closed = refl;
      told = subst (λ (heads : ℕ → Heading).
          AreToldSo c heads script by.0.histories warm.connections plain.connections) (sym by.1)
          (subst (λ (h : List (History RingCall)).
          AreToldSo c headings script h warm.connections plain.connections) (sym by.2)
          (all_told c headings script w.histories (sent_all c headings script) w.connections
          (world_well c headings script).frames (world_runs c cap headings script kept).each
          (world_read c headings kind script session).each
          (world_sent c cap kind headings script kept session are).each));
    }

pub greeted : (c : Config) (cap : ℕ) (kind : ScriptKind) (script : List Event) (r : Report) → KeepsRules cap c
    → IsSession kind script → IsWarmReport c script r → IsGreeted c script r
greeted c cap kind script r kept session is =
    subst (IsGreeted c script) (sym is.2) (warm_greeted c cap kind script is.0 kept session is.1)
