-- The histories of a run come about in the order of its events.
use Rattle.std.proofs.Common.{◌≡◌, ◌∙◌, ◌++◌, ℕ, Bool, true, false, cond, IsTrue, List, [], ◌∷◌, map, fold, All, Option, Some, inl, inr, refl, sym, ap, subst, append_assoc}
use Rattle.std.specs.Prelude.{◌==◌}
use Rattle.std.proofs.lemmas.Bool.{cases_eq, and_parts, false≢true}
use Rattle.std.proofs.lemmas.List.{append-nil}
use Rattle.std.proofs.lemmas.List.Sums.{fold-append}
use Rattle.std.proofs.lemmas.List.Elements.{All-head, All-tail, All-cons, All-nil, All-append}
use Rattle.turn_log.specs.History.{History, entries_of}
use Rattle.turn_log.specs.Heard.{calls_in}
use Rattle.mount_ring.specs.declared.call.RingCall.{RingCall}
use Rattle.mount_ring.specs.declared.call.RingCall.TheVariants.{Release}
use Rattle.mount_ring.specs.declared.call.RingAnswer.{RingAnswer}
use Rattle.mount_ring.specs.declared.call.RingAnswer.TheVariants.{Given}
use Rattle.rover_cursor.specs.declared.segment.Segment.{Segment}
use Rattle.session_script.specs.declared.Event.{Event}
use Rattle.session_script.specs.declared.Event.TheVariants as events
use Rattle.session_script.specs.declared.ScriptKind.{ScriptKind}
use Rattle.session_script.specs.Numbers.{no_numbers}
use Rattle.session_script.specs.Script.{IsSession}
use Rattle.session_calls.specs.Steps.{Answer, of_ring, on_ring}
use Rattle.session_model.proofs.CameLemmas.{came_parts}
use Rattle.session_calls.specs.Rings.{history_at}
use Rattle.session_calls.proofs.WentLemmas.{alone_entries}
use Rattle.rover_session.proofs.SegmentLemmas.{Extends}
use Rattle.cast_config.specs.declared.config.Config.{Config}
use Rattle.cast_config.specs.Kept.{KeepsRules}
use Rattle.session_model.specs.declared.ending.Last.{Last}
use Rattle.session_model.specs.declared.ending.Last.TheVariants as lasts
use Rattle.session_model.specs.Setting.{shapes}
use Rattle.session_model.specs.Headings.{Heading}
use Rattle.session_model.specs.Judged.{sends_head, relays, bare_source, bare_rover, SourceTerms, Judged, source}
use Rattle.session_model.specs.Endings.{goes_on}
use Rattle.session_model.specs.Owed.{came_by, first_answer, closing, closing_by, arrives, takes_turn, ends}
use Rattle.rover_session.specs.Made.{segments_after}
use Rattle.session_model.specs.Run.{Histories, Connected, World, Moved, nothing_called, made, judged_of, moved, moved_if, is_concerned, happens_in, happens, is_opened, after_event, after_events, closes, world}
use Rattle.caster_replay.specs.Runs.{IsIncreasing, IsKnown}
use Rattle.caster_replay.proofs.WorldListLemmas.{none_above, moved_by, apart_moved, happens_nowhere}
use Rattle.run_promise.specs.Promised.{is_release, GoesOn, AreEarlier}
use Rattle.run_promise.proofs.WithinLemmas.{closing_within, judged_fed}
use Rattle.run_promise.proofs.StoodLemmas.{Stood, extends_same, plan_adds}
use Rattle.run_promise.proofs.ReadLemmas.{events_read}
use Rattle.run_promise.proofs.CutLemmas.{first_session, later_uncut}
use Rattle.run_promise.proofs.GoesLemmas.{none_back, IsSaid, said_so, goes_so}
use Rattle.run_promise.proofs.RunLemmas.{IsStood, IsRunning, happens_extends, happens_runs, opens_extends, event_runs, events_runs}

-- ---- histories that went on

extends_both : (a b c : List (History RingCall)) → Extends a b → Extends b c → Extends a c
extends_both a b c first second mount =
    let one = first mount in let two = second mount in
    (one.0 ++ two.0, two.1 ∙ ap (λ (h : History RingCall). h ++ two.0) one.1 ∙ append_assoc (history_at a mount) one.0 two.0)

event_extends : (c : Config) (cap : ℕ) (headings : ℕ → Heading) (w : World) (event : Event) → KeepsRules cap c
    → IsRunning c headings w → Extends w.histories.rings (after_event c headings w event).histories.rings
event_extends c cap headings w (events.Source number mount) kept run =
    opens_extends c cap headings w number (bare_source mount) kept run
event_extends c cap headings w (events.Rover number mount) kept run =
    opens_extends c cap headings w number (bare_rover mount) kept run
event_extends c cap headings w (events.Open number) kept run = opens_extends c cap headings w number sends_head kept run
event_extends c cap headings w (events.Relay number relay) kept run =
    opens_extends c cap headings w number (relays relay) kept run
event_extends c cap headings w (events.In number bytes) kept run =
    happens_extends c cap headings w number (arrives bytes) kept run
event_extends c cap headings w (events.Turn number budget) kept run =
    happens_extends c cap headings w number (takes_turn budget) kept run
event_extends c cap headings w (events.Break number) kept run =
    happens_extends c cap headings w number (ends lasts.ReadFault) kept run
event_extends c cap headings w (events.End number) kept run =
    happens_extends c cap headings w number (ends lasts.End) kept run

events_extend : (c : Config) (cap : ℕ) (headings : ℕ → Heading) (w : World) (list : List Event) → KeepsRules cap c
    → IsRunning c headings w → Extends w.histories.rings (fold (after_event c headings) w list).histories.rings
events_extend c cap headings w [] kept run = extends_same w.histories.rings
events_extend c cap headings w (event ∷ more) kept run =
    let next = after_event c headings w event in
    extends_both w.histories.rings next.histories.rings (fold (after_event c headings) next more).histories.rings
    (event_extends c cap headings w event kept run)
    (events_extend c cap headings next more kept (event_runs c cap headings w event kept run))

-- ---- what closes connections gives claims of sources back that have not ended, and nothing else

module _ (c : Config) (headings : ℕ → Heading) (list : List Event) where
  abbrev IsBack : ℕ × RingCall → Type 0
  IsBack entry = IsTrue (is_release entry.1) × GoesOn c headings list entry.0

  abbrev Backs : List (History RingCall) → List (History RingCall) → Type 0
  Backs old now =
      (mount : ℕ) → (back : History RingCall) × (history_at now mount ≡ history_at old mount ++ back)
      × All IsBack back

  backs_same : (h : List (History RingCall)) → Backs h h
  backs_same h mount = ([], sym (append-nil (history_at h mount)), All-nil IsBack)

  backs_both : (x y z : List (History RingCall)) → Backs x y → Backs y z → Backs x z
  backs_both x y z first second mount =
      let one = first mount in let two = second mount in (
        one.0 ++ two.0,
        two.1 ∙ ap (λ (h : History RingCall). h ++ two.0) one.1 ∙ append_assoc (history_at x mount) one.0 two.0,
        All-append IsBack one.0 two.0 one.2 two.2,
      )

  -- all these calls give claims back, and this is so
  abbrev AreBack : Type 0 → List RingCall → Type 0
  AreBack So calls = All (λ call. IsTrue (is_release call) × So) calls

  entries_back : (me : ℕ) (calls : List RingCall) → AreBack (GoesOn c headings list me) calls
      → All IsBack (entries_of me calls)
  entries_back me [] all = All-nil IsBack
  entries_back me (call ∷ calls) all =
      All-cons IsBack (me, call) (entries_of me calls)
      (All-head (λ call. IsTrue (is_release call) × GoesOn c headings list me) call calls all)
      (entries_back me calls (All-tail (λ call. IsTrue (is_release call) × GoesOn c headings list me) call calls all))

  release_if : (So : Type 0) (here : Bool) (claim : ℕ) (answer : RingAnswer) → So
      → AreBack So (calls_in (cond here ((Release claim, answer) ∷ []) [] ++ []))
  release_if So true claim answer so =
      All-cons (λ call. IsTrue (is_release call) × So) (Release claim) [] (refl, so)
      (All-nil (λ call. IsTrue (is_release call) × So))
  release_if So false claim answer so = All-nil (λ call. IsTrue (is_release call) × So)

  -- who gives a claim back is a source that was given it
  abbrev FromClaim : Judged → Option Answer → Type 0 → Type 0
  FromClaim j by So =
      (terms : SourceTerms) (body : List ℕ) (claim : ℕ) → j ≡ source terms body → by ≡ Some (of_ring (Given claim))
      → So

  closing_back : (So : Type 0) (me : ℕ) (h : Histories) (j : Judged) (by : Option Answer) (segments : List Segment)
      (mount : ℕ) → FromClaim j by So
      → AreBack So (calls_in (on_ring mount (made c me h (closing_by (came_by j by) segments))))
  closing_back So me h j by segments mount so =
      came_parts (λ came. AreBack So (calls_in (on_ring mount (made c me h (closing_by came segments))))) j by
      (All-nil _) (λ reply end. All-nil _)
      (λ terms body claim is given. release_if So (terms.mount == mount) claim _ (so terms body claim is given))
      (λ terms tail is entered. All-nil _)

  -- what the events say of one that goes on
  abbrev SaysGoing : Connected → Type 0
  SaysGoing d = goes_on (judged_of c (headings d.number) d) d.steps d.closed ≡ true → IsSaid list d

  one_backs : (concerned : Bool) (cap : ℕ) (h : Histories) (d : Connected) (last : Last) → KeepsRules cap c
      → Stood c (headings d.number) h d
      → (concerned ≡ true → goes_on (judged_of c (headings d.number) d) d.steps d.closed ≡ true) → SaysGoing d
      → Backs h.rings (moved_if concerned c (headings d.number) h d (ends last)).histories.rings
  one_backs false cap h d last kept s goes said = backs_same h.rings
  one_backs true cap h d last kept s goes said = λ mount.
      let j = judged_of c (headings d.number) d in
      let plan = closing j d.steps in
      let steps = made c d.number h plan in
      let adds = plan_adds c h d.number plan s.walked.size
      (closing_within c j (first_answer d.steps) (segments_after [] d.steps)
      (judged_fed c cap d.opening (headings d.number) d.text kept)) in
      let now = (moved c (headings d.number) h d (ends last)).histories in
      let calls = calls_in (on_ring mount steps) in (
        entries_of d.number calls,
        alone_entries (shapes c) h.rings now.rings d.number steps mount adds.went,
        entries_back d.number calls
            (closing_back (GoesOn c headings list d.number) d.number h j (first_answer d.steps)
            (segments_after [] d.steps) mount
            (goes_so c headings list d (said (goes refl)) (goes refl))),
      )

  backs_in : (cap : ℕ) (number : ℕ) (last : Last) (h : Histories) (ds : List Connected) → KeepsRules cap c
      → IsIncreasing ds → All (IsStood c headings h) ds → All SaysGoing ds
      → Backs h.rings (happens_in c headings number (ends last) h ds).histories.rings
  backs_in cap number last h [] kept order all said = backs_same h.rings
  backs_in cap number last h (d ∷ ds) kept order all said = elim (cases_eq number d.number) [
    | inl same ↦
        let m = moved_by c headings number (ends last) h d in
        let none : is_opened number ds ≡ false =
        subst (λ (n : ℕ). is_opened n ds ≡ false) (sym same) (none_above d.number ds order.0) in
        subst (λ (w : World). Backs h.rings w.histories.rings)
        (sym (happens_nowhere c headings number (ends last) m.histories ds none))
        (one_backs (is_concerned c (headings d.number) number d) cap h d last kept
        (All-head (IsStood c headings h) d ds all)
        (λ is. (and_parts (d.number == number)
        (goes_on (judged_of c (headings d.number) d) d.steps d.closed) is).1)
        (All-head SaysGoing d ds said))
    | inr apart ↦
        subst (λ (m : Moved). Backs h.rings (happens_in c headings number (ends last) m.histories ds).histories.rings)
        (sym (apart_moved c headings number (ends last) h d (λ e. apart (sym e))))
        (backs_in cap number last h ds kept order.1 (All-tail (IsStood c headings h) d ds all)
        (All-tail SaysGoing d ds said))
  ]

  -- one that was closed does not go on
  said_after : (concerned : Bool) (h : Histories) (d : Connected) (last : Last) → SaysGoing d
      → SaysGoing (moved_if concerned c (headings d.number) h d (ends last)).connection
  said_after false h d last said = said
  said_after true h d last said = λ goes. absurd (false≢true goes)

  all_said : (number : ℕ) (last : Last) (h : Histories) (ds : List Connected) → All SaysGoing ds
      → All SaysGoing (happens_in c headings number (ends last) h ds).connections
  all_said number last h [] said = All-nil SaysGoing
  all_said number last h (d ∷ ds) said =
      let concerned : Bool = is_concerned c (headings d.number) number d in
      let m = moved_if concerned c (headings d.number) h d (ends last) in
      All-cons SaysGoing m.connection _ (said_after concerned h d last (All-head SaysGoing d ds said))
      (all_said number last m.histories ds (All-tail SaysGoing d ds said))

  closes_back : (cap : ℕ) (w : World) (numbers : List ℕ) → KeepsRules cap c → IsRunning c headings w
      → All SaysGoing w.connections → Backs w.histories.rings (closes c headings w numbers).histories.rings
  closes_back cap w [] kept run said = backs_same w.histories.rings
  closes_back cap w (number ∷ more) kept run said =
      let next = happens c headings w number (ends lasts.End) in
      backs_both w.histories.rings next.histories.rings (closes c headings next more).histories.rings
      (backs_in cap number lasts.End w.histories w.connections kept run.order run.each said)
      (closes_back cap next more kept (happens_runs c cap headings w number (ends lasts.End) kept run)
      (all_said number lasts.End w.histories w.connections said))

  known_said : (ds : List Connected) → All (IsKnown c headings list) ds → All SaysGoing ds
  known_said [] known = All-nil SaysGoing
  known_said (d ∷ ds) known =
      All-cons SaysGoing d ds (said_so c headings list d (All-head (IsKnown c headings list) d ds known))
      (known_said ds (All-tail (IsKnown c headings list) d ds known))

  -- the calls that close a run go on with its histories
  closes_extend : (cap : ℕ) (w : World) (numbers : List ℕ) → KeepsRules cap c → IsRunning c headings w
      → Extends w.histories.rings (closes c headings w numbers).histories.rings
  closes_extend cap w [] kept run = extends_same w.histories.rings
  closes_extend cap w (number ∷ more) kept run =
      let next = happens c headings w number (ends lasts.End) in
      extends_both w.histories.rings next.histories.rings (closes c headings next more).histories.rings
      (happens_extends c cap headings w number (ends lasts.End) kept run)
      (closes_extend cap next more kept (happens_runs c cap headings w number (ends lasts.End) kept run))

-- ---- a beginning of the script

pub earlier : (c : Config) (cap : ℕ) (kind : ScriptKind) (headings : ℕ → Heading) (first later : List Event)
    → KeepsRules cap c → IsSession kind (first ++ later)
    → AreEarlier c headings first (world c headings first).histories.rings
    (world c headings (first ++ later)).histories.rings
earlier c cap kind headings first later kept session mount =
    let numbers : World → List ℕ = λ w. map (λ (d : Connected). d.number) w.connections in
    let early = after_events c headings first in
    let late = after_events c headings (first ++ later) in
    let run = events_runs c cap headings first kept in
    let known = (events_read c headings kind first (first_session kind no_numbers first later session)).known in
    let back = closes_back c headings first cap early (numbers early) kept run
    (known_said c headings first early.connections known.each) mount in
    let on = events_extend c cap headings early later kept run mount in
    let after = closes_extend c headings first cap late (numbers late) kept
    (events_runs c cap headings (first ++ later) kept) mount in
    let split : late ≡ fold (after_event c headings) early later =
    fold-append (after_event c headings) (record { connections = []; histories = nothing_called c }) first later in
    let seen : history_at (world c headings (first ++ later)).histories.rings mount
    ≡ history_at early.histories.rings mount ++ (on.0 ++ after.0) =
    after.1
    ∙ ap (λ (w : World). history_at w.histories.rings mount ++ after.0) split
    ∙ ap (λ (h : History RingCall). h ++ after.0) on.1
    ∙ append_assoc (history_at early.histories.rings mount) on.0 after.0 in record {
      front = history_at early.histories.rings mount;
      back = back.0;
      later = on.0 ++ after.0;
      early_is = back.1;
      now_is = seen;
      given_back = back.2;
      none_before = none_back c headings first early run.each known mount;
      none_closed = later_uncut c cap kind headings first later mount (on.0 ++ after.0) kept session seen;
    }
