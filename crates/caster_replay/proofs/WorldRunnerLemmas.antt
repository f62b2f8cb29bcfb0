-- A recorded run of the first events of a script: whatever events follow, what is kept of its
-- connections stands for the run with the headings of them all.
use Rattle.std.proofs.Common.{◌≡◌, ◌≢◌, ◌∙◌, ◌<◌, ◌++◌, ℕ, true, false, List, [], ◌∷◌, length, get_or, set, refl, sym, ap, subst, inl, inr, arith, append_assoc, All, Option, None, Some}
use Rattle.std.specs.Prelude.{is_none}
use Rattle.std.proofs.lemmas.Bool.{cases_eq}
use Rattle.std.proofs.lemmas.List.{append-nil}
use Rattle.std.proofs.lemmas.List.Sums.{fold-append}
use Rattle.std.proofs.lemmas.List.Elements.{All-get_or}
use Rattle.session_script.specs.declared.Event.{Event}
use Rattle.session_script.specs.declared.Event.TheVariants as events
use Rattle.rover_session.specs.Owed.{reads}
use Rattle.rover_session.specs.Made.{segments_after, owed_among}
use Rattle.session_calls.specs.Steps.{Step}
use Rattle.cast_config.specs.declared.config.Config.{Config}
use Rattle.session_model.specs.declared.ending.Ending.{Ending}
use Rattle.session_model.specs.declared.ending.Last.{Last}
use Rattle.session_model.specs.declared.ending.Last.TheVariants as lasts
use Rattle.session_model.specs.declared.report.Receipt.{Receipt}
use Rattle.session_core.specs.declared.session.Session.{Session}
use Rattle.session_core.specs.declared.session_stage.SessionStage.{SessionStage}
use Rattle.session_core.specs.declared.session_stage.SessionStage.TheVariants as stages
use Rattle.rover_cursor.specs.declared.segment.Segment.{Segment}
use Rattle.session_core.specs.Turned.{is_rover}
use Rattle.session_core.proofs.CloseLemmas.{called_none}
use Rattle.session_model.specs.Headings.{Heading, incomplete}
use Rattle.session_model.specs.Judged.{Opening, sends_head, Judged, judged}
use Rattle.session_model.specs.Owed.{Happening, arrives, takes_turn, ends}
use Rattle.session_model.specs.Endings.{goes_on}
use Rattle.session_model.specs.Reports.{IsHeadingOf, AreHeadings, opened_as, bytes_to}
use Rattle.session_model.specs.Run.{Histories, Connected, Moved, World, makes, judged_of, fresh, happens, is_opened, after_event, after_events}
use Rattle.session_model.specs.Called.{OthersCalled}
use Rattle.session_core.specs.Standing.{is_halted, IsAtStage, Fed}
use Rattle.session_model.proofs.KeepLemmas.{AreFrames}
use Rattle.session_model.proofs.WellLemmas.{IsSoundOf}
use Rattle.caster_replay.specs.Lives.{IsGoing, IsKept, Live, live_of, IsLive, place_of}
use Rattle.caster_replay.specs.Runs.{IsKnown, AreKnown, HasHeadings}
use Rattle.caster_replay.specs.Calls.{Feeds, TakesTurn, Closes}
use Rattle.caster_replay.specs.declared.run_connection.State.{State}
use Rattle.caster_replay.specs.declared.run_connection.State.TheVariants.{Open, Closed}
use Rattle.caster_replay.proofs.WorldHeadingLemmas.{heading_keeps, over_judged, or_later, opened-append, opened_stays, bytes_begin, bytes_on, bytes_stay}
use Rattle.session_core.proofs.FeedHeadLemmas.{others_none}
use Rattle.caster_replay.proofs.WorldListLemmas.{pairs_length, pairs_at, not_opened, before}
use Rattle.caster_replay.proofs.WorldStepLemmas.{going_concerned}
use Rattle.caster_replay.proofs.WorldEventLemmas.{Becomes, stands_so, feed_goes, feed_ends, turn_goes, close_ends}
use Rattle.caster_replay.proofs.WorldRunLemmas.{IsRunAt, run_changed, run_nowhere, run_over, place_same}
use Rattle.caster_replay.proofs.WorldKnownLemmas.{Tells, bytes_same, known_happens, tells_in, tells_turn, tells_break, tells_end}

-- ---- the run so far

pub record IsRun (c : Config) (script : List Event) (lives : List Live) (now : Histories) : Type 0 where
  pub known : (headings : ℕ → Heading) → AreKnown c headings script (after_events c headings script)
  pub has : HasHeadings script
  pub stands : (more : List Event) (headings : ℕ → Heading) → AreHeadings (script ++ more) headings
      → IsRunAt c headings (after_events c headings script) lives now

-- ---- headings

-- of more events they are headings of these events too
pub headings_of : (script : List Event) (event : Event) (more : List Event) (headings : ℕ → Heading)
    → AreHeadings ((script ++ event ∷ []) ++ more) headings → AreHeadings (script ++ event ∷ more) headings
headings_of script event more headings are =
    subst (λ (l : List Event). AreHeadings l headings) (append_assoc script (event ∷ []) more) are

pub after_one : (c : Config) (headings : ℕ → Heading) (script : List Event) (event : Event)
    → after_events c headings (script ++ event ∷ []) ≡ after_event c headings (after_events c headings script) event
after_one c headings script event = fold-append (after_event c headings) _ script (event ∷ [])

-- they say of a connection's bytes so far what a heading of more bytes says
pub said_all : (script more : List Event) (headings : ℕ → Heading) (n : ℕ) (o : Opening) (text : List ℕ)
    → AreHeadings (script ++ more) headings → opened_as n script ≡ Some o → bytes_to n script ≡ text
    → (rest : List ℕ) × IsHeadingOf (Some o) (text ++ rest) (headings n)
said_all script more headings n o text are opened bytes =
    let begins = bytes_begin n script more in (
      begins.0,
      subst (λ (l : List ℕ). IsHeadingOf (Some o) l (headings n))
          (begins.1 ∙ ap (λ (l : List ℕ). l ++ begins.0) bytes)
          (subst (λ (x : Option Opening). IsHeadingOf x (bytes_to n (script ++ more)) (headings n))
          (opened_stays n o script more opened) (are n)),
    )

pub said_of : (c : Config) (script more : List Event) (headings : ℕ → Heading) (d : Connected)
    → AreHeadings (script ++ more) headings → IsKnown c headings script d
    → (rest : List ℕ) × IsHeadingOf (Some d.opening) (d.text ++ rest) (headings d.number)
said_of c script more headings d are known =
    let said = said_all script more headings d.number d.opening (d.text ++ known.rest) are known.opened known.begins in (
      known.rest ++ said.0,
      subst (λ (l : List ℕ). IsHeadingOf (Some d.opening) l (headings d.number))
          (append_assoc d.text known.rest said.0) said.1,
    )

-- the headings of the events so far, and that they are
abbrev pub headings_now : (script : List Event) → HasHeadings script → ℕ → Heading
headings_now script has n = (has n).0

pub are_now : (script : List Event) (has : HasHeadings script) → AreHeadings (script ++ []) (headings_now script has)
are_now script has =
    subst (λ (l : List Event). AreHeadings l (headings_now script has)) (sym (append-nil script)) (λ n. (has n).1)

pub no_later : (o : Option Opening) → or_later o None ≡ o
no_later None = refl
no_later (Some o) = refl

pub opens_same : (n : ℕ) (script : List Event) (event : Event) → opened_as n (event ∷ []) ≡ None
    → opened_as n (script ++ event ∷ []) ≡ opened_as n script
opens_same n script event none =
    opened-append n script (event ∷ []) ∙ ap (or_later (opened_as n script)) none ∙ no_later (opened_as n script)

-- an event that says nothing of the number leaves its heading
has_still : (script : List Event) (event : Event) (n : ℕ) → HasHeadings script → bytes_to n (event ∷ []) ≡ []
    → opened_as n (event ∷ []) ≡ None
    → (heading : Heading) × IsHeadingOf (opened_as n (script ++ event ∷ [])) (bytes_to n (script ++ event ∷ [])) heading
has_still script event n has bytes none = (
  (has n).0,
  subst (λ (o : Option Opening). IsHeadingOf o (bytes_to n (script ++ event ∷ [])) (has n).0)
      (sym (opens_same n script event none))
      (subst (λ (l : List ℕ). IsHeadingOf (opened_as n script) l (has n).0) (sym (bytes_same n script event bytes))
      (has n).1),
)

-- an event about one number leaves those of the others
pub has_one : (script : List Event) (event : Event) (number : ℕ) → HasHeadings script
    → ((n : ℕ) → number ≢ n → (bytes_to n (event ∷ []) ≡ []) × (opened_as n (event ∷ []) ≡ None))
    → (heading : Heading)
    × IsHeadingOf (opened_as number (script ++ event ∷ [])) (bytes_to number (script ++ event ∷ [])) heading
    → HasHeadings (script ++ event ∷ [])
has_one script event number has others new n = elim (cases_eq number n) [
  | inl same ↦
      subst (λ (k : ℕ). (heading : Heading)
      × IsHeadingOf (opened_as k (script ++ event ∷ [])) (bytes_to k (script ++ event ∷ [])) heading) same new
  | inr apart ↦ has_still script event n has (others n apart).0 (others n apart).1
]

-- ---- an event that happens to a number

pub record IsAbout (event : Event) (number : ℕ) (what : Happening) : Type 0 where
  pub tells : Tells event number what
  pub is : (c : Config) (headings : ℕ → Heading) (w : World)
      → after_event c headings w event ≡ happens c headings w number what

pub about_in : (k : ℕ) (bytes : List ℕ) → IsAbout (events.In k bytes) k (arrives bytes)
about_in k bytes = record { tells = tells_in k bytes; is = λ c headings w. refl }

pub about_turn : (k budget : ℕ) → IsAbout (events.Turn k budget) k (takes_turn budget)
about_turn k budget = record { tells = tells_turn k budget; is = λ c headings w. refl }

pub about_break : (k : ℕ) → IsAbout (events.Break k) k (ends lasts.ReadFault)
about_break k = record { tells = tells_break k; is = λ c headings w. refl }

pub about_end : (k : ℕ) → IsAbout (events.End k) k (ends lasts.End)
about_end k = record { tells = tells_end k; is = λ c headings w. refl }

-- one that brings no bytes leaves all headings
has_quiet : (script : List Event) (event : Event) (number : ℕ) (what : Happening) → Tells event number what
    → bytes_to number (event ∷ []) ≡ [] → HasHeadings script → HasHeadings (script ++ event ∷ [])
has_quiet script event number what tells none has =
    has_one script event number has (λ n apart. ((tells.others n apart).0, tells.unopened n))
    (has_still script event number has none (tells.unopened number))

known_about : (c : Config) (script : List Event) (event : Event) (number : ℕ) (what : Happening)
    (headings : ℕ → Heading) → IsAbout event number what
    → AreKnown c headings script (after_events c headings script)
    → AreKnown c headings (script ++ event ∷ []) (after_events c headings (script ++ event ∷ []))
known_about c script event number what headings about known =
    subst (AreKnown c headings (script ++ event ∷ []))
    (sym (after_one c headings script event ∙ about.is c headings (after_events c headings script)))
    (known_happens c headings script event number what (after_events c headings script) about.tells known)

-- ---- the connection of a number

abbrev pub nobody : Connected
nobody = fresh 0 sends_head

-- the connection at this place
abbrev pub there : Config → (ℕ → Heading) → List Event → ℕ → Connected
there c headings script at = get_or (after_events c headings script).connections at nobody

pub record IsFound (c : Config) (headings : ℕ → Heading) (script : List Event) (old : Histories) (at number : ℕ)
    (state : State) (bytes : List ℕ) : Type 0 where
  pub within : at < length (after_events c headings script).connections
  pub here : (there c headings script at).number ≡ number
  pub known : IsKnown c headings script (there c headings script at)
  pub frames : AreFrames old.rings
  pub sound : IsSoundOf c old.rings (there c headings script at)
  pub kept : IsKept c (headings (there c headings script at).number) old (there c headings script at) state bytes

pub found : (c : Config) (headings : ℕ → Heading) (script : List Event) (lives : List Live) (old : Histories) (at : ℕ)
    (y : Live) (number : ℕ) (state : State) (bytes : List ℕ)
    → AreKnown c headings script (after_events c headings script)
    → IsRunAt c headings (after_events c headings script) lives old
    → at < length lives → get_or lives at y ≡ live_of number state bytes
    → IsFound c headings script old at number state bytes
found c headings script lives old at y number state bytes known run within is =
    let w = after_events c headings script in
    let inside : at < length w.connections =
    omega (arith, within, pairs_length (IsLive c headings old) w.connections lives run.each) in
    let live : IsLive c headings old (there c headings script at) (live_of number state bytes) =
    subst (λ (l : Live). IsLive c headings old (there c headings script at) l) is
    (pairs_at (IsLive c headings old) w.connections lives at nobody y run.each within) in
    record {
      within = inside;
      here = sym live.0;
      known = All-get_or (IsKnown c headings script) w.connections at nobody inside known.each;
      frames = subst (λ (h : Histories). AreFrames h.rings) run.histories run.well.frames;
      sound = All-get_or (IsSoundOf c old.rings) w.connections at nobody inside
          (subst (λ (h : Histories). All (IsSoundOf c h.rings) w.connections) run.histories run.well.sound);
      kept = live.1;
    }

-- ---- one that goes on changes

pub run_about : (c : Config) (script : List Event) (event : Event) (lives : List Live) (old now : Histories)
    (number : ℕ) (what : Happening) (at : ℕ) (y : Live) (session : Session) (state : State) (before after : List ℕ)
    → IsAbout event number what → IsRun c script lives old
    → at < length lives → get_or lives at y ≡ live_of number (Open session) before
    → HasHeadings (script ++ event ∷ [])
    → ((more : List Event) (headings : ℕ → Heading) → AreHeadings ((script ++ event ∷ []) ++ more) headings
    → IsFound c headings script old at number (Open session) before
    → Becomes c (headings (there c headings script at).number) old now (there c headings script at) what state after)
    → IsRun c (script ++ event ∷ []) (set lives at (live_of number state after)) now
run_about c script event lives old now number what at y session state before after about run within is has becomes =
    record {
      known = λ headings. known_about c script event number what headings about (run.known headings);
      has = has;
      stands = λ more headings are.
          let all = headings_of script event more headings are in
          let before_it = run.stands (event ∷ more) headings all in
          let f = found c headings script lives old at y number (Open session) before (run.known headings) before_it
          within is in
          let said = said_of c script (event ∷ more) headings (there c headings script at) all f.known in
          subst (λ (w : World). IsRunAt c headings w (set lives at (live_of number state after)) now)
          (sym (after_one c headings script event ∙ about.is c headings (after_events c headings script)))
          (run_changed c headings (after_events c headings script) lives old now number what at nobody state after
          before_it f.within f.here
          (going_concerned c (headings (there c headings script at).number) old (there c headings script at) session
          before said.0 f.kept said.1)
          (becomes more headings are f));
    }

-- ---- bytes that come in

-- all bytes of a connection that goes on are its text and these
bytes_fed : (c : Config) (script more : List Event) (headings : ℕ → Heading) (old : Histories) (at number : ℕ)
    (session : Session) (text bytes : List ℕ) → AreHeadings (script ++ more) headings
    → IsFound c headings script old at number (Open session) bytes
    → bytes_to (there c headings script at).number (script ++ events.In number text ∷ [])
    ≡ (there c headings script at).text ++ text
bytes_fed c script more headings old at number session text bytes are f =
    let d : Connected = there c headings script at in
    let said = said_of c script more headings d are f.known in
    let goes = f.known.going (going_concerned c (headings d.number) old d session bytes said.0 f.kept said.1) in
    let tells = tells_in number text in
    bytes_on d.number script (events.In number text ∷ []) goes.1
    ∙ ap (λ (l : List ℕ). bytes_to d.number script ++ l)
    (ap (λ (n : ℕ). bytes_to n (events.In number text ∷ [])) f.here ∙ tells.bytes)
    ∙ ap (λ (l : List ℕ). l ++ text) (f.known.begins ∙ ap (λ (l : List ℕ). d.text ++ l) goes.0 ∙ append-nil d.text)

fed_said : (c : Config) (script more : List Event) (headings : ℕ → Heading) (old : Histories) (at number : ℕ)
    (session : Session) (text bytes : List ℕ) → AreHeadings ((script ++ events.In number text ∷ []) ++ more) headings
    → IsFound c headings script old at number (Open session) bytes
    → (rest : List ℕ) × IsHeadingOf (Some (there c headings script at).opening)
    (((there c headings script at).text ++ text) ++ rest) (headings (there c headings script at).number)
fed_said c script more headings old at number session text bytes are f =
    let d : Connected = there c headings script at in
    said_all (script ++ events.In number text ∷ []) more headings d.number d.opening (d.text ++ text) are
    (opened_stays d.number d.opening script (events.In number text ∷ []) f.known.opened)
    (bytes_fed c script (events.In number text ∷ more) headings old at number session text bytes
    (headings_of script (events.In number text) more headings are) f)

-- what the session that is found ensures
fed_at : (c : Config) (old now : Histories) (d : Connected) (heading : Heading) (session next : Session)
    (text before after : List ℕ) → Feeds c old now session next text before after
    → IsGoing c heading old d session before
    → (fed : Fed c true old now next d.opening (d.text ++ text) d.steps before before after)
    × (owed_among fed.more ≡ fed.more)
fed_at c old now d heading session next text before after feeds g =
    let fed = feeds d.opening d.text d.steps g.histories before (inl g.stands)
    (subst (λ (n : ℕ). OthersCalled g.histories old n) (sym g.me) g.others) in
    (fed, fed.no_read)

has_fed : (c : Config) (script : List Event) (lives : List Live) (old now : Histories) (number at : ℕ) (y : Live)
    (session next : Session) (text before after : List ℕ) → IsRun c script lives old
    → at < length lives → get_or lives at y ≡ live_of number (Open session) before
    → Feeds c old now session next text before after → is_halted next.ended ≡ false
    → HasHeadings (script ++ events.In number text ∷ [])
has_fed c script lives old now number at y session next text before after run within is feeds goes =
    let headings = headings_now script run.has in
    let are = are_now script run.has in
    let f = found c headings script lives old at y number (Open session) before (run.known headings)
    (run.stands [] headings are) within is in
    let d : Connected = there c headings script at in
    let event : Event = events.In number text in
    let fed = fed_at c old now d (headings d.number) session next text before after feeds f.kept in
    let s = stands_so c next d.opening (d.text ++ text) (d.steps ++ fed.0.more) now (before ++ fed.0.added) fed.0.stands
    goes in
    let tells = tells_in number text in
    has_one script event number run.has (λ n apart. ((tells.others n apart).0, tells.unopened n)) (
      s.heading,
      subst (λ (n : ℕ). IsHeadingOf (opened_as n (script ++ event ∷ [])) (bytes_to n (script ++ event ∷ [])) s.heading)
          f.here
          (subst (λ (o : Option Opening). IsHeadingOf o (bytes_to d.number (script ++ event ∷ [])) s.heading)
          (sym (opened_stays d.number d.opening script (event ∷ []) f.known.opened))
          (subst (λ (l : List ℕ). IsHeadingOf (Some d.opening) l s.heading)
          (sym (bytes_fed c script [] headings old at number session text before are f)) s.is_heading)),
    )

-- the session goes on
pub run_fed : (c : Config) (script : List Event) (lives : List Live) (old now : Histories) (number : ℕ) (at : ℕ)
    (y : Live) (session next : Session) (text before after : List ℕ) → IsRun c script lives old
    → at < length lives → get_or lives at y ≡ live_of number (Open session) before
    → Feeds c old now session next text before after → next.me ≡ session.me → next.ended ≡ None
    → IsRun c (script ++ events.In number text ∷ []) (set lives at (live_of number (Open next) after)) now
run_fed c script lives old now number at y session next text before after run within is feeds me on =
    run_about c script (events.In number text) lives old now number (arrives text) at y session (Open next) before after
    (about_in number text) run within is
    (has_fed c script lives old now number at y session next text before after run within is feeds (ap is_halted on))
    (λ more headings are f.
    let d : Connected = there c headings script at in
    let fed = fed_at c old now d (headings d.number) session next text before after feeds f.kept in
    let said = fed_said c script more headings old at number session text before are f in
    feed_goes c (headings d.number) old now d text next before after said.0 fed.0 fed.1 (me ∙ f.kept.me)
    (ap is_halted on) said.1 f.kept.uncut on)

-- the session ended by itself and was closed at once
pub run_fed_over : (c : Config) (script : List Event) (lives : List Live) (old mid now : Histories) (number : ℕ)
    (at : ℕ) (y : Live) (session next : Session) (end : Ending) (receipt : Receipt) (text before after : List ℕ)
    → IsRun c script lives old → at < length lives → get_or lives at y ≡ live_of number (Open session) before
    → Feeds c old mid session next text before after → next.me ≡ session.me → next.ended ≡ Some end
    → is_halted next.ended ≡ false → Closes c mid now next lasts.End receipt → receipt.settled ≡ true
    → IsRun c (script ++ events.In number text ∷ []) (set lives at (live_of number (Closed receipt) after)) now
run_fed_over c script lives old mid now number at y session next end receipt text before after run within is feeds me
    over goes closes settled =
    run_about c script (events.In number text) lives old now number (arrives text) at y session (Closed receipt) before
    after (about_in number text) run within is
    (has_fed c script lives old mid number at y session next text before after run within is feeds goes)
    (λ more headings are f.
    let d : Connected = there c headings script at in
    let fed = fed_at c old mid d (headings d.number) session next text before after feeds f.kept in
    let said = fed_said c script more headings old at number session text before are f in
    feed_ends c (headings d.number) old mid d text next before after said.0 fed.0 fed.1 (me ∙ f.kept.me) goes said.1
    now end receipt f.kept.uncut over f.frames f.sound
    (λ h is_h. closes d.opening h (d.text ++ text) (d.steps ++ fed.0.more) mid (before ++ fed.0.added) is_h fed.0.stands
    (others_none mid next.me))
    settled)

-- ---- a turn

pub run_turned : (c : Config) (script : List Event) (lives : List Live) (old now : Histories) (number budget : ℕ)
    (at : ℕ) (y : Live) (session next : Session) (before after : List ℕ) → IsRun c script lives old
    → at < length lives → get_or lives at y ≡ live_of number (Open session) before
    → TakesTurn c old now session next budget before after → is_rover session.stage ≡ true
    → next.me ≡ session.me → next.ended ≡ None
    → IsRun c (script ++ events.Turn number budget ∷ []) (set lives at (live_of number (Open next) after)) now
run_turned c script lives old now number budget at y session next before after run within is turns rover me on =
    run_about c script (events.Turn number budget) lives old now number (takes_turn budget) at y session (Open next)
    before after (about_turn number budget) run within is
    (has_quiet script (events.Turn number budget) number (takes_turn budget) (tells_turn number budget) refl run.has)
    (λ more headings are f.
    let d : Connected = there c headings script at in
    let fed = turns.0 rover d.opening d.text d.steps f.kept.histories before (inl f.kept.stands)
    (subst (λ (n : ℕ). OthersCalled f.kept.histories old n) (sym f.kept.me) f.kept.others) in
    let said = said_of c script (events.Turn number budget ∷ more) headings d
    (headings_of script (events.Turn number budget) more headings are) f.known in
    turn_goes c (headings d.number) old now d budget next before after said.0 fed (me ∙ f.kept.me) f.kept.uncut
    on said.1)

-- no rover, which a turn leaves as it is
quiet_stage : (c : Config) (me : ℕ) (h : Histories) (o : Opening) (j : Judged) (text : List ℕ) (steps : List Step)
    (stage : SessionStage) → IsAtStage c me h o j text steps stage → is_rover stage ≡ false → segments_after [] steps ≡ []
quiet_stage c me h o j text steps (stages.Head head) at apart = ap (segments_after []) at.2
quiet_stage c me h o j text steps stages.Over at apart = at.segments
quiet_stage c me h o j text steps (stages.Source mount session) at apart = at.segments
quiet_stage c me h o j text steps (stages.Relay mount session) at apart = at.segments
quiet_stage c me h o j text steps (stages.Rover account session) at apart = absurd cc

abbrev with_steps : Connected → List Step → Histories → Moved
with_steps d steps h = record {
  connection = record {
    number = d.number;
    opening = d.opening;
    text = d.text;
    steps = steps;
    closed = d.closed;
  };
  histories = h;
}

pub run_bystander : (c : Config) (script : List Event) (lives : List Live) (now : Histories) (number budget : ℕ)
    (at : ℕ) (y : Live) (session : Session) (before : List ℕ) → IsRun c script lives now
    → at < length lives → get_or lives at y ≡ live_of number (Open session) before → is_rover session.stage ≡ false
    → IsRun c (script ++ events.Turn number budget ∷ []) (set lives at (live_of number (Open session) before)) now
run_bystander c script lives now number budget at y session before run within is apart =
    run_about c script (events.Turn number budget) lives now now number (takes_turn budget) at y session (Open session)
    before before (about_turn number budget) run within is
    (has_quiet script (events.Turn number budget) number (takes_turn budget) (tells_turn number budget) refl run.has)
    (λ more headings are f.
    let d : Connected = there c headings script at in
    let none : segments_after [] d.steps ≡ [] =
    quiet_stage c session.me f.kept.histories d.opening (judged c d.opening f.kept.stands.heading d.text) d.text d.steps
    session.stage f.kept.stands.stage apart in
    record {
      connection = d;
      is = ap (λ (s : List Segment). makes c now d (reads budget s)) none
          ∙ ap (λ (l : List Step). with_steps d l now) (append-nil d.steps);
      number = refl;
      steps = [];
      called = called_none c true now d.number;
      kept = f.kept;
    })

-- ---- an end

pub run_closed : (c : Config) (script : List Event) (event : Event) (lives : List Live) (old now : Histories)
    (number : ℕ) (last : Last) (at : ℕ) (y : Live) (session : Session) (receipt : Receipt) (bytes : List ℕ)
    → IsAbout event number (ends last) → IsRun c script lives old
    → at < length lives → get_or lives at y ≡ live_of number (Open session) bytes
    → Closes c old now session last receipt → receipt.settled ≡ true
    → IsRun c (script ++ event ∷ []) (set lives at (live_of number (Closed receipt) bytes)) now
run_closed c script event lives old now number last at y session receipt bytes about run within is closes settled =
    run_about c script event lives old now number (ends last) at y session (Closed receipt) bytes bytes about run within
    is (has_quiet script event number (ends last) about.tells about.tells.bytes run.has)
    (λ more headings are f.
    let d : Connected = there c headings script at in
    let said = said_of c script (event ∷ more) headings d (headings_of script event more headings are) f.known in
    close_ends c (headings d.number) old now d last session bytes said.0 receipt f.kept f.sound said.1
    (λ h is_h. closes d.opening h d.text d.steps f.kept.histories bytes is_h (inl f.kept.stands)
    (subst (λ (n : ℕ). OthersCalled f.kept.histories old n) (sym f.kept.me) f.kept.others))
    settled)

-- ---- what happens to a number that is over or was never opened

-- a heading of one that is over is a heading of whatever comes
keeps_over : (c : Config) (headings : ℕ → Heading) (script : List Event) (event : Event) (d : Connected)
    (closed : Option Last) → d.closed ≡ closed → IsKnown c headings script d
    → goes_on (judged_of c (headings d.number) d) d.steps d.closed ≡ false
    → IsHeadingOf (Some d.opening) (bytes_to d.number script) (headings d.number)
    → IsHeadingOf (Some d.opening) (bytes_to d.number (script ++ event ∷ [])) (headings d.number)
keeps_over c headings script event d None none known over is =
    let begins = bytes_begin d.number script (event ∷ []) in
    subst (λ (l : List ℕ). IsHeadingOf (Some d.opening) l (headings d.number)) (sym begins.1)
    (heading_keeps c d.opening (headings d.number) d.text (bytes_to d.number script) begins.0
    (over_judged (judged_of c (headings d.number) d) d.steps
    (ap (λ (l : Option Last). goes_on (judged_of c (headings d.number) d) d.steps l) (sym none) ∙ over)) is)
keeps_over c headings script event d (Some last) there known over is =
    subst (λ (l : List ℕ). IsHeadingOf (Some d.opening) l (headings d.number))
    (sym (bytes_stay d.number script (event ∷ []) (known.closed (ap (λ (l : Option Last). is_none l) there)))) is

pub run_skipped : (c : Config) (script : List Event) (event : Event) (lives : List Live) (now : Histories) (number : ℕ)
    (what : Happening) (at : ℕ) (y : Live) (receipt : Receipt) (bytes : List ℕ) → IsAbout event number what
    → IsRun c script lives now → at < length lives → get_or lives at y ≡ live_of number (Closed receipt) bytes
    → IsRun c (script ++ event ∷ []) lives now
run_skipped c script event lives now number what at y receipt bytes about run within is =
    let first = headings_now script run.has in
    let g = found c first script lives now at y number (Closed receipt) bytes (run.known first)
    (run.stands [] first (are_now script run.has)) within is in
    let e : Connected = there c first script at in
    record {
      known = λ headings. known_about c script event number what headings about (run.known headings);
      has = has_one script event number run.has (λ n apart. ((about.tells.others n apart).0, about.tells.unopened n)) (
        first number,
        subst (λ (n : ℕ). IsHeadingOf (opened_as n (script ++ event ∷ [])) (bytes_to n (script ++ event ∷ []))
            (first n)) g.here
            (subst (λ (o : Option Opening). IsHeadingOf o (bytes_to e.number (script ++ event ∷ [])) (first e.number))
            (sym (opened_stays e.number e.opening script (event ∷ []) g.known.opened))
            (keeps_over c first script event e e.closed refl g.known g.kept.stops
            (subst (λ (o : Option Opening). IsHeadingOf o (bytes_to e.number script) (first e.number)) g.known.opened
            (run.has e.number).1))),
      );
      stands = λ more headings are.
          let before_it = run.stands (event ∷ more) headings (headings_of script event more headings are) in
          let f = found c headings script lives now at y number (Closed receipt) bytes (run.known headings) before_it
          within is in
          subst (λ (w : World). IsRunAt c headings w lives now)
          (sym (after_one c headings script event ∙ about.is c headings (after_events c headings script)))
          (run_over c headings (after_events c headings script) lives now number what at nobody before_it f.within
          f.here
          f.kept.stops);
    }

-- the number stands nowhere
abbrev pub IsAbsent : ℕ → List Live → Live → Type 0
IsAbsent number lives y =
    place_of number lives < length lives → (get_or lives (place_of number lives) y).number ≢ number

pub absent_from : (c : Config) (headings : ℕ → Heading) (w : World) (lives : List Live) (now : Histories) (number : ℕ)
    (y : Live) → IsRunAt c headings w lives now → IsAbsent number lives y → is_opened number w.connections ≡ false
absent_from c headings w lives now number y run absent =
    let place = place_same c headings w lives now number run in
    let size = pairs_length (IsLive c headings now) w.connections lives run.each in
    not_opened number w.connections nobody run.order
    (λ within here.
    let inside : place_of number lives < length lives = omega (arith, within, place, size) in
    let pair : IsLive c headings now (get_or w.connections (place_of number lives) nobody) (get_or lives
    (place_of number lives) y) =
    pairs_at (IsLive c headings now) w.connections lives (place_of number lives) nobody y run.each inside in
    absent inside (pair.0 ∙ ap (λ (n : ℕ). (get_or w.connections n nobody).number) place ∙ here))

pub run_absent : (c : Config) (script : List Event) (event : Event) (lives : List Live) (now : Histories) (number : ℕ)
    (what : Happening) (y : Live) → IsAbout event number what → IsRun c script lives now → IsAbsent number lives y
    → IsRun c (script ++ event ∷ []) lives now
run_absent c script event lives now number what y about run absent =
    let first = headings_now script run.has in
    let none : opened_as number script ≡ None =
    (run.known first).none number (absent_from c first (after_events c first script) lives now number y
    (run.stands [] first (are_now script run.has)) absent) in
    record {
      known = λ headings. known_about c script event number what headings about (run.known headings);
      has = has_one script event number run.has (λ n apart. ((about.tells.others n apart).0, about.tells.unopened n)) (
        incomplete,
        subst (λ (o : Option Opening). IsHeadingOf o (bytes_to number (script ++ event ∷ [])) incomplete)
            (sym (opens_same number script event (about.tells.unopened number) ∙ none)) refl,
      );
      stands = λ more headings are.
          let before_it = run.stands (event ∷ more) headings (headings_of script event more headings are) in
          subst (λ (w : World). IsRunAt c headings w lives now)
          (sym (after_one c headings script event ∙ about.is c headings (after_events c headings script)))
          (run_nowhere c headings (after_events c headings script) lives now number what before_it
          (absent_from c headings (after_events c headings script) lives now number y before_it absent));
    }
