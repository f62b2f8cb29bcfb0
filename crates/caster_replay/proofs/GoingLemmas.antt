-- Which connections of a run go on, and which have frames to read, as what is kept of them tells.
use Rattle.std.proofs.Common.{◌≡◌, ◌≢◌, ◌∙◌, ◌<◌, ◌++◌, ℕ, zero, suc, Bool, true, false, List, [], ◌∷◌, length, get_or, refl, sym, ap, subst, inl, inr, arith, Option, None, Some}
use Rattle.std.specs.Prelude.{◌==◌, ◌&&◌, ◌||◌, if◌then◌else◌, IsTrue}
use Rattle.std.specs.List.{list_any}
use Rattle.std.proofs.lemmas.Bool.{cases_Bool, eq-eqb, ne_eqb, false≢true}
use Rattle.std.proofs.lemmas.List.{append-nil}
use Rattle.turn_log.specs.History.{History}
use Rattle.mount_ring.specs.declared.call.RingCall.{RingCall}
use Rattle.ntrip_head.specs.declared.request.Version.{Version}
use Rattle.rover_cursor.specs.declared.segment.Segment.{Segment}
use Rattle.rover_session.specs.Made.{segments_after}
use Rattle.session_calls.specs.Steps.{Step}
use Rattle.session_script.specs.declared.Event.{Event}
use Rattle.session_script.specs.declared.Event.TheVariants as events
use Rattle.session_script.specs.Numbers.{Numbers, no_numbers, is_among, opening, closing}
use Rattle.session_script.specs.Script as scripts
use Rattle.cast_config.specs.declared.config.Config.{Config}
use Rattle.session_model.specs.declared.ending.Ending.{Ending}
use Rattle.session_core.specs.declared.session.Session.{Session}
use Rattle.session_core.specs.declared.session_stage.SessionStage.{SessionStage}
use Rattle.session_core.specs.declared.session_stage.SessionStage.TheVariants as stages
use Rattle.session_model.specs.Headings.{Heading}
use Rattle.session_model.specs.Judged.{Opening, sends_head, relays, bare_source, bare_rover, Judged}
use Rattle.session_model.specs.Endings.{goes_on}
use Rattle.session_model.specs.Reports.{IsHeadingOf, AreHeadings, opened_if, opened_as}
use Rattle.session_model.specs.Run.{Histories, Connected, World, judged_of, is_concerned, is_opened, after_events}
use Rattle.session_core.specs.Standing.{IsAtStage, Stands}
use Rattle.session_core.specs.States.{state_in, state_at, rover_state}
use Rattle.caster_replay.specs.declared.run_connection.State.{State}
use Rattle.caster_replay.specs.declared.run_connection.State.TheVariants.{Open, Closed}
use Rattle.caster_replay.specs.RunConnections.{is_open_at, is_behind_by, is_behind_at}
use Rattle.caster_replay.specs.Going.{is_going, has_frames, is_behind, numbers_from, MaySpeak}
use Rattle.caster_replay.specs.Lives.{IsKept, Live, live_of}
use Rattle.caster_replay.specs.Runs.{is_cut, Runs, IsIncreasing}
use Rattle.caster_replay.proofs.WorldListLemmas.{above_at, none_above, apart_first, none_later}
use Rattle.caster_replay.proofs.WorldRunLemmas.{IsRunAt}
use Rattle.caster_replay.proofs.WorldRunnerLemmas.{said_of, nobody, there, IsFound, found, IsAbsent, absent_from}
use Rattle.caster_replay.proofs.WorldStepLemmas.{going_concerned}
use Rattle.caster_replay.proofs.PlayLemmas.{run_of}

-- ---- among connections in increasing order of number

or_false : (b : Bool) → (b || false) ≡ b
or_false true = refl
or_false false = refl

any_none : (p : Connected → Bool) (number : ℕ) (ds : List Connected)
    → ((d : Connected) → d.number ≢ number → p d ≡ false) → is_opened number ds ≡ false → list_any p ds ≡ false
any_none p number [] apart none = refl
any_none p number (d ∷ ds) apart none =
    ap (λ (b : Bool). b || list_any p ds) (apart d (apart_first number d ds none))
    ∙ any_none p number ds apart (none_later number d ds none)

any_at : (p : Connected → Bool) (number : ℕ) (ds : List Connected) (at : ℕ) (x : Connected)
    → ((d : Connected) → d.number ≢ number → p d ≡ false) → IsIncreasing ds → at < length ds
    → (get_or ds at x).number ≡ number → list_any p ds ≡ p (get_or ds at x)
any_at p number [] at x apart order within here = absurd (omega (arith, within))
any_at p number (d ∷ ds) zero x apart order within here =
    ap (λ (b : Bool). p d || b)
    (any_none p number ds apart (subst (λ (n : ℕ). is_opened n ds ≡ false) here (none_above d.number ds order.0)))
    ∙ or_false (p d)
any_at p number (d ∷ ds) (suc at) x apart order within here =
    let below : d.number < (get_or ds at x).number = above_at d.number ds at x order.0 (omega (arith, within)) in
    ap (λ (b : Bool). b || list_any p ds) (apart d (λ e. absurd (omega (arith, below, here, e))))
    ∙ any_at p number ds at x apart order.1 (omega (arith, within)) here

-- ---- a rover's frames

state_frames : (rings : List (History RingCall)) (version : Version) (segments : List Segment)
    → is_behind_by rings (state_in version segments) ≡ has_frames rings segments
state_frames rings version [] = refl
state_frames rings version (newest ∷ older) = refl

stage_frames : (rings : List (History RingCall)) (c : Config) (me : ℕ) (h : Histories) (o : Opening) (j : Judged)
    (text : List ℕ) (steps : List Step) (stage : SessionStage) → IsAtStage c me h o j text steps stage
    → is_behind_by rings (state_at None stage) ≡ has_frames rings (segments_after [] steps)
stage_frames rings c me h o j text steps (stages.Head head) s =
    ap (λ (l : List Step). has_frames rings (segments_after [] l)) (sym s.2)
stage_frames rings c me h o j text steps stages.Over s = ap (has_frames rings) (sym s.segments)
stage_frames rings c me h o j text steps (stages.Source mount session) s = ap (has_frames rings) (sym s.segments)
stage_frames rings c me h o j text steps (stages.Relay mount session) s = ap (has_frames rings) (sym s.segments)
stage_frames rings c me h o j text steps (stages.Rover account session) s =
    state_frames rings session.version session.segments
    ∙ ap (has_frames rings) s.stands.segments
    ∙ ap (λ (l : List Step). has_frames rings (segments_after [] l)) (sym s.steps_are)

session_frames : (rings : List (History RingCall)) (c : Config) (session : Session) (o : Opening) (text : List ℕ)
    (steps : List Step) (h : Histories) (sent : List ℕ) → Stands c session o text steps h sent → session.ended ≡ None
    → is_behind_by rings (rover_state session) ≡ has_frames rings (segments_after [] steps)
session_frames rings c session o text steps h sent s goes =
    ap (λ (e : Option Ending). is_behind_by rings (state_at e session.stage)) goes
    ∙ stage_frames rings c session.me h o _ text steps session.stage s.stage

-- ---- of a connection

pub going_apart : (c : Config) (headings : ℕ → Heading) (number : ℕ) (d : Connected) → d.number ≢ number
    → is_concerned c (headings d.number) number d ≡ false
going_apart c headings number d apart = rw (ne_eqb d.number number apart) refl

pub kept_going : (c : Config) (headings : ℕ → Heading) (number : ℕ) (now : Histories) (d : Connected) (state : State)
    (bytes rest : List ℕ) → IsKept c (headings d.number) now d state bytes
    → IsHeadingOf (Some d.opening) (d.text ++ rest) (headings d.number) → d.number ≡ number
    → is_concerned c (headings d.number) number d ≡ is_open_at state
kept_going c headings number now d (Open session) bytes rest kept said here =
    ap (λ (b : Bool). b && goes_on (judged_of c (headings d.number) d) d.steps d.closed) (eq-eqb d.number number here)
    ∙ going_concerned c (headings d.number) now d session bytes rest kept said
kept_going c headings number now d (Closed receipt) bytes rest kept said here =
    ap (λ (b : Bool). b && goes_on (judged_of c (headings d.number) d) d.steps d.closed) (eq-eqb d.number number here)
    ∙ kept.stops

kept_behind : (c : Config) (heading : Heading) (now : Histories) (d : Connected) (state : State) (bytes : List ℕ)
    → IsKept c heading now d state bytes
    → (is_open_at state && has_frames now.rings (segments_after [] d.steps)) ≡ is_behind_at now.rings state
kept_behind c heading now d (Open session) bytes kept =
    sym (session_frames now.rings c session d.opening d.text d.steps kept.histories bytes kept.stands kept.goes)
kept_behind c heading now d (Closed receipt) bytes kept = refl

-- ---- numbers

among_more : (n k : ℕ) (list : List ℕ) → is_among n list ≡ true → is_among n (list ++ k ∷ []) ≡ true
among_more n k [] is = absurd cc
among_more n k (x ∷ list) is =
    elim (cases_Bool (x == n)) [
      | inl same ↦ rw same refl
      | inr other ↦ rw other (among_more n k list (rw other at is))
    ]

among_last : (n k : ℕ) (list : List ℕ) → (k == n) ≡ true → is_among n (list ++ k ∷ []) ≡ true
among_last n k [] same = rw same refl
among_last n k (x ∷ list) same =
    elim (cases_Bool (x == n)) [
      | inl first ↦ rw first refl
      | inr other ↦ rw other (among_last n k list same)
    ]

among_apart : (n k : ℕ) (list : List ℕ) → (k == n) ≡ false → is_among n list ≡ false
    → is_among n (list ++ k ∷ []) ≡ false
among_apart n k [] other none = rw other refl
among_apart n k (x ∷ list) other none =
    elim (cases_Bool (x == n)) [
      | inl same ↦ absurd (false≢true (sym none ∙ rw same refl))
      | inr apart ↦ rw apart (among_apart n k list other (rw apart at none))
    ]

opened_after : (n : ℕ) (numbers : Numbers) (event : Event) → is_among n numbers.opened ≡ true
    → is_among n (scripts.after_event numbers event).opened ≡ true
opened_after n numbers (events.Source k mount) is = among_more n k numbers.opened is
opened_after n numbers (events.Rover k mount) is = among_more n k numbers.opened is
opened_after n numbers (events.Open k) is = among_more n k numbers.opened is
opened_after n numbers (events.Relay k relay) is = among_more n k numbers.opened is
opened_after n numbers (events.In k bytes) is = is
opened_after n numbers (events.Turn k budget) is = is
opened_after n numbers (events.Break k) is = is
opened_after n numbers (events.End k) is = is

opened_from : (n : ℕ) (numbers : Numbers) (script : List Event) → is_among n numbers.opened ≡ true
    → is_among n (numbers_from numbers script).opened ≡ true
opened_from n numbers [] is = is
opened_from n numbers (event ∷ later) is =
    opened_from n (scripts.after_event numbers event) later (opened_after n numbers event is)

opened_by : (n k : ℕ) (o first : Opening) (numbers next : Numbers) (later : List Event)
    → next.opened ≡ numbers.opened ++ k ∷ [] → opened_if (k == n) first (opened_as n later) ≡ Some o
    → (opened_as n later ≡ Some o → is_among n (numbers_from next later).opened ≡ true)
    → is_among n (numbers_from next later).opened ≡ true
opened_by n k o first numbers next later is some rest =
    elim (cases_Bool (k == n)) [
      | inl same ↦
          opened_from n next later (subst (λ (l : List ℕ). is_among n l ≡ true) (sym is)
          (among_last n k numbers.opened same))
      | inr other ↦ rest (ap (λ (b : Bool). opened_if b first (opened_as n later)) (sym other) ∙ some)
    ]

closed_by : (n k : ℕ) (numbers : Numbers) (later : List Event)
    → (if k == n then true else is_cut n later) ≡ false → is_among n numbers.closed ≡ false
    → (is_cut n later ≡ false → is_among n (closing numbers k).closed ≡ false
    → is_among n (numbers_from (closing numbers k) later).closed ≡ false)
    → is_among n (numbers_from (closing numbers k) later).closed ≡ false
closed_by n k numbers later uncut none rest =
    elim (cases_Bool (k == n)) [
      | inl same ↦ absurd (false≢true (sym uncut ∙ rw same refl))
      | inr other ↦ rest (rw other at uncut) (among_apart n k numbers.closed other none)
    ]

closed_now : (n : ℕ) (numbers : Numbers) (script : List Event) → is_cut n script ≡ false
    → is_among n numbers.closed ≡ false → is_among n (numbers_from numbers script).closed ≡ false
closed_now n numbers [] uncut none = none
closed_now n numbers (events.Open k ∷ later) uncut none = closed_now n (opening numbers k) later uncut none
closed_now n numbers (events.Source k mount ∷ later) uncut none = closed_now n (opening numbers k) later uncut none
closed_now n numbers (events.Rover k mount ∷ later) uncut none = closed_now n (opening numbers k) later uncut none
closed_now n numbers (events.Relay k relay ∷ later) uncut none = closed_now n (opening numbers k) later uncut none
closed_now n numbers (events.In k bytes ∷ later) uncut none = closed_now n numbers later uncut none
closed_now n numbers (events.Turn k budget ∷ later) uncut none = closed_now n numbers later uncut none
closed_now n numbers (events.Break k ∷ later) uncut none =
    closed_by n k numbers later uncut none (closed_now n (closing numbers k) later)
closed_now n numbers (events.End k ∷ later) uncut none =
    closed_by n k numbers later uncut none (closed_now n (closing numbers k) later)

opened_now : (n : ℕ) (numbers : Numbers) (script : List Event) (o : Opening) → opened_as n script ≡ Some o
    → is_among n (numbers_from numbers script).opened ≡ true
opened_now n numbers [] o some = absurd cc
opened_now n numbers (events.Open k ∷ later) o some =
    opened_by n k o sends_head numbers (opening numbers k) later refl some (opened_now n (opening numbers k) later o)
opened_now n numbers (events.Source k mount ∷ later) o some =
    opened_by n k o (bare_source mount) numbers (opening numbers k) later refl some
    (opened_now n (opening numbers k) later o)
opened_now n numbers (events.Rover k mount ∷ later) o some =
    opened_by n k o (bare_rover mount) numbers (opening numbers k) later refl some
    (opened_now n (opening numbers k) later o)
opened_now n numbers (events.Relay k relay ∷ later) o some =
    opened_by n k o (relays relay) numbers (opening numbers k) later refl some
    (opened_now n (opening numbers k) later o)
opened_now n numbers (events.In k bytes ∷ later) o some = opened_now n numbers later o some
opened_now n numbers (events.Turn k budget ∷ later) o some = opened_now n numbers later o some
opened_now n numbers (events.Break k ∷ later) o some = opened_now n (closing numbers k) later o some
opened_now n numbers (events.End k ∷ later) o some = opened_now n (closing numbers k) later o some

-- ---- of a run

module _ (c : Config) (script : List Event) (lives : List Live) (now : Histories) (run : Runs c script lives now)
    (headings : ℕ → Heading) (are : AreHeadings script headings) where
  abbrev w : World
  w = after_events c headings script

  longer : AreHeadings (script ++ []) headings
  longer = subst (λ (l : List Event). AreHeadings l headings) (sym (append-nil script)) are

  at_now : IsRunAt c headings w lives now
  at_now = (run_of c script lives now run).stands [] headings longer

  abbrev goes : ℕ → Connected → Bool
  goes number d = is_concerned c (headings d.number) number d

  abbrev lags : ℕ → Connected → Bool
  lags number d = goes number d && has_frames w.histories.rings (segments_after [] d.steps)

  lags_apart : (number : ℕ) (d : Connected) → d.number ≢ number → lags number d ≡ false
  lags_apart number d apart =
      ap (λ (b : Bool). b && has_frames w.histories.rings (segments_after [] d.steps))
      (going_apart c headings number d apart)

  pub going_missing : (number : ℕ) (y : Live) → IsAbsent number lives y → is_going c headings w number ≡ false
  going_missing number y absent =
      any_none (goes number) number w.connections (going_apart c headings number)
      (absent_from c headings w lives now number y at_now absent)

  pub behind_missing : (number : ℕ) (y : Live) → IsAbsent number lives y → is_behind c headings w number ≡ false
  behind_missing number y absent =
      any_none (lags number) number w.connections (lags_apart number)
      (absent_from c headings w lives now number y at_now absent)

  module _ (number at : ℕ) (y : Live) (state : State) (bytes : List ℕ) (within : at < length lives)
      (is : get_or lives at y ≡ live_of number state bytes) where
    f : IsFound c headings script now at number state bytes
    f = found c headings script lives now at y number state bytes (run.known headings) at_now within is

    one : is_concerned c (headings (there c headings script at).number) number (there c headings script at)
        ≡ is_open_at state
    one =
        let said = said_of c script [] headings (there c headings script at) longer f.known in
        kept_going c headings number now (there c headings script at) state bytes said.0 f.kept said.1 f.here

    pub going_found : is_going c headings w number ≡ is_open_at state
    going_found =
        any_at (goes number) number w.connections at nobody (going_apart c headings number) at_now.order f.within f.here
        ∙ one

    pub behind_found : is_behind c headings w number ≡ is_behind_at now.rings state
    behind_found =
        any_at (lags number) number w.connections at nobody (lags_apart number) at_now.order f.within f.here
        ∙ ap (λ (b : Bool). b && has_frames w.histories.rings
        (segments_after [] (there c headings script at).steps)) one
        ∙ ap (λ (h : Histories). is_open_at state && has_frames h.rings
        (segments_after [] (there c headings script at).steps)) at_now.histories
        ∙ kept_behind c (headings (there c headings script at).number) now (there c headings script at) state bytes
        f.kept

    goes_so : IsTrue (is_open_at state)
        → goes_on (judged_of c (headings (there c headings script at).number) (there c headings script at))
        (there c headings script at).steps (there c headings script at).closed ≡ true
    goes_so open_now =
        ap (λ (b : Bool). b && goes_on (judged_of c (headings (there c headings script at).number)
        (there c headings script at)) (there c headings script at).steps (there c headings script at).closed)
        (sym (eq-eqb (there c headings script at).number number f.here))
        ∙ one ∙ open_now

    -- its number was opened, and not closed since
    pub found_speaks : IsTrue (is_open_at state) → MaySpeak script number
    found_speaks open_now =
        let cut = (f.known.going (goes_so open_now)).1 in
        rw (
          subst (λ (n : ℕ). is_among n (numbers_from no_numbers script).opened ≡ true) f.here
              (opened_now (there c headings script at).number no_numbers script (there c headings script at).opening
              f.known.opened),
          subst (λ (n : ℕ). is_among n (numbers_from no_numbers script).closed ≡ false) f.here
              (closed_now (there c headings script at).number no_numbers script cut refl),
        ) refl
