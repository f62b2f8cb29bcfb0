-- What is kept of the connections of a run, while events are played, by whether the connection that
-- each event is about goes on.
use Rattle.std.proofs.Common.{◌≡◌, ◌∙◌, ◌<◌, ◌++◌, ◌+◌, ◌^◌, ℕ, Bool, true, false, List, [], ◌∷◌, length, length-append, get_or, set, refl, sym, ap, subst, inl, inr, arith, Option, None, Some}
use Rattle.std.specs.Prelude.{insert, is_some}
use Rattle.std.specs.List.{sum_by}
use Rattle.std.proofs.lemmas.List.{set-get_or, append-nil}
use Rattle.session_calls.specs.Steps.{Step}
use Rattle.session_script.specs.declared.Event.{Event}
use Rattle.session_script.specs.declared.Event.TheVariants as events
use Rattle.session_script.specs.Script.{input_length}
use Rattle.cast_config.specs.declared.config.Config.{Config}
use Rattle.session_model.specs.declared.ending.Ending.{Ending}
use Rattle.session_model.specs.declared.ending.Last.{Last}
use Rattle.session_model.specs.declared.ending.Last.TheVariants as lasts
use Rattle.session_model.specs.declared.report.Receipt.{Receipt}
use Rattle.session_core.specs.declared.session.Session.{Session}
use Rattle.session_model.specs.Headings.{incomplete}
use Rattle.session_model.specs.Judged.{Opening, bare_source, judged}
use Rattle.session_model.specs.Owed.{Came, came_to, Happening, arrives, takes_turn, ends}
use Rattle.session_model.specs.Replies.{opening_text}
use Rattle.session_model.specs.Run.{Histories}
use Rattle.session_model.specs.Called.{is_halt}
use Rattle.session_core.specs.Standing.{is_halted, StandsFor, Follows}
use Rattle.session_core.specs.Closed.{ending_by}
use Rattle.session_core.specs.Turned.{is_rover}
use Rattle.session_model.proofs.WellLemmas.{events_well}
use Rattle.caster_replay.specs.declared.run_connection.Act.{Act}
use Rattle.caster_replay.specs.declared.run_connection.Act.TheVariants as acts
use Rattle.caster_replay.specs.declared.run_connection.State.{State}
use Rattle.caster_replay.specs.declared.run_connection.State.TheVariants.{Open, Closed}
use Rattle.caster_replay.specs.Calls.{Feeds, TakesTurn, Closes, Opens}
use Rattle.caster_replay.specs.RunConnections.{MayGoOn, MayBeClosed, MayAct, FedAt, TurnedAt, ClosedAt, ActedAt, HasOpened, SettledBy, SettledAt, is_ended_at}
use Rattle.caster_replay.specs.Lives.{Live, live_of, place_of}
use Rattle.caster_replay.specs.Runs.{Runs}
use Rattle.caster_replay.specs.Scripts.{Acts}
use Rattle.session_core.proofs.FeedHeadLemmas.{others_none}
use Rattle.caster_replay.proofs.EntryLemmas.{about_of}
use Rattle.caster_replay.proofs.WorldKnownLemmas.{IsClean}
use Rattle.caster_replay.proofs.WorldRunnerLemmas.{IsRun, IsAbout, IsAbsent, about_in, about_turn, run_fed, run_fed_over, run_turned, run_bystander, run_closed, run_skipped, run_absent}
use Rattle.caster_replay.proofs.WorldReportLemmas.{IsOpening, run_opens, run_opens_over, run_again}
use Rattle.caster_replay.proofs.WorldSessionLemmas.{session_goes, session_follows, fed_so, fed_adds, turned_adds}

-- ---- the run, with what its histories are besides

pub run_of : (c : Config) (script : List Event) (lives : List Live) (now : Histories) → Runs c script lives now
    → IsRun c script lives now
run_of c script lives now r = record {
  known = r.known;
  has = r.has;
  stands = λ more headings are.
      let s = r.stands more headings are in
      record { histories = s.histories; order = s.order; well = events_well c headings script; each = s.each };
}

pub runs_of : (c : Config) (script : List Event) (lives : List Live) (now : Histories) → IsRun c script lives now
    → Runs c script lives now
runs_of c script lives now r = record {
  known = r.known;
  has = r.has;
  stands = λ more headings are.
      let s = r.stands more headings are in
      record { histories = s.histories; order = s.order; each = s.each };
}

-- ---- answers

-- one that was closed because it had ended, and one that had not
settled_some : (ended : Option Ending) (c : Config) (old now : Histories) (before after : State)
    → is_some ended ≡ true → ClosedAt c old now lasts.End before after → SettledBy ended c old now before after
settled_some None c old now before after over closed = absurd cc
settled_some (Some end) c old now before after over closed = closed

pub settled_closed : (c : Config) (old now : Histories) (before after : State) → is_ended_at before ≡ true
    → ClosedAt c old now lasts.End before after → SettledAt c old now before after
settled_closed c old now (Open session) after over closed =
    settled_some session.ended c old now (Open session) after over closed
settled_closed c old now (Closed receipt) after over closed = absurd cc

settled_none : (ended : Option Ending) (c : Config) (old : Histories) (before : State) → is_some ended ≡ false
    → SettledBy ended c old old before before
settled_none None c old before on = (refl, refl)
settled_none (Some end) c old before on = absurd cc

pub settled_same : (c : Config) (old : Histories) (before : State) → is_ended_at before ≡ false
    → SettledAt c old old before before
settled_same c old (Open session) on = settled_none session.ended c old (Open session) on
settled_same c old (Closed receipt) on = (refl, refl)

-- one that was fed may be closed
follows_fed : (c : Config) (old now : Histories) (session next : Session) (text before after : List ℕ)
    → Follows c session old (length text) → Feeds c old now session next text before after → Follows c next now 0
follows_fed c old now session next text before after (o, so_far, steps, h, sent, stands, others, few) feeds =
    let fed = feeds o so_far steps h sent stands others in (
      o,
      so_far ++ text,
      steps ++ fed.more,
      now,
      sent ++ fed.added,
      fed.stands,
      others_none now next.me,
      omega (arith, few, length-append so_far text),
    )

pub may_close_fed : (c : Config) (old now : Histories) (state after : State) (text sent sent_after : List ℕ)
    → MayGoOn c old (length text) state → FedAt c old now state after text sent sent_after → MayBeClosed c now after
may_close_fed c old now (Open session) after text sent sent_after may fed =
    subst (λ (s : State). MayBeClosed c now s) (sym fed.1)
    (follows_fed c old now session fed.0 text sent sent_after may.1 fed.3)
may_close_fed c old now (Closed receipt) after text sent sent_after may fed =
    subst (λ (s : State). MayBeClosed c now s) (sym fed.0) tt

-- ---- a session whose receipt tells of no halt was not halted

ending_so : (c : Config) (mid now : Histories) (next : Session) (last : Last) (receipt : Receipt) (o : Opening)
    (text : List ℕ) (steps : List Step) (sent : List ℕ) → StandsFor c next o text steps mid sent
    → Closes c mid now next last receipt
    → (came : Came) × (receipt.ending ≡ ending_by next.ended last came)
ending_so c mid now next last receipt o text steps sent (inl s) closes =
    let closed = closes o s.heading text steps mid sent s.is_heading (inl s) (others_none mid next.me) in
    (came_to (judged c o s.heading text) steps, closed.receipt_is.ending)
ending_so c mid now next last receipt o text steps sent (inr lost) closes =
    let closed = closes (bare_source []) incomplete [] [] mid (opening_text c (bare_source [])) refl
    (inr (record { ended = lost.ended; stage = lost.stage; uncalled = refl; unsent = refl }))
    (others_none mid next.me) in
    (came_to (judged c (bare_source []) incomplete []) [], closed.receipt_is.ending)

-- ---- what stays

put_same : (lives : List Live) (at : ℕ) (y new : Live) → get_or lives at y ≡ new → lives ≡ set lives at new
put_same lives at y new same = sym (set-get_or lives at y) ∙ ap (set lives at) same

not_halted : (c : Config) (mid now : Histories) (next : Session) (last : Last) (receipt : Receipt) (end : Ending)
    (o : Opening) (text : List ℕ) (steps : List Step) (sent : List ℕ) → StandsFor c next o text steps mid sent
    → Closes c mid now next last receipt → next.ended ≡ Some end → is_halt receipt.ending ≡ false
    → is_halted next.ended ≡ false
not_halted c mid now next last receipt end o text steps sent stands closes over goes =
    let so = ending_so c mid now next last receipt o text steps sent stands closes in
    let same : receipt.ending ≡ end =
    so.1 ∙ ap (λ (e : Option Ending). ending_by e last so.0) over in
    ap is_halted over ∙ ap is_halt (sym same) ∙ goes

-- ---- what may happen

module _ (c : Config) (script : List Event) (lives : List Live) (old : Histories) (number at : ℕ) (y : Live)
    (before : List ℕ) (run : Runs c script lives old) (within : at < length lives) where
  pub may_go_on : (more : ℕ) (state : State) → get_or lives at y ≡ live_of number state before
      → sum_by input_length script + more < 2 ^ 63 → MayGoOn c old more state
  may_go_on more (Open session) is few = (
    session_goes c script lives old number at y session before (run_of c script lives old run) within is,
    session_follows c script lives old number at y session before (run_of c script lives old run) within is more few,
  )
  may_go_on more (Closed receipt) is few = tt

  pub may_close : (state : State) → get_or lives at y ≡ live_of number state before
      → sum_by input_length script < 2 ^ 63 → MayBeClosed c old state
  may_close (Open session) is few =
      session_follows c script lives old number at y session before (run_of c script lives old run) within is 0
      (omega (arith, few))
  may_close (Closed receipt) is few = tt

  -- what happens to it
  pub may_apply : (event : Event) (act : Act) (state : State) → Acts event number act
      → get_or lives at y ≡ live_of number state before
      → sum_by input_length script + input_length event < 2 ^ 63 → MayAct c old act state
  may_apply event (acts.In text) state so is room =
      may_go_on (length text.now) state is
      (subst (λ (e : Event). sum_by input_length script + input_length e < 2 ^ 63) so room)
  may_apply event (acts.Turn budget) state so is room = may_go_on 0 state is (omega (arith, room))
  may_apply event (acts.Close last) state so is room = may_close state is (omega (arith, room))

  -- ---- bytes that came in

  -- it goes on, or ended by them and was closed
  fed_then : (ended : Option Ending) (mid now : Histories) (session next : Session) (after : State)
      (text sent : List ℕ) → next.ended ≡ ended → get_or lives at y ≡ live_of number (Open session) before
      → next.me ≡ session.me → Feeds c old mid session next text before sent
      → SettledBy ended c mid now (Open next) after
      → Runs c (script ++ events.In number text ∷ []) (set lives at (live_of number after sent)) now
  fed_then None mid now session next after text sent goes is me feeds settled =
      subst (λ (s : State). Runs c (script ++ events.In number text ∷ []) (set lives at (live_of number s sent)) now)
      (sym settled.0)
      (subst (λ (h : Histories). Runs c (script ++ events.In number text ∷ [])
      (set lives at (live_of number (Open next) sent)) h) (sym settled.1)
      (runs_of c (script ++ events.In number text ∷ []) (set lives at (live_of number (Open next) sent)) mid
      (run_fed c script lives old mid number at y session next text before sent (run_of c script lives old run) within
      is feeds me goes)))
  fed_then (Some end) mid now session next after text sent over is me feeds settled =
      let so = fed_so c script lives old number at y session before (run_of c script lives old run) within is mid next
      text sent feeds in
      subst (λ (s : State). Runs c (script ++ events.In number text ∷ []) (set lives at (live_of number s sent)) now)
      (sym settled.1)
      (runs_of c (script ++ events.In number text ∷ []) (set lives at (live_of number (Closed settled.0) sent)) now
      (run_fed_over c script lives old mid now number at y session next end settled.0 text before sent
      (run_of c script lives old run) within is feeds me over
      (not_halted c mid now next lasts.End settled.0 end so.0 so.1 so.2 so.3 so.4 settled.4 over settled.3)
      settled.4 settled.2))

  pub play_fed : (mid now : Histories) (state between after : State) (text sent : List ℕ)
      → get_or lives at y ≡ live_of number state before → FedAt c old mid state between text before sent
      → SettledAt c mid now between after
      → Runs c (script ++ events.In number text ∷ []) (set lives at (live_of number after sent)) now
  play_fed mid now (Open session) between after text sent is fed settled =
      let next : Session = fed.0 in
      fed_then next.ended mid now session next after text sent refl is fed.2 fed.3
      (subst (λ (s : State). SettledAt c mid now s after) fed.1 settled)
  play_fed mid now (Closed receipt) between after text sent is fed settled =
      let by : SettledAt c mid now (Closed receipt) after =
      subst (λ (s : State). SettledAt c mid now s after) fed.0 settled in
      subst (λ (l : List Live). Runs c (script ++ events.In number text ∷ []) l now)
      (put_same lives at y (live_of number after sent)
      (is ∙ ap (λ (s : State). live_of number s before) (sym by.0) ∙ ap (live_of number after) (sym fed.2)))
      (subst (λ (h : Histories). Runs c (script ++ events.In number text ∷ []) lives h) (sym (by.1 ∙ fed.1))
      (runs_of c (script ++ events.In number text ∷ []) lives old
      (run_skipped c script (events.In number text) lives old number (arrives text) at y receipt before
      (about_in number text) (run_of c script lives old run) within is)))

  -- it was sent more
  pub fed_more : (now : Histories) (state after : State) (text sent : List ℕ)
      → get_or lives at y ≡ live_of number state before → FedAt c old now state after text before sent
      → (more : List ℕ) × (sent ≡ before ++ more)
  fed_more now (Open session) after text sent is fed =
      fed_adds c script lives old number at y session before (run_of c script lives old run) within is now fed.0 text
      sent
      fed.3
  fed_more now (Closed receipt) after text sent is fed = ([], fed.2 ∙ sym (append-nil before))

  pub turned_more : (now : Histories) (state after : State) (budget : ℕ) (sent : List ℕ)
      → get_or lives at y ≡ live_of number state before → TurnedAt c old now state after budget before sent
      → (more : List ℕ) × (sent ≡ before ++ more)
  turned_more now (Open session) after budget sent is turned =
      turned_adds c script lives old number at y session before (run_of c script lives old run) within is now turned.0
      budget sent (is_rover session.stage) refl turned.4
  turned_more now (Closed receipt) after budget sent is turned = ([], turned.2 ∙ sym (append-nil before))

  -- ---- a turn

  turned_if : (rover : Bool) (now : Histories) (session next : Session) (budget : ℕ) (sent : List ℕ)
      → is_rover session.stage ≡ rover → get_or lives at y ≡ live_of number (Open session) before
      → TakesTurn c old now session next budget before sent → next.me ≡ session.me → next.ended ≡ None
      → Runs c (script ++ events.Turn number budget ∷ []) (set lives at (live_of number (Open next) sent)) now
  turned_if true now session next budget sent rover is turned me on =
      runs_of c (script ++ events.Turn number budget ∷ []) (set lives at (live_of number (Open next) sent)) now
      (run_turned c script lives old now number budget at y session next before sent (run_of c script lives old run)
      within is turned rover me on)
  turned_if false now session next budget sent apart is turned me on =
      let still = turned.1 apart in
      subst (λ (s : Session). Runs c (script ++ events.Turn number budget ∷ [])
      (set lives at (live_of number (Open s) sent)) now) (sym still.0)
      (subst (λ (l : List ℕ). Runs c (script ++ events.Turn number budget ∷ [])
      (set lives at (live_of number (Open session) l)) now) (sym still.2)
      (subst (λ (h : Histories). Runs c (script ++ events.Turn number budget ∷ [])
      (set lives at (live_of number (Open session) before)) h) (sym still.1)
      (runs_of c (script ++ events.Turn number budget ∷ []) (set lives at (live_of number (Open session) before)) old
      (run_bystander c script lives old number budget at y session before (run_of c script lives old run) within is
      apart))))

  pub play_turned : (now : Histories) (state after : State) (budget : ℕ) (sent : List ℕ)
      → get_or lives at y ≡ live_of number state before → TurnedAt c old now state after budget before sent
      → Runs c (script ++ events.Turn number budget ∷ []) (set lives at (live_of number after sent)) now
  play_turned now (Open session) after budget sent is turned =
      subst (λ (s : State). Runs c (script ++ events.Turn number budget ∷ []) (set lives at (live_of number s sent))
      now)
      (sym turned.1)
      (turned_if (is_rover session.stage) now session turned.0 budget sent refl is turned.4 turned.2 turned.3)
  play_turned now (Closed receipt) after budget sent is turned =
      subst (λ (l : List Live). Runs c (script ++ events.Turn number budget ∷ []) l now)
      (put_same lives at y (live_of number after sent)
      (is ∙ ap (λ (s : State). live_of number s before) (sym turned.0)
      ∙ ap (live_of number after) (sym turned.2)))
      (subst (λ (h : Histories). Runs c (script ++ events.Turn number budget ∷ []) lives h) (sym turned.1)
      (runs_of c (script ++ events.Turn number budget ∷ []) lives old
      (run_skipped c script (events.Turn number budget) lives old number (takes_turn budget) at y receipt before
      (about_turn number budget) (run_of c script lives old run) within is)))

  -- ---- an end

  pub play_closed : (event : Event) (last : Last) (now : Histories) (state after : State)
      → IsAbout event number (ends last) → get_or lives at y ≡ live_of number state before
      → ClosedAt c old now last state after
      → Runs c (script ++ event ∷ []) (set lives at (live_of number after before)) now
  play_closed event last now (Open session) after about is closed =
      subst (λ (s : State). Runs c (script ++ event ∷ []) (set lives at (live_of number s before)) now)
      (sym closed.1)
      (runs_of c (script ++ event ∷ []) (set lives at (live_of number (Closed closed.0) before)) now
      (run_closed c script event lives old now number last at y session closed.0 before about
      (run_of c script lives old run) within is closed.4 closed.2))
  play_closed event last now (Closed receipt) after about is closed =
      subst (λ (l : List Live). Runs c (script ++ event ∷ []) l now)
      (put_same lives at y (live_of number after before)
      (is ∙ ap (λ (s : State). live_of number s before) (sym closed.0)))
      (subst (λ (h : Histories). Runs c (script ++ event ∷ []) lives h) (sym closed.1)
      (runs_of c (script ++ event ∷ []) lives old
      (run_skipped c script event lives old number (ends last) at y receipt before about (run_of c script lives old run)
      within is)))

  -- ---- any of these

  pub play_applied : (event : Event) (act : Act) (now : Histories) (state after : State) (sent : List ℕ)
      → Acts event number act → get_or lives at y ≡ live_of number state before
      → ActedAt c old now act state after before sent
      → Runs c (script ++ event ∷ []) (set lives at (live_of number after sent)) now
  play_applied event (acts.In text) now state after sent so is acted =
      subst (λ (e : Event). Runs c (script ++ e ∷ []) (set lives at (live_of number after sent)) now) (sym so)
      (play_fed acted.mid now state acted.between after text.now sent is acted.fed acted.settled)
  play_applied event (acts.Turn budget) now state after sent so is acted =
      subst (λ (e : Event). Runs c (script ++ e ∷ []) (set lives at (live_of number after sent)) now) (sym so)
      (play_turned now state after budget sent is acted)
  play_applied event (acts.Close last) now state after sent so is acted =
      subst (λ (b : List ℕ). Runs c (script ++ event ∷ []) (set lives at (live_of number after b)) now) (sym acted.1)
      (play_closed event last now state after (about_of event number last so) is acted.0)

  -- ---- a number that was opened before

  pub play_again : (event : Event) (o : Opening) (state : State) → IsOpening event number o
      → get_or lives at y ≡ live_of number state before → Runs c (script ++ event ∷ []) lives old
  play_again event o state opening is =
      runs_of c (script ++ event ∷ []) lives old
      (run_again c script event lives old number o at y state before opening (run_of c script lives old run) within is)

-- ---- a connection that opens

pub may_close_opened : (c : Config) (old mid : Histories) (number : ℕ) (o : Opening) (state : State) (bytes : List ℕ)
    → HasOpened c old mid number o state bytes → MayBeClosed c mid state
may_close_opened c old mid number o (Open session) bytes opened = (
  o,
  [],
  opened.1.more,
  mid,
  opened.1.added,
  opened.1.stands,
  others_none mid session.me,
  omega arith,
)
may_close_opened c old mid number o (Closed receipt) bytes opened = tt

settled_runs : (ended : Option Ending) (c : Config) (script : List Event) (event : Event) (lives : List Live)
    (old mid now : Histories) (number : ℕ) (o : Opening) (y : Live) (session : Session) (after : State)
    (bytes : List ℕ) → session.ended ≡ ended → IsOpening event number o → Runs c script lives old
    → IsAbsent number lives y → IsClean number script → session.me ≡ number → Opens c old mid session o bytes
    → SettledBy ended c mid now (Open session) after
    → IsRun c (script ++ event ∷ []) (insert lives (place_of number lives) (live_of number after bytes)) now
settled_runs None c script event lives old mid now number o y session after bytes none opening run absent clean me opens
    settled =
    subst (λ (s : State). IsRun c (script ++ event ∷ []) (insert lives (place_of number lives) (live_of number s bytes))
    now) (sym settled.0)
    (subst (λ (h : Histories). IsRun c (script ++ event ∷ []) (insert lives (place_of number lives)
    (live_of number (Open session) bytes)) h) (sym settled.1)
    (run_opens c script event lives old mid number o y session bytes opening (run_of c script lives old run) absent
    clean
    opens me none))
settled_runs (Some end) c script event lives old mid now number o y session after bytes over opening run absent clean me
    opens settled =
    subst (λ (s : State). IsRun c (script ++ event ∷ []) (insert lives (place_of number lives) (live_of number s bytes))
    now) (sym settled.1)
    (run_opens_over c script event lives old mid now number o y session end settled.0 bytes opening
    (run_of c script lives old run) absent clean opens me over
    (not_halted c mid now session lasts.End settled.0 end o [] opens.more opens.added opens.stands settled.4 over
    settled.3)
    settled.4 settled.2)

pub play_opened : (c : Config) (script : List Event) (event : Event) (lives : List Live) (old mid now : Histories)
    (number : ℕ) (o : Opening) (y : Live) (state after : State) (bytes : List ℕ) → IsOpening event number o
    → Runs c script lives old → IsAbsent number lives y → IsClean number script
    → HasOpened c old mid number o state bytes → SettledAt c mid now state after
    → Runs c (script ++ event ∷ []) (insert lives (place_of number lives) (live_of number after bytes)) now
play_opened c script event lives old mid now number o y (Open session) after bytes opening run absent clean opened
    settled =
    runs_of c (script ++ event ∷ []) (insert lives (place_of number lives) (live_of number after bytes)) now
    (settled_runs session.ended c script event lives old mid now number o y session after bytes refl opening run absent
    clean opened.0 opened.1 settled)
play_opened c script event lives old mid now number o y (Closed receipt) after bytes opening run absent clean opened
    settled = absurd opened

-- ---- a number that stands nowhere

pub play_absent : (c : Config) (script : List Event) (event : Event) (lives : List Live) (now : Histories) (number : ℕ)
    (what : Happening) (y : Live) → IsAbout event number what → Runs c script lives now → IsAbsent number lives y
    → Runs c (script ++ event ∷ []) lives now
play_absent c script event lives now number what y about run absent =
    runs_of c (script ++ event ∷ []) lives now
    (run_absent c script event lives now number what y about (run_of c script lives now run) absent)
