-- Connections that open in a recorded run, those that are closed at its end, and its report.
use Rattle.std.proofs.Common.{◌≡◌, ◌∙◌, ◌<◌, ◌++◌, ◌+◌, ℕ, zero, suc, Bool, true, false, List, [], ◌∷◌, length, map, fold, get_or, set, take, cond, append_assoc, refl, sym, ap, subst, arith, Option, None, Some}
use Rattle.std.specs.Prelude.{insert, ◌==◌}
use Rattle.std.proofs.lemmas.List.Sums.{fold-append}
use Rattle.std.proofs.lemmas.List.Elements.{All-nil}
use Rattle.std.proofs.lemmas.List.{append-nil}
use Rattle.session_script.specs.declared.Event.{Event}
use Rattle.session_script.specs.declared.Event.TheVariants as events
use Rattle.cast_config.specs.declared.config.Config.{Config}
use Rattle.session_model.specs.declared.ending.Ending.{Ending}
use Rattle.session_model.specs.declared.ending.Last.TheVariants as lasts
use Rattle.session_model.specs.declared.report.Closed as totals
use Rattle.session_model.specs.declared.report.Connection.{Connection}
use Rattle.session_model.specs.declared.report.Receipt.{Receipt}
use Rattle.session_model.specs.declared.report.Report.{Report}
use Rattle.session_core.specs.declared.session.Session.{Session}
use Rattle.session_model.specs.Headings.{Heading}
use Rattle.session_model.specs.Judged.{Opening, sends_head, relays, bare_source, bare_rover}
use Rattle.session_model.specs.Owed.{Happening, arrives, ends}
use Rattle.session_model.specs.Reports.{IsHeadingOf, AreHeadings, opened_as, bytes_to, told_of, closed_of, world_report, IsReport}
use Rattle.session_model.specs.Run.{Histories, Connected, World, fresh, happens, happens_in, is_concerned, opens, is_opened, after_event, after_events, closes, world}
use Rattle.session_core.specs.Standing.{is_halted, StandsFor}
use Rattle.session_model.proofs.KeepLemmas.{AreFrames}
use Rattle.caster_replay.specs.Lives.{Live, live_of, IsLive, place_of, end_of, AreTold}
use Rattle.caster_replay.specs.Runs.{is_cut, AreKnown, Pairs}
use Rattle.caster_replay.specs.Calls.{Opens, Closes}
use Rattle.caster_replay.specs.declared.run_connection.State.{State}
use Rattle.caster_replay.specs.declared.run_connection.State.TheVariants.{Open, Closed}
use Rattle.caster_replay.proofs.WorldHeadingLemmas.{or_later, opened-append, opened_stays, unless_cut, bytes-append}
use Rattle.session_core.proofs.FeedHeadLemmas.{others_none}
use Rattle.caster_replay.proofs.WorldListLemmas.{was_opened, moved_by}
use Rattle.caster_replay.proofs.WorldEventLemmas.{Becomes, stands_so, feed_goes, feed_ends, opened_fed}
use Rattle.caster_replay.proofs.WorldRunLemmas.{IsRunAt, run_opened, run_reopened, run_told}
use Rattle.caster_replay.proofs.WorldKnownLemmas.{Starts, IsClean, bytes_same, none_counts, number_by, known_opened, starts_open, starts_relay, starts_source, starts_rover}
use Rattle.caster_replay.proofs.WorldRunnerLemmas.{IsRun, headings_of, after_one, headings_now, are_now, no_later, has_one, nobody, there, found, IsAbsent, absent_from}

-- ---- a connection opens

pub record IsOpening (event : Event) (number : ℕ) (o : Opening) : Type 0 where
  pub starts : Starts event number o
  pub is : (c : Config) (headings : ℕ → Heading) (w : World)
      → after_event c headings w event ≡ opens c headings w number o

pub opening_head : (k : ℕ) → IsOpening (events.Open k) k sends_head
opening_head k = record { starts = starts_open k; is = λ c headings w. refl }

pub opening_relay : (k relay : ℕ) → IsOpening (events.Relay k relay) k (relays relay)
opening_relay k relay = record { starts = starts_relay k relay; is = λ c headings w. refl }

pub opening_source : (k : ℕ) (mount : List ℕ) → IsOpening (events.Source k mount) k (bare_source mount)
opening_source k mount = record { starts = starts_source k mount; is = λ c headings w. refl }

pub opening_rover : (k : ℕ) (mount : List ℕ) → IsOpening (events.Rover k mount) k (bare_rover mount)
opening_rover k mount = record { starts = starts_rover k mount; is = λ c headings w. refl }

known_opens : (c : Config) (script : List Event) (event : Event) (number : ℕ) (o : Opening) (headings : ℕ → Heading)
    → IsOpening event number o → IsClean number script → AreKnown c headings script (after_events c headings script)
    → AreKnown c headings (script ++ event ∷ []) (after_events c headings (script ++ event ∷ []))
known_opens c script event number o headings opening clean known =
    let w = after_events c headings script in
    subst (AreKnown c headings (script ++ event ∷ []))
    (sym (after_one c headings script event ∙ opening.is c headings w))
    (known_opened (is_opened number w.connections) c headings script event number o w refl opening.starts clean known)

-- nothing came on a connection that just opened
opened_now : (script : List Event) (event : Event) (number : ℕ) (o : Opening) → Starts event number o
    → opened_as number script ≡ None → opened_as number (script ++ event ∷ []) ≡ Some o
opened_now script event number o starts none =
    opened-append number script (event ∷ [])
    ∙ ap (λ (x : Option Opening). or_later x (opened_as number (event ∷ []))) none ∙ starts.here

run_begun : (c : Config) (script : List Event) (event : Event) (lives : List Live) (old now : Histories) (number : ℕ)
    (o : Opening) (y : Live) (state : State) (bytes : List ℕ) → IsOpening event number o → IsRun c script lives old
    → IsAbsent number lives y → IsClean number script
    → (heading : Heading) × IsHeadingOf (Some o) [] heading
    → ((headings : ℕ → Heading) → (rest : List ℕ) × IsHeadingOf (Some o) rest (headings number)
    → Becomes c (headings number) old now (fresh number o) (arrives []) state bytes)
    → IsRun c (script ++ event ∷ []) (insert lives (place_of number lives) (live_of number state bytes)) now
run_begun c script event lives old now number o y state bytes opening run absent clean new becomes =
    let first = headings_now script run.has in
    let none : opened_as number script ≡ None =
    (run.known first).none number (absent_from c first (after_events c first script) lives old number y
    (run.stands [] first (are_now script run.has)) absent) in
    let opened : opened_as number (script ++ event ∷ []) ≡ Some o = opened_now script event number o opening.starts
    none in
    let empty : bytes_to number (script ++ event ∷ []) ≡ [] =
    bytes_same number script event (opening.starts.silent number).0 ∙ (clean none).0 in
    record {
      known = λ headings. known_opens c script event number o headings opening clean (run.known headings);
      has = has_one script event number run.has
          (λ n apart. ((opening.starts.silent n).0, opening.starts.apart n apart)) (
            new.0,
            subst (λ (x : Option Opening). IsHeadingOf x (bytes_to number (script ++ event ∷ [])) new.0) (sym opened)
                (subst (λ (l : List ℕ). IsHeadingOf (Some o) l new.0) (sym empty) new.1),
          );
      stands = λ more headings are.
          let before_it = run.stands (event ∷ more) headings (headings_of script event more headings are) in
          let w = after_events c headings script in
          let said : IsHeadingOf (Some o) (bytes_to number ((script ++ event ∷ []) ++ more)) (headings number) =
          subst (λ (x : Option Opening). IsHeadingOf x (bytes_to number ((script ++ event ∷ []) ++ more))
          (headings number)) (opened_stays number o (script ++ event ∷ []) more opened) (are number) in
          subst (λ (now_w : World). IsRunAt c headings now_w (insert lives (place_of number lives)
          (live_of number state bytes)) now)
          (sym (after_one c headings script event ∙ opening.is c headings w))
          (run_opened c headings w lives old now number o state bytes before_it
          (absent_from c headings w lives old number y before_it absent)
          (becomes headings (bytes_to number ((script ++ event ∷ []) ++ more), said)));
    }

-- of one that has called nothing yet
pub opens_quiet : (c : Config) (h : Histories) (session : Session) (o : Opening) (sent : List ℕ)
    → StandsFor c session o [] [] h sent → Opens c h h session o sent
opens_quiet c h session o sent stands = opened_fed c h session o sent stands

pub run_opens : (c : Config) (script : List Event) (event : Event) (lives : List Live) (old now : Histories)
    (number : ℕ) (o : Opening) (y : Live) (session : Session) (bytes : List ℕ) → IsOpening event number o
    → IsRun c script lives old → IsAbsent number lives y → IsClean number script
    → Opens c old now session o bytes → session.me ≡ number → session.ended ≡ None
    → IsRun c (script ++ event ∷ []) (insert lives (place_of number lives) (live_of number (Open session) bytes)) now
run_opens c script event lives old now number o y session bytes opening run absent clean fed me on =
    let s = stands_so c session o [] fed.more now fed.added fed.stands (ap is_halted on) in
    run_begun c script event lives old now number o y (Open session) bytes opening run absent clean
    (s.heading, s.is_heading)
    (λ headings said.
    feed_goes c (headings number) old now (fresh number o) [] session [] bytes said.0 fed fed.no_read me
    (ap is_halted on)
    said.1 refl on)

-- one that ended by itself as it opened, and was closed at once
pub run_opens_over : (c : Config) (script : List Event) (event : Event) (lives : List Live) (old mid now : Histories)
    (number : ℕ) (o : Opening) (y : Live) (session : Session) (end : Ending) (receipt : Receipt) (bytes : List ℕ)
    → IsOpening event number o → IsRun c script lives old → IsAbsent number lives y → IsClean number script
    → Opens c old mid session o bytes → session.me ≡ number → session.ended ≡ Some end
    → is_halted session.ended ≡ false → Closes c mid now session lasts.End receipt → receipt.settled ≡ true
    → IsRun c (script ++ event ∷ []) (insert lives (place_of number lives) (live_of number (Closed receipt) bytes)) now
run_opens_over c script event lives old mid now number o y session end receipt bytes opening run absent clean fed me
    over goes closing settled =
    let s = stands_so c session o [] fed.more mid fed.added fed.stands goes in
    let first = headings_now script run.has in
    let before_it = run.stands [] first (are_now script run.has) in
    let frames : AreFrames old.rings =
    subst (λ (h : Histories). AreFrames h.rings) before_it.histories before_it.well.frames in
    run_begun c script event lives old now number o y (Closed receipt) bytes opening run absent clean
    (s.heading, s.is_heading)
    (λ headings said.
    feed_ends c (headings number) old mid (fresh number o) [] session [] bytes said.0 fed fed.no_read me goes said.1
    now end receipt refl over frames (All-nil _)
    (λ h is_h. closing o h [] fed.more mid fed.added is_h fed.stands (others_none mid session.me))
    settled)

-- a number that was opened before
pub run_again : (c : Config) (script : List Event) (event : Event) (lives : List Live) (now : Histories) (number : ℕ)
    (o : Opening) (at : ℕ) (y : Live) (state : State) (bytes : List ℕ) → IsOpening event number o
    → IsRun c script lives now → at < length lives → get_or lives at y ≡ live_of number state bytes
    → IsRun c (script ++ event ∷ []) lives now
run_again c script event lives now number o at y state bytes opening run within is =
    let first = headings_now script run.has in
    let g = found c first script lives now at y number state bytes (run.known first)
    (run.stands [] first (are_now script run.has)) within is in
    let e : Connected = there c first script at in
    let was : opened_as number script ≡ Some e.opening =
    ap (λ (n : ℕ). opened_as n script) (sym g.here) ∙ g.known.opened in
    let clean : IsClean number script = λ none. absurd cc in
    record {
      known = λ headings. known_opens c script event number o headings opening clean (run.known headings);
      has = has_one script event number run.has
          (λ n apart. ((opening.starts.silent n).0, opening.starts.apart n apart)) (
            first number,
            subst (λ (x : Option Opening). IsHeadingOf x (bytes_to number (script ++ event ∷ [])) (first number))
                (was ∙ sym (opened_stays number e.opening script (event ∷ []) was))
                (subst (λ (l : List ℕ). IsHeadingOf (opened_as number script) l (first number))
                (sym (bytes_same number script event (opening.starts.silent number).0)) (run.has number).1),
          );
      stands = λ more headings are.
          let before_it = run.stands (event ∷ more) headings (headings_of script event more headings are) in
          let w = after_events c headings script in
          let f = found c headings script lives now at y number state bytes (run.known headings) before_it within is in
          subst (λ (now_w : World). IsRunAt c headings now_w lives now)
          (sym (after_one c headings script event ∙ opening.is c headings w))
          (run_reopened c headings w lives now number o before_it
          (was_opened number w.connections at nobody f.within f.here));
    }

-- ---- the end of the run

ends_open_none : (n : ℕ) (lives : List Live) → opened_as n (map end_of lives) ≡ None
ends_open_none n [] = refl
ends_open_none n (live ∷ lives) = ends_open_none n lives

ends_bring_if : (b : Bool) (bytes : List ℕ) → bytes ≡ [] → cond b [] bytes ≡ []
ends_bring_if true bytes none = refl
ends_bring_if false bytes none = none

ends_bring_none : (n : ℕ) (lives : List Live) → bytes_to n (map end_of lives) ≡ []
ends_bring_none n [] = refl
ends_bring_none n (live ∷ lives) = ends_bring_if (live.number == n) (bytes_to n (map end_of lives))
    (ends_bring_none n lives)

-- the headings are those of the script
headings_same : (script : List Event) (lives : List Live) (headings : ℕ → Heading)
    → AreHeadings (script ++ map end_of lives) headings → AreHeadings script headings
headings_same script lives headings are n =
    let opened : opened_as n (script ++ map end_of lives) ≡ opened_as n script =
    opened-append n script (map end_of lives) ∙ ap (or_later (opened_as n script)) (ends_open_none n lives)
    ∙ no_later (opened_as n script) in
    let bytes : bytes_to n (script ++ map end_of lives) ≡ bytes_to n script =
    bytes-append n script (map end_of lives)
    ∙ ap (λ (l : List ℕ). bytes_to n script ++ unless_cut (is_cut n script) l) (ends_bring_none n lives)
    ∙ ap (λ (l : List ℕ). bytes_to n script ++ l) (none_counts (is_cut n script)) ∙ append-nil (bytes_to n script) in
    subst (λ (o : Option Opening). IsHeadingOf o (bytes_to n script) (headings n)) opened
    (subst (λ (l : List ℕ). IsHeadingOf (opened_as n (script ++ map end_of lives)) l (headings n)) bytes (are n))

abbrev number_of : Connected → ℕ
number_of d = d.number

numbers_in : (c : Config) (headings : ℕ → Heading) (number : ℕ) (what : Happening) (h : Histories) (ds : List Connected)
    → map number_of (happens_in c headings number what h ds).connections ≡ map number_of ds
numbers_in c headings number what h [] = refl
numbers_in c headings number what h (d ∷ ds) =
    let m = moved_by c headings number what h d in
    ap (λ (k : ℕ). k ∷ map number_of (happens_in c headings number what m.histories ds).connections)
    (number_by (is_concerned c (headings d.number) number d) c (headings d.number) h d what)
    ∙ ap (λ (l : List ℕ). d.number ∷ l) (numbers_in c headings number what m.histories ds)

numbers_closed : (c : Config) (headings : ℕ → Heading) (w : World) (numbers : List ℕ)
    → map number_of (closes c headings w numbers).connections ≡ map number_of w.connections
numbers_closed c headings w [] = refl
numbers_closed c headings w (number ∷ more) =
    numbers_closed c headings (happens c headings w number (ends lasts.End)) more
    ∙ numbers_in c headings number (ends lasts.End) w.histories w.connections

abbrev live_number : Live → ℕ
live_number live = live.number

numbers_live : (c : Config) (headings : ℕ → Heading) (now : Histories) (ds : List Connected) (lives : List Live)
    → Pairs (IsLive c headings now) ds lives → map number_of ds ≡ map live_number lives
numbers_live c headings now [] [] pairs = refl
numbers_live c headings now [] (live ∷ lives) pairs = absurd pairs
numbers_live c headings now (d ∷ ds) [] pairs = absurd pairs
numbers_live c headings now (d ∷ ds) (live ∷ lives) pairs =
    ap (λ (k : ℕ). k ∷ map number_of ds) (sym pairs.0.0)
    ∙ ap (λ (l : List ℕ). live.number ∷ l) (numbers_live c headings now ds lives pairs.1)

ends_close : (c : Config) (headings : ℕ → Heading) (w : World) (lives : List Live)
    → fold (after_event c headings) w (map end_of lives) ≡ closes c headings w (map live_number lives)
ends_close c headings w [] = refl
ends_close c headings w (live ∷ lives) = ends_close c headings (happens c headings w live.number (ends lasts.End)) lives

-- the whole run is that of its events and then of these ends
world_is : (c : Config) (headings : ℕ → Heading) (script : List Event) (lives : List Live) (now : Histories)
    → IsRunAt c headings (after_events c headings (script ++ map end_of lives)) lives now
    → after_events c headings (script ++ map end_of lives) ≡ world c headings script
world_is c headings script lives now run =
    let w = after_events c headings script in
    let all : after_events c headings (script ++ map end_of lives) ≡ closes c headings w (map live_number lives) =
    fold-append (after_event c headings) _ script (map end_of lives) ∙ ends_close c headings w lives in
    let numbers : map live_number lives ≡ map number_of w.connections =
    sym (numbers_live c headings now (after_events c headings (script ++ map end_of lives)).connections lives run.each)
    ∙ ap (λ (x : World). map number_of x.connections) all ∙ numbers_closed c headings w (map live_number lives) in
    all ∙ ap (closes c headings w) numbers

-- ---- the report

abbrev pub report_with : List Connection → totals.Closed → Report
report_with connections closed = record { connections = connections; closed = closed }

pub run_report : (c : Config) (script : List Event) (lives : List Live) (now : Histories) (told : List Connection)
    → IsRun c (script ++ map end_of lives) lives now → AreTold lives told
    → IsReport c script (record { connections = told; closed = closed_of c now })
run_report c script lives now told run so =
    let all : List Event = script ++ map end_of lives in
    let headings = headings_now all run.has in
    let at : IsRunAt c headings (after_events c headings all) lives now =
    run.stands [] headings (are_now all run.has) in
    let w : World = after_events c headings all in (
      headings,
      headings_same script lives headings (λ n. (run.has n).1),
      ap (λ (l : List Connection). report_with l (closed_of c now)) (sym (run_told c headings w lives now told at so))
          ∙ ap (λ (h : Histories). report_with (map (told_of c headings w.histories) w.connections) (closed_of c h))
          (sym at.histories)
          ∙ ap (λ (x : World). world_report c headings x) (world_is c headings script lives now at),
    )

one_next : (n : ℕ) → n + 1 ≡ suc n
one_next n = omega arith

taken_by : (lives : List Live) (at : ℕ) (new : Live) → at < length lives
    → map end_of (take (suc at) (set lives at new)) ≡ map end_of (take at lives) ++ end_of new ∷ []
taken_by [] at new within = absurd (omega (arith, within))
taken_by (live ∷ lives) zero new within = refl
taken_by (live ∷ lives) (suc at) new within =
    ap (λ (l : List Event). end_of live ∷ l) (taken_by lives at new (omega (arith, within)))

-- the ends of the first connections, with one more
pub ends_next : (script : List Event) (lives : List Live) (at : ℕ) (new : Live) → at < length lives
    → (script ++ map end_of (take at lives)) ++ end_of new ∷ [] ≡ script ++ map end_of
    (take (at + 1) (set lives at new))
ends_next script lives at new within =
    append_assoc script (map end_of (take at lives)) (end_of new ∷ [])
    ∙ ap (λ (l : List Event). script ++ l)
    (sym (ap (λ (n : ℕ). map end_of (take n (set lives at new))) (one_next at) ∙ taken_by lives at new within))
