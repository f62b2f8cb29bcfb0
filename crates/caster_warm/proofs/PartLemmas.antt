-- What an event sends its connection, and what the others are sent by it.
use Rattle.std.proofs.Common.{◌≡◌, ◌≢◌, ◌∙◌, ◌++◌, ◌≤◌, ◌<◌, ◌+◌, ℕ, suc, get_or, Bool, true, false, List, [], ◌∷◌, length, map, take, drop, fold, refl, sym, ap, subst, inl, inr, arith, length-append, append_assoc}
use Rattle.std.specs.Prelude.{◌==◌, ◌&&◌, nat_lt, if◌then◌else◌}
use Rattle.std.proofs.lemmas.Bool.{cases_Bool, eq-eqb, eqb-true, eqb-false, ne_eqb}
use Rattle.std.proofs.lemmas.List.{append-nil, take_more}
use Rattle.std.proofs.Math.Seq.{drop-length}
use Rattle.session_script.specs.declared.Event.{Event}
use Rattle.session_script.specs.declared.Event.TheVariants as events
use Rattle.cast_config.specs.declared.config.Config.{Config}
use Rattle.session_model.specs.declared.report.Closed as totals
use Rattle.session_model.specs.declared.report.Connection.{Connection}
use Rattle.session_model.specs.declared.report.Report.{Report}
use Rattle.session_model.specs.Headings.{Heading}
use Rattle.session_model.specs.Reports.{AreHeadings, IsReport, told_of}
use Rattle.session_model.specs.Run.{Histories, Connected, World, after_event, after_events}
use Rattle.caster_replay.specs.declared.run_connection.State.{State}
use Rattle.caster_replay.specs.declared.run_connection.State.TheVariants.{Open, Closed}
use Rattle.caster_replay.specs.declared.run.Run.{Run}
use Rattle.caster_replay.specs.Going.{rover_among}
use Rattle.caster_replay.specs.Kept.{StandsFor, homes_of, seen_of, lives_of, sent_by_run}
use Rattle.caster_replay.specs.Lives.{IsKept, IsLive, Live, sent_to}
use Rattle.caster_replay.specs.Runs.{Pairs}
use Rattle.caster_replay.specs.Sends.{sent_in, told_sent, Sends}
use Rattle.caster_replay.proofs.ReplayLemmas.{split_at}
use Rattle.caster_replay.proofs.WorldReportLemmas.{report_with}
use Rattle.caster_replay.proofs.WorldRunnerLemmas.{after_one}
use Rattle.caster_warm.specs.declared.parts.Part.{Part}
use Rattle.caster_warm.specs.declared.place.GreetingPlace.{GreetingPlace}
use Rattle.caster_warm.specs.Numbers.{number_of, brings_bytes}
use Rattle.caster_warm.specs.Parts.{part_to}
use Rattle.caster_warm.specs.Places.{WasClearedAt, homes_at}
use Rattle.caster_warm.specs.Warm.{greeting_for, greeting_by, sent_so_far, sent_by_event, sent_by_events, told_with, IsWarmReport}

abbrev told_as : Connection → List ℕ → Connection
told_as told bytes = record { number = told.number; receipt = told.receipt; bytes = bytes }

-- ---- what was sent so far

kept_bytes : (c : Config) (heading : Heading) (now : Histories) (d : Connected) (state : State) (bytes : List ℕ)
    → IsKept c heading now d state bytes → sent_to c heading now d ≡ bytes
kept_bytes c heading now d (Open session) bytes kept = sym kept.bytes_are
kept_bytes c heading now d (Closed receipt) bytes kept = sym kept.bytes_are

-- what a number that stands first was sent
abbrev first_sent : ℕ → ℕ → List ℕ → List ℕ → List ℕ
first_sent n k bytes rest = if nat_lt k n then rest else if k == n then bytes else []

told_lives : (c : Config) (headings : ℕ → Heading) (now : Histories) (n : ℕ) (ds : List Connected) (lives : List Live)
    → Pairs (IsLive c headings now) ds lives → told_sent n (map (told_of c headings now) ds) ≡ sent_in n lives
told_lives c headings now n [] [] pairs = refl
told_lives c headings now n [] (live ∷ lives) pairs = absurd pairs
told_lives c headings now n (d ∷ ds) [] pairs = absurd pairs
told_lives c headings now n (d ∷ ds) (live ∷ lives) pairs =
    let rest : List ℕ = told_sent n (map (told_of c headings now) ds) in
    ap (λ (k : ℕ). first_sent n k (sent_to c (headings d.number) now d) rest) (sym pairs.0.0)
    ∙ ap (λ (bytes : List ℕ). first_sent n live.number bytes rest)
    (kept_bytes c (headings d.number) now d live.state live.bytes pairs.0.1)
    ∙ ap (first_sent n live.number live.bytes) (told_lives c headings now n ds lives pairs.1)

pub sent_told : {P : Type 0} (c : Config) (script later : List Event) (headings : ℕ → Heading) (run : Run P) (n : ℕ)
    → StandsFor c script run → AreHeadings (script ++ later) headings
    → sent_so_far c headings (after_events c headings script) n ≡ sent_by_run run n
sent_told c script later headings run n stands are =
    let at = stands.stands.runs.stands later headings are in
    ap (λ (h : Histories). told_sent n (map (told_of c headings h) (after_events c headings script).connections))
    at.histories
    ∙ told_lives c headings run.desks.seen n (after_events c headings script).connections (lives_of run) at.each

-- ---- whom an event sends more

-- what its own connection was sent goes on
pub sends_own : (event : Event) (before after : List Live) → Sends event before after
    → (more : List ℕ) × (sent_in (number_of event) after ≡ sent_in (number_of event) before ++ more)
sends_own (events.Source k mount) before after silent = ([], silent k ∙ sym (append-nil (sent_in k before)))
sends_own (events.Rover k mount) before after silent = ([], silent k ∙ sym (append-nil (sent_in k before)))
sends_own (events.Open k) before after silent = ([], silent k ∙ sym (append-nil (sent_in k before)))
sends_own (events.Relay k relay) before after sends = (sends.more, sends.own)
sends_own (events.In k bytes) before after sends = (sends.more, sends.own)
sends_own (events.Turn k budget) before after sends = (sends.more, sends.own)
sends_own (events.Break k) before after silent = ([], silent k ∙ sym (append-nil (sent_in k before)))
sends_own (events.End k) before after silent = ([], silent k ∙ sym (append-nil (sent_in k before)))

pub sends_more : (event : Event) (before after : List Live) → Sends event before after
    → length (sent_in (number_of event) before) ≤ length (sent_in (number_of event) after)
sends_more event before after sends =
    let own = sends_own event before after sends in
    omega (arith, ap length own.1, length-append (sent_in (number_of event) before) own.0)

-- who is greeted, if the event brings bytes or not, by whether it is its own
abbrev greeted_if : Bool → Bool → List ℕ → List ℕ
greeted_if brings own greeting = if brings && own then greeting else []

greeted_not : (brings : Bool) (greeting : List ℕ) → greeted_if brings false greeting ≡ []
greeted_not true greeting = refl
greeted_not false greeting = refl

-- and no other
sends_others : (event : Event) (n : ℕ) (before after : List Live) → Sends event before after → n ≢ number_of event
    → sent_in n after ≡ sent_in n before
sends_others (events.Source k mount) n before after silent apart = silent n
sends_others (events.Rover k mount) n before after silent apart = silent n
sends_others (events.Open k) n before after silent apart = silent n
sends_others (events.Relay k relay) n before after sends apart = sends.others n apart
sends_others (events.In k bytes) n before after sends apart = sends.others n apart
sends_others (events.Turn k budget) n before after sends apart = sends.others n apart
sends_others (events.Break k) n before after silent apart = silent n
sends_others (events.End k) n before after silent apart = silent n

module _ (c : Config) (headings : ℕ → Heading) (w next : World) (event : Event) where
  abbrev greets : ℕ → List ℕ
  greets n = greeting_for c w.histories next.histories (rover_among c headings n next.connections)

  pub greets_own : brings_bytes event ≡ true
      → greets (number_of event) ≡ greeting_by c headings w event next (number_of event)
  greets_own brings =
      sym (ap (λ (b : Bool). greeted_if b (number_of event == number_of event) (greets (number_of event))) brings
      ∙ ap (λ (b : Bool). greeted_if true b (greets (number_of event)))
      (eq-eqb (number_of event) (number_of event) refl))

  pub greets_nobody : brings_bytes event ≡ false → [] ≡ greeting_by c headings w event next (number_of event)
  greets_nobody brings =
      sym (ap (λ (b : Bool). greeted_if b (number_of event == number_of event) (greets (number_of event))) brings)

  greets_others : (n : ℕ) → n ≢ number_of event → greeting_by c headings w event next n ≡ []
  greets_others n apart =
      ap (λ (b : Bool). greeted_if (brings_bytes event) b (greets n))
      (ne_eqb (number_of event) n (λ e. apart (sym e)))
      ∙ greeted_not (brings_bytes event) (greets n)

-- ---- a part

-- behind so many bytes of the one list, and then the greeting
abbrev behind : List ℕ → List ℕ → List ℕ → List ℕ
behind before after greeting = drop (length before) after ++ greeting

module _ (c : Config) (headings : ℕ → Heading) (w : World) (event : Event) (before after : List Live) (part : Part)
    (was : (n : ℕ) → sent_so_far c headings w n ≡ sent_in n before)
    (is : (n : ℕ) → sent_so_far c headings (after_event c headings w event) n ≡ sent_in n after)
    (sends : Sends event before after) (mine : part.number ≡ number_of event)
    (bytes : part.bytes.items ≡ behind (sent_in (number_of event) before) (sent_in (number_of event) after)
    (greeting_by c headings w event (after_event c headings w event) (number_of event))) where
  abbrev greeting : ℕ → List ℕ
  greeting n = greeting_by c headings w event (after_event c headings w event) n

  by_event : (n : ℕ) → sent_by_event c headings w event n
      ≡ behind (sent_in n before) (sent_in n after) (greeting n)
  by_event n =
      ap (λ (l : List ℕ). behind l (sent_so_far c headings (after_event c headings w event) n) (greeting n)) (was n)
      ∙ ap (λ (l : List ℕ). behind (sent_in n before) l (greeting n)) (is n)

  own_part : (n : ℕ) → n ≡ number_of event → part_to n part ≡ sent_by_event c headings w event n
  own_part n same =
      ap (λ (b : Bool). if b then part.bytes.items else []) (eq-eqb part.number n (mine ∙ sym same))
      ∙ bytes
      ∙ ap (λ (k : ℕ). behind (sent_in k before) (sent_in k after) (greeting k)) (sym same)
      ∙ sym (by_event n)

  other_part : (n : ℕ) → n ≢ number_of event → part_to n part ≡ sent_by_event c headings w event n
  other_part n apart =
      ap (λ (b : Bool). if b then part.bytes.items else []) (ne_eqb part.number n (λ e. apart (sym e ∙ mine)))
      ∙ sym (by_event n ∙ ap (λ (l : List ℕ). behind (sent_in n before) l (greeting n))
      (sends_others event n before after sends apart)
      ∙ ap (λ (l : List ℕ). l ++ greeting n) (drop-length (sent_in n before))
      ∙ greets_others c headings w (after_event c headings w event) event n apart)

  pub part_is : (n : ℕ) → part_to n part ≡ sent_by_event c headings w event n
  part_is n =
      elim (cases_Bool (n == number_of event)) [
        | inl same ↦ own_part n (eqb-true n (number_of event) same)
        | inr other ↦ other_part n (eqb-false n (number_of event) other)
      ]

-- the same of runs: one that stands for the script, then cleared, and then with the event
module _ (c : Config) (script later : List Event) (event : Event) (headings : ℕ → Heading)
    (run mid next : Run GreetingPlace)
    (stands : StandsFor c script run) (stands_next : StandsFor c (script ++ event ∷ []) next)
    (are : AreHeadings (script ++ event ∷ later) headings) where
  abbrev w : World
  w = after_events c headings script

  -- these are the headings of the script with the event, and of what follows
  pub are_next : AreHeadings ((script ++ event ∷ []) ++ later) headings
  are_next = subst (λ (l : List Event). AreHeadings l headings) (sym (append_assoc script (event ∷ []) later)) are

  is_next : (n : ℕ) → sent_so_far c headings (after_event c headings w event) n ≡ sent_by_run next n
  is_next n =
      ap (λ (v : World). sent_so_far c headings v n) (sym (after_one c headings script event))
      ∙ sent_told c (script ++ event ∷ []) later headings next n stands_next are_next

  -- the histories at which it was cleared
  pub cleared_before : WasClearedAt (seen_of run) mid → homes_of next ≡ homes_of mid
      → WasClearedAt w.histories next
  cleared_before cleared same =
      same ∙ cleared
      ∙ ap (λ (h : Histories). homes_at h.rings) (sym (stands.stands.runs.stands (event ∷ later) headings are).histories)

  pub part_here : (part : Part) → lives_of mid ≡ lives_of run → Sends event (lives_of mid) (lives_of next)
      → part.number ≡ number_of event
      → part.bytes.items ≡ behind (sent_by_run run (number_of event)) (sent_by_run next (number_of event))
      (greeting_by c headings w event (after_events c headings (script ++ event ∷ [])) (number_of event))
      → (n : ℕ) → part_to n part ≡ sent_by_event c headings w event n
  part_here part lives sends mine bytes n =
      part_is c headings w event (lives_of run) (lives_of next) part
      (λ k. sent_told c script (event ∷ later) headings run k stands are) is_next
      (subst (λ (l : List Live). Sends event l (lives_of next)) lives sends) mine
      (bytes ∙ ap (λ (v : World). behind (sent_by_run run (number_of event)) (sent_by_run next (number_of event))
      (greeting_by c headings w event v (number_of event))) (after_one c headings script event)) n

module _ (run mid next : Run GreetingPlace) (event : Event) (number before : ℕ) (lives : lives_of mid ≡ lives_of run)
    (sends : Sends event (lives_of mid) (lives_of next)) (mine : number ≡ number_of event)
    (was : before ≡ length (sent_by_run run number)) where
  was_sent : before ≡ length (sent_by_run run (number_of event))
  was_sent = was ∙ ap (λ (k : ℕ). length (sent_by_run run k)) mine

  -- what was sent before is no more than what is sent now
  pub sent_within : before ≤ length (sent_by_run next number)
  sent_within =
      let more : length (sent_by_run run (number_of event)) ≤ length (sent_by_run next (number_of event)) =
      sends_more event (lives_of run) (lives_of next)
      (subst (λ (l : List Live). Sends event l (lives_of next)) lives sends) in
      subst (λ (k : ℕ). before ≤ length (sent_by_run next k)) (sym mine) (omega (arith, was_sent, more))

  pub bytes_here : (first all greeting : List ℕ) → first ≡ drop before (sent_by_run next number)
      → all ≡ first ++ greeting
      → all ≡ behind (sent_by_run run (number_of event)) (sent_by_run next (number_of event)) greeting
  bytes_here first all greeting is with_it =
      with_it
      ∙ ap (λ (l : List ℕ). l ++ greeting) (is
      ∙ ap (λ (k : ℕ). drop before (sent_by_run next k)) mine
      ∙ ap (λ (k : ℕ). drop k (sent_by_run next (number_of event))) was_sent)

-- ---- all events

pub events_more : (c : Config) (headings : ℕ → Heading) (w : World) (list : List Event) (event : Event) (n : ℕ)
    → sent_by_events c headings w (list ++ event ∷ []) n
    ≡ sent_by_events c headings w list n ++ sent_by_event c headings (fold (after_event c headings) w list) event n
events_more c headings w [] event n = append-nil (sent_by_event c headings w event n)
events_more c headings w (first ∷ list) event n =
    ap (λ (l : List ℕ). sent_by_event c headings w first n ++ l)
    (events_more c headings (after_event c headings w first) list event n)
    ∙ sym (append_assoc (sent_by_event c headings w first n)
    (sent_by_events c headings (after_event c headings w first) list n)
    (sent_by_event c headings (fold (after_event c headings) (after_event c headings w first) list) event n))

-- one more of these events
pub sent_next : (c : Config) (headings : ℕ → Heading) (events : List Event) (i : ℕ) (event : Event) (n : ℕ)
    → i < length events → event ≡ get_or events i event
    → sent_by_events c headings (after_events c headings []) (take i events) n
    ++ sent_by_event c headings (after_events c headings (take i events)) event n
    ≡ sent_by_events c headings (after_events c headings []) (take (i + 1) events) n
sent_next c headings events i event n within is =
    sym (events_more c headings (after_events c headings []) (take i events) event n)
    ∙ ap (λ (l : List Event). sent_by_events c headings (after_events c headings []) l n)
    (ap (λ (e : Event). take i events ++ e ∷ []) is ∙ sym (take_more events i event within))

-- the headings of the whole are those of its first events, the next one and what follows
pub headings_at : (headings : ℕ → Heading) (events : List Event) (i : ℕ) (event : Event) → i < length events
    → event ≡ get_or events i event → AreHeadings events headings
    → AreHeadings (take i events ++ event ∷ drop (suc i) events) headings
headings_at headings events i event within is are =
    subst (λ (l : List Event). AreHeadings l headings) (sym (split_at events i event within is)) are

-- ---- what is told

pub told_same : (sent bytes : ℕ → List ℕ) (list : List Connection) → ((n : ℕ) → sent n ≡ bytes n)
    → map (told_with sent) list ≡ map (told_with bytes) list
told_same sent bytes [] same = refl
told_same sent bytes (told ∷ list) same =
    ap (λ (l : List ℕ). told_as told l ∷ map (told_with sent) list) (same told.number)
    ∙ ap (λ (l : List Connection). told_with bytes told ∷ l) (told_same sent bytes list same)

-- the report of the run with the bytes of its parts
pub warm_of : (c : Config) (events : List Event) (sent : ℕ → List ℕ) (plain list told : List Connection)
    (closed : totals.Closed) → IsReport c events (record { connections = plain; closed = closed })
    → ((headings : ℕ → Heading) (n : ℕ) → AreHeadings events headings
    → sent n ≡ sent_by_events c headings (after_events c headings []) events n)
    → list ≡ map (told_with sent) plain → told ≡ list
    → IsWarmReport c events (record { connections = told; closed = closed })
warm_of c events sent plain list told closed report bytes is same =
    let headings : ℕ → Heading = report.0 in (
      headings,
      report.1,
      ap (λ (l : List Connection). report_with l closed) (same ∙ is
          ∙ told_same sent (sent_by_events c headings (after_events c headings []) events) plain
          (λ n. bytes headings n report.1))
          ∙ ap (λ (r : Report). report_with
          (map (told_with (sent_by_events c headings (after_events c headings []) events)) r.connections) r.closed) report.2,
    )
