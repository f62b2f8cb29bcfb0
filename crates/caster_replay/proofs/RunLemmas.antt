-- A run that is played event by event: what it stands for, and what is asked of it.
use Rattle.std.proofs.Common.{◌≡◌, ◌∙◌, ◌<◌, ◌≤◌, ◌++◌, ◌+◌, ℕ, suc, Bool, false, List, [], ◌∷◌, length, get_or, take, drop, refl, sym, ap, subst, inl, inr, Option, None}
use Rattle.std.specs.Prelude.{IsTrue}
use Rattle.std.specs.List.Sorted.{IsNonDecreasingBy}
use Rattle.std.proofs.lemmas.List.{take_more, take_all}
use Rattle.turn_log.specs.History.{History}
use Rattle.mount_ring.specs.declared.call.RingCall.{RingCall}
use Rattle.session_script.specs.declared.Event.{Event}
use Rattle.cast_config.specs.declared.config.Config.{Config}
use Rattle.session_core.specs.declared.rover_state.RoverState.{RoverState}
use Rattle.caster_replay.specs.declared.run_connection.RunConnection.{RunConnection}
use Rattle.caster_replay.specs.declared.run_connection.State.{State}
use Rattle.caster_replay.specs.declared.run_connection.State.TheVariants.{Open, Closed}
use Rattle.caster_replay.specs.declared.run.Run.{Run}
use Rattle.caster_replay.specs.RunConnections.{IsFoundAt, IsMissing, IsRoverIn, is_open_at, is_behind_at, is_behind_by, rover_at}
use Rattle.caster_replay.specs.Going.{GoesOn, IsBehind, IsRover, MaySpeak}
use Rattle.caster_replay.specs.Kept.{StandsFor, MayCome, lives_of}
use Rattle.caster_replay.specs.Lives.{Live, live_in, lives_in, live_of, place_of}
use Rattle.caster_replay.specs.Scripts.{IsScriptFor, Plays}
use Rattle.caster_replay.specs.Sends.{sent_in}
use Rattle.caster_replay.proofs.WorldRunnerLemmas.{IsAbsent, headings_now}
use Rattle.caster_replay.proofs.EntryLemmas.{no_live, within_lives, here_at, absent_at}
use Rattle.caster_replay.proofs.GoingLemmas.{going_missing, behind_missing, going_found, behind_found, found_speaks}
use Rattle.caster_replay.proofs.LivesLemmas.{in_order}
use Rattle.caster_replay.proofs.ReplayLemmas.{split_at}
use Rattle.caster_replay.proofs.RoverLemmas.{rover_missing, rover_found}
use Rattle.caster_replay.proofs.SendsLemmas.{sent_here, sent_absent}

-- ---- events

pub plays_of : {P : Type 0} (c : Config) (script : List Event) (event : Event) (run : Run P) → StandsFor c script run
    → MayCome c script event → Plays c script event run.entries.items run.desks
plays_of c script event run stands comes = record {
  later = comes.0;
  script_is = comes.1;
  places = stands.stands.places;
  runs = stands.stands.runs;
}

pub comes_next : (c : Config) (list : List Event) (i : ℕ) (event : Event) → IsScriptFor c list → i < length list
    → event ≡ get_or list i event → MayCome c (take i list) event
comes_next c list i event script within is =
    (drop (suc i) list, subst (IsScriptFor c) (sym (split_at list i event within is)) script)

pub stands_next : {P : Type 0} (c : Config) (list : List Event) (i : ℕ) (event : Event) (run : Run P) → i < length list
    → event ≡ get_or list i event → StandsFor c (take i list ++ event ∷ []) run → StandsFor c (take (i + 1) list) run
stands_next c list i event run within is stands =
    subst (λ (l : List Event). StandsFor c l run)
    (ap (λ (e : Event). take i list ++ e ∷ []) is ∙ sym (take_more list i event within)) stands

pub stands_whole : {P : Type 0} (c : Config) (list : List Event) (i : ℕ) (run : Run P) → length list ≤ i
    → StandsFor c (take i list) run → StandsFor c list run
stands_whole c list i run over stands = subst (λ (l : List Event). StandsFor c l run) (take_all i list over) stands

-- ---- what is found

module _ (entries : List RunConnection) (number : ℕ) where
  pub missing_absent : IsMissing entries number → IsAbsent number (lives_in entries) no_live
  missing_absent missing = absent_at entries (place_of number (lives_in entries)) number refl missing

  pub found_live : (entry : RunConnection) → IsFoundAt entries number entry
      → get_or (lives_in entries) (place_of number (lives_in entries)) (live_in entry)
      ≡ live_of number entry.state entry.bytes.items
  found_live entry f = here_at entries (place_of number (lives_in entries)) number entry f.there f.is

  pub found_sent : (entry : RunConnection) → IsFoundAt entries number entry
      → sent_in number (lives_in entries) ≡ entry.bytes.items
  found_sent entry f =
      sent_here number (lives_in entries) (live_in entry)
      (within_lives entries (place_of number (lives_in entries)) f.there.0)
      (ap (λ (l : Live). l.number) (found_live entry f))
      ∙ ap (λ (l : Live). l.bytes) (found_live entry f)

  pub missing_sent : IsMissing entries number → sent_in number (lives_in entries) ≡ []
  missing_sent missing = sent_absent number (lives_in entries) no_live (missing_absent missing)

-- ---- what is answered

behind_so : (rings : List (History RingCall)) (state : State)
    → is_behind_by rings (rover_at state) ≡ is_behind_at rings state
behind_so rings (Open session) = refl
behind_so rings (Closed receipt) = refl

pub run_order : {P : Type 0} (c : Config) (script : List Event) (run : Run P) (slice : List RunConnection) → StandsFor c script run
    → slice ≡ run.entries.items → IsNonDecreasingBy (λ (entry : RunConnection). entry.number) slice
run_order c script run slice stands same =
    in_order c script run.entries.items slice run.desks.seen stands.stands.runs same

module _ {P : Type 0} (c : Config) (script : List Event) (run : Run P) (number : ℕ) (stands : StandsFor c script run) where
  pub missing_goes : IsMissing run.entries.items number → (answer : Bool) → answer ≡ false
      → GoesOn c script number answer
  missing_goes missing answer none headings are =
      none ∙ sym (going_missing c script (lives_of run) run.desks.seen stands.stands.runs headings are number no_live
      (missing_absent run.entries.items number missing))

  missing_behind : IsMissing run.entries.items number → (answer : Bool) → answer ≡ false
      → IsBehind c script number answer
  missing_behind missing answer none headings are =
      none ∙ sym (behind_missing c script (lives_of run) run.desks.seen stands.stands.runs headings are number no_live
      (missing_absent run.entries.items number missing))

  pub found_goes : (entry : RunConnection) → IsFoundAt run.entries.items number entry → (answer : Bool)
      → answer ≡ is_open_at entry.state → GoesOn c script number answer
  found_goes entry f answer told headings are =
      told ∙ sym (going_found c script (lives_of run) run.desks.seen stands.stands.runs headings are number
      (place_of number (lives_of run)) (live_in entry) entry.state entry.bytes.items
      (within_lives run.entries.items (place_of number (lives_of run)) f.there.0)
      (found_live run.entries.items number entry f))

  found_lags : (entry : RunConnection) → IsFoundAt run.entries.items number entry → (answer : Bool)
      → answer ≡ is_behind_at run.desks.seen.rings entry.state → IsBehind c script number answer
  found_lags entry f answer told headings are =
      told ∙ sym (behind_found c script (lives_of run) run.desks.seen stands.stands.runs headings are number
      (place_of number (lives_of run)) (live_in entry) entry.state entry.bytes.items
      (within_lives run.entries.items (place_of number (lives_of run)) f.there.0)
      (found_live run.entries.items number entry f))

  missing_rover : IsMissing run.entries.items number → (answer : Option RoverState) → answer ≡ None
      → IsRover c script number answer
  missing_rover missing answer none more headings are =
      none ∙ sym (rover_missing c script (lives_of run) run.desks.seen stands.stands.runs more headings are number
      no_live
      (missing_absent run.entries.items number missing))

  found_rover : (entry : RunConnection) → IsFoundAt run.entries.items number entry → (answer : Option RoverState)
      → answer ≡ rover_at entry.state → IsRover c script number answer
  found_rover entry f answer told more headings are =
      told ∙ sym (rover_found c script (lives_of run) run.desks.seen stands.stands.runs more headings are number
      (place_of number (lives_of run)) (live_in entry) entry.state entry.bytes.items
      (within_lives run.entries.items (place_of number (lives_of run)) f.there.0)
      (found_live run.entries.items number entry f))

  -- by where it stands as a rover
  pub told_rover : (answer : Option RoverState) → IsRoverIn run.entries.items number answer
      → IsRover c script number answer
  told_rover answer (inl found) = found_rover found.0 found.1 answer found.2
  told_rover answer (inr missing) = missing_rover missing.0 answer missing.1

  pub told_behind : (rover : Option RoverState) (answer : Bool) → IsRoverIn run.entries.items number rover
      → answer ≡ is_behind_by run.desks.seen.rings rover → IsBehind c script number answer
  told_behind rover answer (inl found) is =
      found_lags found.0 found.1 answer
      (is ∙ ap (is_behind_by run.desks.seen.rings) found.2 ∙ behind_so run.desks.seen.rings found.0.state)
  told_behind rover answer (inr missing) is =
      missing_behind missing.0 answer (is ∙ ap (is_behind_by run.desks.seen.rings) missing.1)

  pub found_may_speak : (entry : RunConnection) → IsFoundAt run.entries.items number entry → IsTrue (is_open_at entry.state)
      → MaySpeak script number
  found_may_speak entry f told =
      let runs = stands.stands.runs in
      found_speaks c script (lives_of run) run.desks.seen runs (headings_now script runs.has) (λ n. (runs.has n).1)
      number
      (place_of number (lives_of run)) (live_in entry) entry.state entry.bytes.items
      (within_lives run.entries.items (place_of number (lives_of run)) f.there.0)
      (found_live run.entries.items number entry f) told
