-- What a recorded run stands for while the events of a script are played, one after the other.
use Rattle.std.specs.Prelude.{◌≡◌, ⊤, ℕ, ◌^◌, ◌<◌, ◌≤◌, List, ◌∷◌, ◌++◌, length, sum_by}
use Rattle.session_script.specs.declared.Event.{Event}
use Rattle.session_script.specs.declared.Event.TheVariants as events
use Rattle.session_script.specs.declared.ScriptKind.{ScriptKind}
use Rattle.session_script.specs.declared.ScriptKind.TheVariants.{Bare, Replay}
use Rattle.session_script.specs.Script.{IsSession, input_length}
use Rattle.cast_config.specs.declared.config.Config.{Config}
use Rattle.session_model.specs.declared.ending.Last.{Last}
use Rattle.session_model.specs.declared.ending.Last.TheVariants as lasts
use Rattle.session_model.specs.Judged.{Opening, sends_head, relays, bare_source, bare_rover}
use Rattle.caster_replay.specs.declared.run_connection.Act.{Act}
use Rattle.caster_replay.specs.declared.run_connection.Act.TheVariants as acts
use Rattle.caster_replay.specs.declared.run_connection.RunConnection.{RunConnection}
use Rattle.caster_replay.specs.declared.event.Request.{Request}
use Rattle.caster_replay.specs.declared.event.Request.TheVariants as requests
use Rattle.caster_replay.specs.Caster.{DesksValue, ArePlaces}
use Rattle.caster_replay.specs.RunConnections.{opening_of}
use Rattle.caster_replay.specs.Lives.{lives_in}
use Rattle.caster_replay.specs.Runs.{Runs}

-- ---- scripts

-- the relays of a script are among those of the configuration
abbrev pub IsKindFor : Config → ScriptKind → Type 0
IsKindFor c Bare = ⊤
IsKindFor c (Replay count) = count ≤ length c.relay

-- fewer than 2^63 bytes come in
abbrev pub IsShort : List Event → Type 0
IsShort script = sum_by input_length script < 2 ^ 63

-- a recorded session of either kind, in which fewer than 2^63 bytes come in
abbrev pub IsScriptFor : Config → List Event → Type 0
IsScriptFor c script =
    ((kind : ScriptKind) × IsKindFor c kind × IsSession kind script) × IsShort script

-- ---- events

-- by this event the connection of this number opens so
abbrev pub Begins : Event → ℕ → Opening → Type 0
Begins (events.Open k) number opening = (k ≡ number) × (opening ≡ sends_head)
Begins (events.Relay k relay) number opening = (k ≡ number) × (opening ≡ relays relay)
Begins (events.Source k mount) number opening = (k ≡ number) × (opening ≡ bare_source mount)
Begins (events.Rover k mount) number opening = (k ≡ number) × (opening ≡ bare_rover mount)
Begins (events.In k bytes) number opening = ⊥
Begins (events.Turn k budget) number opening = ⊥
Begins (events.Break k) number opening = ⊥
Begins (events.End k) number opening = ⊥

-- this event closes the connection of this number for this reason
abbrev pub Ends : Event → ℕ → Last → Type 0
Ends (events.Open k) number last = ⊥
Ends (events.Relay k relay) number last = ⊥
Ends (events.Source k mount) number last = ⊥
Ends (events.Rover k mount) number last = ⊥
Ends (events.In k bytes) number last = ⊥
Ends (events.Turn k budget) number last = ⊥
Ends (events.Break k) number last = (k ≡ number) × (last ≡ lasts.ReadFault)
Ends (events.End k) number last = (k ≡ number) × (last ≡ lasts.End)

-- by this event this happens to the connection of this number
abbrev pub Acts : Event → ℕ → Act → Type 0
Acts event number (acts.In text) = event ≡ events.In number text.now
Acts event number (acts.Turn budget) = event ≡ events.Turn number budget
Acts event number (acts.Close last) = Ends event number last

-- an event asks this of the connection of this number
abbrev pub Asks : Event → ℕ → Request → Type 0
Asks event number (requests.Open way) = Begins event number (opening_of way)
Asks event number (requests.Apply act) = Acts event number act

-- ---- while they are played

-- what is kept stands for the run of these events at the desks of the caster
pub record Stands (c : Config) (script : List Event) (entries : List RunConnection)
    (desks : DesksValue) : Type 0 where
  pub places : ArePlaces c desks
  pub runs : Runs c script (lives_in entries) desks.seen

-- and this is the next event of a script
pub record Plays (c : Config) (script : List Event) (event : Event) (entries : List RunConnection)
    (desks : DesksValue) : Type 0 where
  pub later : List Event
  pub script_is : IsScriptFor c (script ++ event ∷ later)
  pub places : ArePlaces c desks
  pub runs : Runs c script (lives_in entries) desks.seen
