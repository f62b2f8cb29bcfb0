-- What a recorder stands for: a run of the events that it recorded, which are a script so far.
use Rattle.std.specs.Prelude.{◌≡◌, ⊤, ℕ, true, List, length}
use Rattle.session_script.specs.declared.Event.{Event}
use Rattle.session_script.specs.declared.Event.TheVariants as events
use Rattle.session_script.specs.declared.ScriptKind.{ScriptKind}
use Rattle.session_script.specs.declared.ScriptKind.TheVariants.{Replay}
use Rattle.session_script.specs.Line.{is_event}
use Rattle.session_script.specs.Numbers.{no_numbers}
use Rattle.session_script.specs.Script.{IsSession, may_follow}
use Rattle.session_script.specs.Writing.{lines_text}
use Rattle.cast_config.specs.declared.config.Config.{Config}
use Rattle.caster_replay.specs.Going.{numbers_from}
use Rattle.caster_replay.specs.Kept.{StandsFor}
use Rattle.caster_record.specs.declared.recorder.Recorder.{Recorder}

-- scripts of this configuration
abbrev pub kind_of : Config → ScriptKind
kind_of c = Replay (length c.relay)

-- the events so far
abbrev pub events_in : Recorder → List Event
events_in recorder = recorder.tape.events.items

pub record Records (c : Config) (recorder : Recorder) : Type 0 where
  pub stands : StandsFor c (events_in recorder) recorder.run
  pub session : IsSession (kind_of c) (events_in recorder)
  pub size : recorder.tape.size ≡ length (lines_text (events_in recorder))

-- one of the events that a recorder makes
abbrev pub IsOwn : Event → Type 0
IsOwn (events.Open k) = ⊤
IsOwn (events.Relay k relay) = ⊥
IsOwn (events.Source k mount) = ⊥
IsOwn (events.Rover k mount) = ⊥
IsOwn (events.In k bytes) = ⊤
IsOwn (events.Turn k budget) = ⊤
IsOwn (events.Break k) = ⊤
IsOwn (events.End k) = ⊤

-- a script may go on with it
pub record IsNext (c : Config) (script : List Event) (event : Event) : Type 0 where
  pub own : IsOwn event
  pub fits : is_event (kind_of c) event ≡ true
  pub follows : may_follow (kind_of c) (numbers_from no_numbers script) event ≡ true

-- the line of it, with LF, has at most so many bytes
abbrev pub most_of : Event → ℕ
most_of (events.In k bytes) = 8300
most_of event = 40
