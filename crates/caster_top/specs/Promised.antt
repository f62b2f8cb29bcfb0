-- What is promised of the recorded sessions that a command reports or writes.
use Rattle.std.specs.Prelude.{◌≡◌, ℕ, List, Option, Some, Ok}
use Rattle.std.specs.Io.KnownBytes.{Appends}
use Rattle.cast_io.specs.Told.{StreetTold}
use Rattle.session_script.specs.declared.Event.{Event}
use Rattle.session_script.specs.declared.ScriptKind.TheVariants.{Bare}
use Rattle.session_script.specs.Script.{script_of}
use Rattle.session_script.specs.Writing.{script_text}
use Rattle.cast_config.specs.declared.config.Config.{Config}
use Rattle.cast_config.specs.Bare as settings
use Rattle.session_model.specs.declared.report.Report.{Report}
use Rattle.session_model.specs.Text.{closed_text, report_text}
use Rattle.session_model.specs.declared.report.Closed.{Closed}
use Rattle.run_promise.specs.Promised.{IsPromised}
use Rattle.warm_promise.specs.Greeted.{IsGreeted}
use Rattle.serve_promise.specs.Callers.{AllPromised}
use Rattle.caster_top.specs.declared.command.RoverStart.{RoverStart}
use Rattle.caster_top.specs.declared.command.RoverStart.TheVariants.{Cold, Warm}
use Rattle.caster_top.specs.Command.{AreBare, AreReplay, AreRecord, AreServe, AreWarm}
use Rattle.caster_top.specs.Told.{Files, FilesTold, Input, IsConfigAt, IsConfigFrom, IsSessionAt, IsSessionFrom}
use Rattle.caster_top.specs.Recording.{HasRecorded}

-- the text is that of a report of these events that keeps the promise of recorded sessions
pub record IsPromisedText (c : Config) (events : List Event) (text : List ℕ) : Type 0 where
  pub report : Report
  pub promised : IsPromised c events report
  pub text_is : text ≡ report_text c report

-- the text is that of a report with greetings of these events that keeps the promise of such a
-- report
pub record IsGreetedText (c : Config) (events : List Event) (text : List ℕ) : Type 0 where
  pub report : Report
  pub greeted : IsGreeted c events report
  pub text_is : text ≡ report_text c report

-- of a report whose rovers start so, the text keeps the promise of its kind
abbrev pub IsPromisedReport : RoverStart → Config → List Event → List ℕ → Type 0
IsPromisedReport Cold c events text = IsPromisedText c events text
IsPromisedReport Warm c events text = IsGreetedText c events text

-- What these words came to keeps the promise: the report of a bare session, that of a session over
-- a configuration, with greetings or without, the one that a replay of a recorded session's script
-- gives, and each link of a caster that served to its end.
pub record KeepPromise (words : List (List ℕ)) (left : Option (List ℕ)) (files : FilesTold)
    (before after : StreetTold) (old new : Option (List ℕ)) : Type 0 where
  pub bare : (capacity : ℕ) (bytes : List ℕ) (events : List Event) → AreBare words capacity
      → left ≡ Some bytes → script_of Bare bytes ≡ Ok events
      → (text : List ℕ) × IsPromisedText (settings.bare capacity) events text
      × Appends old new text
  pub replayed : (config session : List ℕ) → AreReplay words config session
      → (c : Config) × (events : List Event) × (text : List ℕ) × IsConfigAt files config c
      × IsSessionAt files session c events × IsPromisedText c events text
      × Appends old new text
  pub warmed : (config session : List ℕ) → AreWarm words config session
      → (c : Config) × (events : List Event) × (text : List ℕ) × IsConfigAt files config c
      × IsSessionAt files session c events × IsGreetedText c events text
      × Appends old new text
  pub served : (config addr : List ℕ) (limit : ℕ) → AreServe words config addr limit
      → (c : Config) × (closed : Closed) × IsConfigAt files config c
      × AllPromised c limit before after closed × Appends old new (closed_text c closed)
  pub recorded : (config addr : List ℕ) (limit : ℕ) → AreRecord words config addr limit
      → (c : Config) × (events : List Event)
      × (recorded : HasRecorded c addr limit before after events) × IsConfigAt files config c
      × IsPromised c events recorded.session.report × Appends old new (script_text events)

-- What these words came to keeps the promise, by what came from the input and the files.
pub record WasPromised (words : List (List ℕ)) (input : Input) (files : Files)
    (before after : StreetTold) (old new : Option (List ℕ)) : Type 0 where
  pub bare : (capacity : ℕ) → AreBare words capacity
      → (bytes : List ℕ) × (events : List Event) × (text : List ℕ) × input bytes
      × (script_of Bare bytes ≡ Ok events) × IsPromisedText (settings.bare capacity) events text
      × Appends old new text
  pub replayed : (config session : List ℕ) → AreReplay words config session
      → (c : Config) × (events : List Event) × (text : List ℕ) × IsConfigFrom files config c
      × IsSessionFrom files session c events × IsPromisedText c events text
      × Appends old new text
  pub warmed : (config session : List ℕ) → AreWarm words config session
      → (c : Config) × (events : List Event) × (text : List ℕ) × IsConfigFrom files config c
      × IsSessionFrom files session c events × IsGreetedText c events text
      × Appends old new text
  pub served : (config addr : List ℕ) (limit : ℕ) → AreServe words config addr limit
      → (c : Config) × (closed : Closed) × IsConfigFrom files config c
      × AllPromised c limit before after closed × Appends old new (closed_text c closed)
  pub recorded : (config addr : List ℕ) (limit : ℕ) → AreRecord words config addr limit
      → (c : Config) × (events : List Event)
      × (recorded : HasRecorded c addr limit before after events) × IsConfigFrom files config c
      × IsPromised c events recorded.session.report × Appends old new (script_text events)
