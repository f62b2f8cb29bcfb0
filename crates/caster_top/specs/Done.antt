-- What status 0 says of what was read and written.
use Rattle.std.specs.Prelude.{◌≡◌, ℕ, List, codes, Option, Ok}
use Rattle.std.specs.Io.KnownBytes.{Appends}
use Rattle.session_script.specs.declared.Event.{Event}
use Rattle.session_script.specs.declared.ScriptKind.TheVariants.{Bare}
use Rattle.session_script.specs.Script.{script_of}
use Rattle.session_script.specs.Writing.{script_text}
use Rattle.sourcetable.specs.Table.{table_text}
use Rattle.cast_io.specs.Told.{StreetTold}
use Rattle.cast_config.specs.declared.config.Config.{Config}
use Rattle.cast_config.specs.Bare as settings
use Rattle.config_table.specs.Table.{table_records}
use Rattle.session_model.specs.declared.report.Closed.{Closed}
use Rattle.session_model.specs.Text.{closed_text}
use Rattle.run_texts.specs.Texts.{IsRunText, bare_report_text}
use Rattle.caster_serve.specs.Caster.{HasServed}
use Rattle.caster_top.specs.declared.command.ConfigCommand.TheVariants.{Check, Table, Migrate}
use Rattle.caster_top.specs.declared.command.RoverStart.{RoverStart}
use Rattle.caster_top.specs.Command.{AreBare, AreOver, ArePlayed, AreRecord, AreServe}
use Rattle.caster_top.specs.Outcome.{IsDocumentOf, IsReportText, one_line}
use Rattle.caster_top.specs.Recording.{HasRecorded}
use Rattle.caster_top.specs.Told.{Files, Input, IsConfigFrom, IsSessionFrom}

-- What these words ask for was done with what came from the input and the files: exactly the text
-- was written that this makes, and where they ask for a caster, the street was used as they say.
pub record WasDone (words : List (List ℕ)) (input : Input) (files : Files)
    (before after : StreetTold) (old new : Option (List ℕ)) : Type 0 where
  pub bare : (capacity : ℕ) → AreBare words capacity
      → (bytes : List ℕ) × (events : List Event) × input bytes × (script_of Bare bytes ≡ Ok events)
      × IsRunText (settings.bare capacity) events (bare_report_text (settings.bare capacity) events)
      × Appends old new (bare_report_text (settings.bare capacity) events)
  pub checked : (path : List ℕ) → AreOver Check words path
      → (c : Config) × IsConfigFrom files path c × Appends old new (one_line (codes "ok"))
  pub tabled : (path : List ℕ) → AreOver Table words path
      → (c : Config) × IsConfigFrom files path c × Appends old new (table_text (table_records c))
  pub migrated : (path : List ℕ) → AreOver Migrate words path
      → (c : Config) × (text : List ℕ) × IsConfigFrom files path c × IsDocumentOf c text
      × Appends old new text
  pub played : (start : RoverStart) (config session : List ℕ) → ArePlayed start words config session
      → (c : Config) × (events : List Event) × (text : List ℕ) × IsConfigFrom files config c
      × IsSessionFrom files session c events × IsReportText start c events text
      × Appends old new text
  pub served : (config addr : List ℕ) (limit : ℕ) → AreServe words config addr limit
      → (c : Config) × (closed : Closed) × IsConfigFrom files config c
      × HasServed c addr limit before after (Ok closed) × Appends old new (closed_text c closed)
  pub recorded : (config addr : List ℕ) (limit : ℕ) → AreRecord words config addr limit
      → (c : Config) × (events : List Event) × IsConfigFrom files config c
      × HasRecorded c addr limit before after events × Appends old new (script_text events)
