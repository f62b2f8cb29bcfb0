-- What status 0 says of each command where output and street log what they took.
use Rattle.std.proofs.Common.{◌≡◌, ◌++◌, ℕ, List, Some, Ok, codes, refl}
use Rattle.session_script.specs.declared.Event.{Event}
use Rattle.session_script.specs.declared.ScriptKind.TheVariants.{Bare}
use Rattle.session_script.specs.Script.{script_of}
use Rattle.session_script.specs.Writing.{script_text}
use Rattle.sourcetable.specs.Table.{table_text}
use Rattle.cast_io.specs.Logged.{StreetLog, street_logged}
use Rattle.cast_io.specs.Told.{StreetTold}
use Rattle.cast_config.specs.declared.config.Config.{Config}
use Rattle.cast_config.specs.Bare as settings
use Rattle.config_table.specs.Table.{table_records}
use Rattle.session_model.specs.declared.report.Closed.{Closed}
use Rattle.session_model.specs.Text.{closed_text}
use Rattle.run_texts.specs.Texts.{bare_report_text}
use Rattle.caster_top.specs.declared.command.ConfigCommand.{ConfigCommand}
use Rattle.caster_top.specs.declared.command.ConfigCommand.TheVariants.{Check, Migrate, Table}
use Rattle.caster_top.specs.declared.command.RoverStart.{RoverStart}
use Rattle.caster_top.specs.declared.command.RoverStart.TheVariants.{Cold, Warm}
use Rattle.caster_top.specs.Command.{AreBare, AreOver, ArePlayed, AreRecord, AreServe}
use Rattle.caster_top.specs.Done.{WasDone}
use Rattle.caster_top.specs.Outcome.{IsReportText, IsTextOver, one_line}
use Rattle.caster_top.specs.Promised.{IsPromisedReport, IsPromisedText}
use Rattle.caster_top.specs.Told.{Files, Input, IsConfigFrom, IsSessionFrom}
use Rattle.caster_top.proofs.PromiseLemmas.{bare_promised, record_promised, replay_promised, warm_promised}
use Rattle.caster_logged.specs.Callers.{HasServedAll}
use Rattle.caster_logged.specs.Peers.{HasRecordedAll}
use Rattle.caster_logged.proofs.CallerLemmas.{served_logged}
use Rattle.caster_logged.proofs.PeerLemmas.{recorded_logged}

module _ {words : List (List ℕ)} {input : Input} {files : Files} {before after : StreetTold} {old new : List ℕ}
    (done : WasDone words input files before after (Some old) (Some new)) where
  pub over_report : (capacity : ℕ) → AreBare words capacity
      → (bytes : List ℕ) × (events : List Event) × input bytes × (script_of Bare bytes ≡ Ok events)
      × IsPromisedText (settings.bare capacity) events (bare_report_text (settings.bare capacity) events)
      × (new ≡ old ++ bare_report_text (settings.bare capacity) events)
  over_report capacity are =
      let is = done.bare capacity are in (
        is.0,
        is.1,
        is.2,
        is.3,
        bare_promised words capacity is.0 is.1 (bare_report_text (settings.bare capacity) is.1) are is.3 is.4,
        is.5,
      )

  pub over_config : (task : ConfigCommand) (path : List ℕ) → AreOver task words path
      → (c : Config) × (text : List ℕ) × IsConfigFrom files path c × IsTextOver task c text × (new ≡ old ++ text)
  over_config Check path are = let is = done.checked path are in (is.0, one_line (codes "ok"), is.1, refl, is.2)
  over_config Table path are = let is = done.tabled path are in (is.0, table_text (table_records is.0), is.1, refl, is.2)
  over_config Migrate path are = done.migrated path are

  pub over_played : (start : RoverStart) (config session : List ℕ) → ArePlayed start words config session
      → (c : Config) × (events : List Event) × (text : List ℕ) × IsConfigFrom files config c
      × IsSessionFrom files session c events × IsReportText start c events text
      × IsPromisedReport start c events text × (new ≡ old ++ text)
  over_played Cold config session are =
      let is = done.played Cold config session are in (
        is.0,
        is.1,
        is.2,
        is.3,
        is.4,
        is.5,
        replay_promised files config session is.0 is.1 is.2 is.3 is.4 is.5,
        is.6,
      )
  over_played Warm config session are =
      let is = done.played Warm config session are in (
        is.0,
        is.1,
        is.2,
        is.3,
        is.4,
        is.5,
        warm_promised files config session is.0 is.1 is.2 is.3 is.4 is.5,
        is.6,
      )

-- ---- a caster, over a street that logs

pub over_served : (words : List (List ℕ)) (input : Input) (files : Files) (first last : StreetLog) (old new : List ℕ)
    → WasDone words input files (street_logged first) (street_logged last) (Some old) (Some new)
    → (config addr : List ℕ) (limit : ℕ) → AreServe words config addr limit
    → (c : Config) × (closed : Closed) × IsConfigFrom files config c × HasServedAll c addr limit first last closed
    × (new ≡ old ++ closed_text c closed)
over_served words input files first last old new done config addr limit are =
    let is = done.served config addr limit are in
    (is.0, is.1, is.2, served_logged is.0 addr limit first last is.1 is.3, is.4)

pub over_recorded : (words : List (List ℕ)) (input : Input) (files : Files) (first last : StreetLog)
    (old new : List ℕ) → WasDone words input files (street_logged first) (street_logged last) (Some old) (Some new)
    → (config addr : List ℕ) (limit : ℕ) → AreRecord words config addr limit
    → (c : Config) × (events : List Event) × IsConfigFrom files config c
    × HasRecordedAll c addr limit first last events × (new ≡ old ++ script_text events)
over_recorded words input files first last old new done config addr limit are =
    let is = done.recorded config addr limit are in (
      is.0,
      is.1,
      is.2,
      recorded_logged is.0 addr limit first last is.1 is.3
          (record_promised files config addr limit (street_logged first) (street_logged last) is.0 is.1 is.3 is.2),
      is.4,
    )
