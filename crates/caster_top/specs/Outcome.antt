-- What the program ends with, in the order of its tests: the words, the size of a configuration,
-- its rules, the size of a script, its grammar, the run.
use Rattle.std.specs.Prelude.{◌≡◌, ℕ, ◌<◌, nat_lt, if◌then◌else◌, Bool, true, false, List, [], ◌∷◌, ◌++◌, length, codes, Option, Some, None, Result, Ok, Err}
use Rattle.std.specs.Fmt.{decimal}
use Rattle.std.specs.List.{concat}
use Rattle.session_script.specs.declared.Event.{Event}
use Rattle.session_script.specs.declared.ScriptKind.TheVariants.{Bare, Replay}
use Rattle.session_script.specs.declared.ScriptFault.{ScriptFault}
use Rattle.session_script.specs.declared.ScriptFault.TheVariants as scripts
use Rattle.session_script.specs.Script.{script_of}
use Rattle.session_script.specs.Writing.{script_text}
use Rattle.sourcetable.specs.Table.{table_text}
use Rattle.cast_config.specs.declared.config.Config.{Config}
use Rattle.cast_config.specs.declared.fault.ConfigFault.{ConfigFault}
use Rattle.cast_config.specs.declared.fault.ConfigFault.TheVariants as configs
use Rattle.cast_config.specs.Bare as settings
use Rattle.cast_config.specs.Faults.{fault_line}
use Rattle.cast_config.specs.Document.{IsRead}
use Rattle.config_table.specs.Table.{table_records}
use Rattle.config_write.specs.Written.{HasVersion}
use Rattle.session_model.specs.declared.report.Closed.{Closed}
use Rattle.session_model.specs.Text.{closed_text}
use Rattle.run_texts.specs.Texts.{IsRunText, IsWarmText, made_text}
use Rattle.caster_top.specs.declared.command.ConfigCommand.{ConfigCommand}
use Rattle.caster_top.specs.declared.command.ConfigCommand.TheVariants.{Check, Table, Migrate}
use Rattle.caster_top.specs.declared.command.RoverStart.{RoverStart}
use Rattle.caster_top.specs.declared.command.RoverStart.TheVariants.{Cold, Warm}
use Rattle.caster_top.specs.declared.command.CasterMode.{CasterMode}
use Rattle.caster_top.specs.declared.command.CasterMode.TheVariants.{Serve, Record}
use Rattle.caster_top.specs.Command.{Form, bare, over, replay, made, casting, keeping, fetching, form_of}
use Rattle.caster_top.specs.Reading.{config_in}

-- how the program ends: its status and what it writes
pub record Exit : Type 0 where
  pub status : ℕ
  pub text : List ℕ

-- how it is to end
pub data ExitRule : Type 0 where
  -- exactly so
  exactly : Exit → ExitRule
  -- with status 0 and any document of version 2 that says this configuration
  document_of : Config → ExitRule
  -- with status 0 and the report of a run of these events over this configuration, whose rovers
  -- start so
  report_of : RoverStart → Config → List Event → ExitRule
  -- with status 0 and what a caster over this configuration came to
  closing_of : Config → ExitRule
  -- with status 0 and the script of a session over this configuration
  script_over : Config → ExitRule
  -- with status 0 and so many frames
  enough_of : ℕ → ExitRule
  -- with status 9 and fewer
  fewer_than : ℕ → ExitRule

-- words as one line
abbrev pub one_line : List ℕ → List ℕ
one_line words = words ++ 10 ∷ []

-- the text is a document of version 2 that is read as this configuration
abbrev pub IsDocumentOf : Config → List ℕ → Type 0
IsDocumentOf c text = IsRead text (Ok c) × HasVersion 2 text

-- the text is what is written of a configuration that is checked, tabled or migrated
abbrev pub IsTextOver : ConfigCommand → Config → List ℕ → Type 0
IsTextOver Check c text = text ≡ one_line (codes "ok")
IsTextOver Table c text = text ≡ table_text (table_records c)
IsTextOver Migrate c text = IsDocumentOf c text

-- the text is that of the report of a run of these events whose rovers start so
abbrev pub IsReportText : RoverStart → Config → List Event → List ℕ → Type 0
IsReportText Cold c events text = IsRunText c events text
IsReportText Warm c events text = IsWarmText c events text

-- what the bytes of a session say, whose relays are those of the configuration
abbrev pub session_in : Config → List ℕ → Result (List Event) ScriptFault
session_in c bytes = script_of (Replay (length c.relay)) bytes

-- the text is that of a script, and is read as the events that it has
abbrev pub IsScriptOver : Config → List ℕ → Type 0
IsScriptOver c text =
    (events : List Event) × (text ≡ script_text events) × (session_in c text ≡ Ok events)

-- the program ended as it was to
abbrev pub EndsSo : ExitRule → Exit → Type 0
EndsSo (exactly wanted) end = end ≡ wanted
EndsSo (document_of c) end = (end.status ≡ 0) × IsDocumentOf c end.text
EndsSo (report_of start c events) end = (end.status ≡ 0) × IsReportText start c events end.text
EndsSo (closing_of c) end = (end.status ≡ 0) × (closed : Closed) × (end.text ≡ closed_text c closed)
EndsSo (script_over c) end = (end.status ≡ 0) × IsScriptOver c end.text
EndsSo (enough_of most) end = (end.status ≡ 0)
    × (frames : List (List ℕ)) × (end.text ≡ concat frames) × (length frames ≡ most)
EndsSo (fewer_than most) end = (end.status ≡ 9)
    × (frames : List (List ℕ)) × (end.text ≡ concat frames) × (length frames < most)

abbrev pub whole_exit : List ℕ → Exit
whole_exit text = record { status = 0; text = text }

abbrev pub usage_exit : Exit
usage_exit = record { status = 1; text = one_line (codes "usage") }

abbrev pub read_fault_exit : Exit
read_fault_exit = record { status = 4; text = one_line (codes "read fault") }

abbrev pub network_exit : Exit
network_exit = record { status = 6; text = one_line (codes "network fault") }

abbrev pub memory_exit : Exit
memory_exit = record { status = 7; text = one_line (codes "memory") }

abbrev pub long_exit : Exit
long_exit = record { status = 8; text = one_line (codes "too long") }

-- ---- scripts

-- a script's fault, in words
abbrev pub session_exit : List ℕ → Exit
session_exit words = record { status = 3; text = codes "session: " ++ one_line words }

-- the input is no script
abbrev pub exit_of_fault : ScriptFault → Exit
exit_of_fault (scripts.Line n) = session_exit (codes "line " ++ decimal n)
exit_of_fault (scripts.State n) = session_exit (codes "state " ++ decimal n)
exit_of_fault scripts.NoStop = session_exit (codes "no stop")
exit_of_fault scripts.Long = long_exit
exit_of_fault scripts.Memory = memory_exit

-- the run of a script over a configuration, whose rovers start so
abbrev pub ending_of_script : RoverStart → Config → Result (List Event) ScriptFault → ExitRule
ending_of_script start c (Ok events) = report_of start c events
ending_of_script start c (Err fault) = exactly (exit_of_fault fault)

-- ---- configurations

-- the bytes are no configuration: the line of its fault
abbrev pub exit_of_config_fault : ConfigFault → Exit
exit_of_config_fault configs.Memory = memory_exit
exit_of_config_fault fault = record { status = 2; text = fault_line fault }

-- what is done with a configuration
abbrev pub ending_of_config : ConfigCommand → Config → ExitRule
ending_of_config Check c = exactly (whole_exit (one_line (codes "ok")))
ending_of_config Table c = exactly (whole_exit (table_text (table_records c)))
ending_of_config Migrate c = document_of c

-- a caster over a configuration, where the network failed or not
abbrev pub ending_of_casting : CasterMode → (failed : Bool) → Config → ExitRule
ending_of_casting task true c = exactly network_exit
ending_of_casting Serve false c = closing_of c
ending_of_casting Record false c = script_over c

-- a caster that keeps serving, where the network failed or not: its lines and its totals are
-- written already
abbrev pub ending_of_keeping : (failed : Bool) → Config → ExitRule
ending_of_keeping true c = exactly network_exit
ending_of_keeping false c = exactly (whole_exit [])

-- a fetch of so many frames, where too few came or not
abbrev pub ending_of_fetching : (too_few : Bool) → ℕ → ExitRule
ending_of_fetching true frames = fewer_than frames
ending_of_fetching false frames = enough_of frames

-- with a configuration this comes next
abbrev pub ending_of_read : (Config → ExitRule) → Result Config ConfigFault → ExitRule
ending_of_read next (Ok c) = next c
ending_of_read next (Err fault) = exactly (exit_of_config_fault fault)

-- a configuration has at most 8 MiB
abbrev pub ending_of_bytes : (Config → ExitRule) → List ℕ → ExitRule
ending_of_bytes next bytes =
    if nat_lt 8388608 (length bytes) then exactly long_exit
    else ending_of_read next (config_in bytes)

-- ---- words

-- what came from outside: the bytes of the script and those of the configuration, as far as the
-- words' form reads them, and whether the network failed a caster, or too few frames
-- came for a fetch
pub record Came : Type 0 where
  pub script : List ℕ
  pub config : List ℕ
  pub failed : Bool

abbrev pub ending_of_form : Form → Came → ExitRule
ending_of_form (bare capacity) came =
    ending_of_script Cold (settings.bare capacity) (script_of Bare came.script)
ending_of_form (over aim config) came = ending_of_bytes (ending_of_config aim) came.config
ending_of_form (replay start config session) came =
    ending_of_bytes (λ c. ending_of_script start c (session_in c came.script)) came.config
ending_of_form (made seed frames rovers) came =
    exactly (whole_exit (made_text seed frames rovers))
ending_of_form (casting task config addr limit) came =
    ending_of_bytes (ending_of_casting task came.failed) came.config
ending_of_form (keeping config addr quiet) came =
    ending_of_bytes (ending_of_keeping came.failed) came.config
ending_of_form (fetching frames targets) came = ending_of_fetching came.failed frames

abbrev pub ending_of : Option Form → Came → ExitRule
ending_of None came = exactly usage_exit
ending_of (Some form) came = ending_of_form form came

-- what the program is to end with for these words and these bytes, where no read or write fails and
-- there is memory
unfoldable pub outcome : List (List ℕ) → Came → ExitRule
outcome words came = ending_of (form_of words) came
