-- What was decided before anything is written, and what it stands on.
use Rattle.std.specs.Prelude.{◌≡◌, ℕ, ◌⊎◌, List, codes, Option, ⊤}
use Rattle.session_script.specs.declared.ScriptKind.TheVariants.{Bare}
use Rattle.session_script.specs.Script.{script_of}
use Rattle.cast_io.specs.declared.reading.ReadAllFault.{ReadAllFault}
use Rattle.cast_io.specs.declared.reading.ReadAllFault.TheVariants as causes
use Rattle.cast_io.specs.Causes.{Rose}
use Rattle.cast_config.specs.declared.config.Config.{Config}
use Rattle.cast_config.specs.Bare as settings
use Rattle.cast_io.specs.Pieces.{AppendsPrefix}
use Rattle.run_texts.specs.Texts.{made_text}
use Rattle.caster_top.specs.declared.answers.Answer.{Answer}
use Rattle.caster_top.specs.declared.answers.Answer.TheVariants.{Done, Valid, NoConfig, NoSession, Usage, Long, ReadFault, NetworkFault, Memory}
use Rattle.caster_top.specs.declared.command.ConfigCommand.{ConfigCommand}
use Rattle.caster_top.specs.declared.command.RoverStart.{RoverStart}
use Rattle.caster_top.specs.declared.command.RoverStart.TheVariants.{Cold}
use Rattle.caster_top.specs.Command.{Form, bare, over, replay, made, casting, keeping, fetching}
use Rattle.caster_top.specs.Outcome.{Exit, ExitRule, exactly, EndsSo, Came, ending_of_bytes, ending_of_config, ending_of_form, ending_of_script, session_in, one_line, whole_exit, usage_exit, long_exit, read_fault_exit, network_exit, memory_exit}
use Rattle.caster_top.specs.Told.{Files, Input, IsConfigIn, IsOutcome, EndsWith, HaveForm, HaveFault}

-- what the program ends with after this answer, where no write fails
abbrev pub exit_of : Answer → Exit
exit_of (Done text) = whole_exit text.items
exit_of Valid = whole_exit (one_line (codes "ok"))
exit_of (NoConfig text) = record { status = 2; text = text.items }
exit_of (NoSession text) = record { status = 3; text = text.items }
exit_of Usage = usage_exit
exit_of Long = long_exit
exit_of ReadFault = read_fault_exit
exit_of NetworkFault = network_exit
exit_of Memory = memory_exit

-- the answer where an input or a file could not be read to its end
abbrev pub answer_of_fault : ReadAllFault → Answer
answer_of_fault causes.Failed = ReadFault
answer_of_fault causes.Long = Long
answer_of_fault causes.Memory = Memory

-- the answer is such an end of the program; want of memory and a fault of reading have their causes
abbrev pub IsGiven : Type 0 → Type 0 → (Exit → Type 0) → Answer → Type 0
IsGiven memory fault IsSuch Memory = memory
IsGiven memory fault IsSuch ReadFault = fault
IsGiven memory fault IsSuch answer = IsSuch (exit_of answer)

-- the answer is such an end of the program, or want of memory
abbrev pub GivesEnd : ExitRule → Answer → Type 0
GivesEnd ending answer = IsGiven ⊤ ⊥ (EndsSo ending) answer

-- how a bare session over a ring of this capacity ends, with what came from the input
abbrev pub IsInputEnd : ℕ → Input → Exit → Type 0
IsInputEnd capacity input end = (script : List ℕ) × input script
    × EndsSo (ending_of_script Cold (settings.bare capacity) (script_of Bare script)) end

abbrev pub IsInputAnswer : ℕ → Input → Type 0 → Answer → Type 0
IsInputAnswer capacity input fault answer = IsGiven ⊤ fault (IsInputEnd capacity input) answer

-- how a command ends that does this with the configuration in the file of this path
abbrev pub IsFileEnd : ConfigCommand → List ℕ → Files → Exit → Type 0
IsFileEnd aim path files end = (config : List ℕ) × files path config
    × EndsSo (ending_of_bytes (ending_of_config aim) config) end

abbrev pub IsFileAnswer : ConfigCommand → List ℕ → Files → Type 0 → Answer → Type 0
IsFileAnswer aim path files fault answer = IsGiven ⊤ fault (IsFileEnd aim path files) answer

-- the bytes are no configuration, and so the program ends, whatever comes next with one
pub record IsRefused (bytes : List ℕ) (end : Exit) : Type 0 where
  pub none : (c : Config) → IsConfigIn bytes c → ⊥
  pub ends : (next : Config → ExitRule) → EndsSo (ending_of_bytes next bytes) end

-- how a command ends for whose configuration the file of this path holds no configuration
abbrev pub IsRefusedAt : List ℕ → Files → Exit → Type 0
IsRefusedAt path files end = (config : List ℕ) × files path config × IsRefused config end

abbrev pub IsRefusal : List ℕ → Files → Type 0 → Answer → Type 0
IsRefusal path files fault answer = IsGiven ⊤ fault (IsRefusedAt path files) answer

-- how the session in the file of this path ends over a configuration, whose rovers start so
abbrev pub IsSessionEnd : RoverStart → Config → List ℕ → Files → Exit → Type 0
IsSessionEnd start c path files end = (script : List ℕ) × files path script
    × EndsSo (ending_of_script start c (session_in c script)) end

abbrev pub IsSessionAnswer : RoverStart → Config → List ℕ → Files → Type 0 → Answer → Type 0
IsSessionAnswer start c path files fault answer =
    IsGiven ⊤ fault (IsSessionEnd start c path files) answer

-- how a session ends over the configuration in another file: the paths of both
abbrev pub IsReplayEnd : RoverStart → List ℕ → List ℕ → Files → Exit → Type 0
IsReplayEnd start config session files end = (came : Came)
    × files config came.config
    × ((c : Config) → IsConfigIn came.config c → files session came.script)
    × EndsSo (ending_of_form (replay start config session) came) end

abbrev pub IsReplayAnswer : RoverStart → List ℕ → List ℕ → Files → Type 0 → Answer → Type 0
IsReplayAnswer start config session files fault answer =
    IsGiven ⊤ fault (IsReplayEnd start config session files) answer

-- the answer to a command of this form that files and input decide alone
abbrev pub IsOfflineAnswer : Form → Input → Files → Type 0 → Type 0 → Answer → Type 0
IsOfflineAnswer (bare capacity) input files of_input of_store answer =
    IsInputAnswer capacity input of_input answer
IsOfflineAnswer (over aim path) input files of_input of_store answer =
    IsFileAnswer aim path files of_store answer
IsOfflineAnswer (replay start config session) input files of_input of_store answer =
    IsReplayAnswer start config session files of_store answer
IsOfflineAnswer (made seed frames rovers) input files of_input of_store answer =
    GivesEnd (exactly (whole_exit (made_text seed frames rovers))) answer
IsOfflineAnswer (casting task config addr limit) input files of_input of_store answer = ⊥
IsOfflineAnswer (keeping config addr quiet) input files of_input of_store answer = ⊥
IsOfflineAnswer (fetching frames targets) input files of_input of_store answer = ⊥

-- the answer to these words, this input and these files: want of memory, a fault of reading that
-- was counted, or the outcome
abbrev pub IsAnswer : List (List ℕ) → Input → Files → Type 0 → Type 0 → Answer → Type 0
IsAnswer words input files of_input of_store answer =
    IsGiven (HaveForm words) (HaveFault words of_input of_store) (IsOutcome words input files)
    answer

-- the text of this end was written and its status given, or status 5 with a write that failed
-- inside the text
abbrev pub Writes : Exit → Option (List ℕ) → Option (List ℕ) → ℕ → ℕ → ℕ → Type 0
Writes end old new before now status =
    EndsWith status old new end ⊎ ((status ≡ 5) × Rose before now × AppendsPrefix old new end.text)
