-- An answer stands on the words and on the bytes that came.
use Rattle.std.proofs.Common.{◌≡◌, ℕ, ◌<◌, ◌≤◌, true, false, nat_lt, List, [], length, Option, None, Some, Result, Ok, Err, refl, ap, sym, subst, ◌∙◌, arith}
use Rattle.std.specs.Prelude.{⊤}
use Rattle.std.proofs.lemmas.Bool.Decides.{nat_tests}
use Rattle.session_script.specs.declared.Event.{Event}
use Rattle.session_script.specs.declared.ScriptKind.{ScriptKind}
use Rattle.session_script.specs.declared.ScriptKind.TheVariants.{Bare, Replay}
use Rattle.session_script.specs.declared.ScriptFault.{ScriptFault}
use Rattle.session_script.specs.declared.ScriptFault.TheVariants as faults
use Rattle.session_script.specs.Script.{script_of}
use Rattle.cast_io.specs.declared.reading.ReadAllFault.{ReadAllFault}
use Rattle.cast_io.specs.declared.reading.ReadAllFault.TheVariants as causes
use Rattle.cast_config.specs.declared.config.Config.{Config}
use Rattle.cast_config.specs.declared.fault.ConfigFault.{ConfigFault}
use Rattle.cast_config.specs.declared.fault.ConfigFault.TheVariants as configs
use Rattle.cast_config.specs.Bare as settings
use Rattle.cast_config.specs.Document.{IsRead}
use Rattle.run_texts.specs.Texts.{made_text}
use Rattle.caster_top.specs.declared.answers.Answer.{Answer}
use Rattle.caster_top.specs.declared.answers.Answer.TheVariants.{Done, Valid, NoConfig, NoSession, Usage, Long, ReadFault, NetworkFault, Memory}
use Rattle.caster_top.specs.declared.command.ConfigCommand.{ConfigCommand}
use Rattle.caster_top.specs.declared.command.RoverStart.{RoverStart}
use Rattle.caster_top.specs.declared.command.RoverStart.TheVariants.{Cold}
use Rattle.caster_top.specs.Command.{Form, bare, over, replay, made, casting, keeping, fetching, AreBare, AreOver, ArePlayed, AreMake, form_of}
use Rattle.caster_top.specs.Reading.{config_in}
use Rattle.caster_top.specs.Outcome.{Exit, ExitRule, exactly, EndsSo, Came, usage_exit, long_exit, read_fault_exit, memory_exit, whole_exit, session_in, exit_of_config_fault, ending_of_script, ending_of_config, ending_of_read, ending_of_bytes, ending_of, outcome}
use Rattle.caster_top.specs.Told.{Files, Input, IsConfigFrom, ComesFrom, HasCome, IsOutcome}
use Rattle.caster_top.specs.Answers.{answer_of_fault, exit_of, GivesEnd, IsGiven, IsInputEnd, IsInputAnswer, IsFileEnd, IsFileAnswer, IsRefused, IsRefusedAt, IsRefusal, IsSessionEnd, IsSessionAnswer, IsReplayEnd, IsReplayAnswer, IsAnswer}
use Rattle.caster_top.proofs.ReadingLemmas.{config_in-ok, config_in-fault}

-- ---- answers

-- what is given by each of the answers is given so
pub given_such : {M N F G : Type 0} (P Q : Exit → Type 0) → (M → N) → (F → G)
    → ((end : Exit) → P end → Q end) → (answer : Answer) → IsGiven M F P answer → IsGiven N G Q answer
given_such P Q memory fault such Memory given = memory given
given_such P Q memory fault such ReadFault given = fault given
given_such P Q memory fault such (Done text) given = such _ given
given_such P Q memory fault such Valid given = such _ given
given_such P Q memory fault such (NoConfig text) given = such _ given
given_such P Q memory fault such (NoSession text) given = such _ given
given_such P Q memory fault such Usage given = such _ given
given_such P Q memory fault such Long given = such _ given
given_such P Q memory fault such NetworkFault given = such _ given

-- what is given so is an end of the program, want of memory and a fault of reading among them
pub given_end : {M F : Type 0} (P Q : Exit → Type 0) → (M → Q memory_exit) → (F → Q read_fault_exit)
    → ((end : Exit) → P end → Q end) → (answer : Answer) → IsGiven M F P answer → Q (exit_of answer)
given_end P Q memory fault such Memory given = memory given
given_end P Q memory fault such ReadFault given = fault given
given_end P Q memory fault such (Done text) given = such _ given
given_end P Q memory fault such Valid given = such _ given
given_end P Q memory fault such (NoConfig text) given = such _ given
given_end P Q memory fault such (NoSession text) given = such _ given
given_end P Q memory fault such Usage given = such _ given
given_end P Q memory fault such Long given = such _ given
given_end P Q memory fault such NetworkFault given = such _ given

-- ---- words

-- the outcome of words that have been read
pub outcome-form : (words : List (List ℕ)) (came : Came) (read : Option Form) → form_of words ≡ read
    → ending_of read came ≡ outcome words came
unfolding outcome
outcome-form words came read h = ap (λ f. ending_of f came) (sym h)

-- an end of the words' form is one of the words
pub outcome_of_read : (words : List (List ℕ)) (input : Input) (files : Files) (read : Option Form)
    (came : Came) (end : Exit) → form_of words ≡ read → HasCome read input files came → EndsSo (ending_of read came) end
    → IsOutcome words input files end
outcome_of_read words input files read came end h told ends = (
  came,
  subst (λ (f : Option Form). HasCome f input files came) (sym h) told,
  subst (λ (e : ExitRule). EndsSo e end) (outcome-form words came read h) ends,
)

abbrev pub nothing_came : Came
nothing_came = record { script = []; config = []; failed = false }

-- whatever came, the outcome of words of no form is the same
pub usage_is_outcome : (words : List (List ℕ)) (input : Input) (files : Files) → form_of words ≡ None
    → IsOutcome words input files usage_exit
usage_is_outcome words input files h = outcome_of_read words input files None nothing_came usage_exit h tt refl

-- ---- bare sessions

abbrev pub script_came : List ℕ → Came
script_came script = record { script = script; config = []; failed = false }

-- the answer to the input is that to the words
pub input_answer : (words : List (List ℕ)) (input : Input) (files : Files) (of_input of_store : Type 0)
    (capacity : ℕ) (answer : Answer) → form_of words ≡ Some (bare capacity) → AreBare words capacity
    → IsInputAnswer capacity input of_input answer → IsAnswer words input files of_input of_store answer
input_answer words input files of_input of_store capacity answer h are is =
    given_such (IsInputEnd capacity input) (IsOutcome words input files)
    (λ memory. (bare capacity, are)) (λ fault. (bare capacity, are, fault))
    (λ end ends. outcome_of_read words input files (Some (bare capacity)) (script_came ends.0) end h ends.1 ends.2)
    answer is

-- more bytes than a script has are no script
pub script_of-long : (kind : ScriptKind) (bytes : List ℕ) → 8388608 < length bytes → script_of kind bytes ≡ Err faults.Long
unfolding script_of
script_of-long kind bytes long =
    let e : nat_lt 8388608 (length bytes) ≡ true = grind (arith, nat_tests, long) in rw e refl

long_ends : (start : RoverStart) (c : Config) (kind : ScriptKind) (bytes : List ℕ) → 8388608 < length bytes
    → EndsSo (ending_of_script start c (script_of kind bytes)) long_exit
long_ends start c kind bytes long =
    subst (λ (s : Result (List Event) ScriptFault). EndsSo (ending_of_script start c s) long_exit)
    (sym (script_of-long kind bytes long)) refl

pub long_input : (input : Input) (capacity : ℕ) (fault : Type 0)
    → (bytes : List ℕ) × input bytes × (8388608 < length bytes) → IsInputAnswer capacity input fault Long
long_input input capacity fault is =
    (is.0, is.1, long_ends Cold (settings.bare capacity) Bare is.0 is.2)

-- the answer to a script is that to the input
pub script_answer : (input : Input) (capacity : ℕ) (bytes : List ℕ) (fault : Type 0) (answer : Answer)
    → input bytes → GivesEnd (ending_of_script Cold (settings.bare capacity) (script_of Bare bytes)) answer
    → IsInputAnswer capacity input fault answer
script_answer input capacity bytes fault answer came given =
    given_such (EndsSo (ending_of_script Cold (settings.bare capacity) (script_of Bare bytes)))
    (IsInputEnd capacity input)
    (λ memory. memory) (λ none. absurd none)
    (λ end ends. (bytes, came, ends)) answer given

-- ---- files

abbrev pub config_came : List ℕ → Came
config_came config = record { script = []; config = config; failed = false }

-- the answer to the file is that to the words
pub file_answer : (words : List (List ℕ)) (input : Input) (files : Files) (of_input of_store : Type 0)
    (aim : ConfigCommand) (path : List ℕ) (answer : Answer) → form_of words ≡ Some (over aim path) → AreOver aim words path
    → IsFileAnswer aim path files of_store answer → IsAnswer words input files of_input of_store answer
file_answer words input files of_input of_store aim path answer h are is =
    given_such (IsFileEnd aim path files) (IsOutcome words input files)
    (λ memory. (over aim path, are)) (λ fault. (over aim path, are, fault))
    (λ end ends. outcome_of_read words input files (Some (over aim path)) (config_came ends.0) end h ends.1 ends.2)
    answer is

-- the size decides first
pub ending_of_bytes-long : (next : Config → ExitRule) (bytes : List ℕ) → 8388608 < length bytes
    → ending_of_bytes next bytes ≡ exactly long_exit
ending_of_bytes-long next bytes long =
    let e : nat_lt 8388608 (length bytes) ≡ true = grind (arith, nat_tests, long) in rw e refl

pub ending_of_bytes-short : (next : Config → ExitRule) (bytes : List ℕ) → length bytes ≤ 8388608
    → ending_of_bytes next bytes ≡ ending_of_read next (config_in bytes)
ending_of_bytes-short next bytes short =
    let e : nat_lt 8388608 (length bytes) ≡ false = grind (arith, nat_tests, short) in rw e refl

-- and then what they say
pub ending_of_bytes-read : (next : Config → ExitRule) (bytes : List ℕ) (read : Result Config ConfigFault)
    → length bytes ≤ 8388608 → config_in bytes ≡ read → ending_of_bytes next bytes ≡ ending_of_read next read
ending_of_bytes-read next bytes read short h =
    ending_of_bytes-short next bytes short ∙ ap (λ (r : Result Config ConfigFault). ending_of_read next r) h

-- ---- configurations

-- the file of this path ends so where it holds this configuration
pub at_end : (next : Config → ExitRule) (files : Files) (path : List ℕ) (c : Config) (end : Exit)
    → (is : IsConfigFrom files path c) → EndsSo (next c) end → EndsSo (ending_of_bytes next is.0) end
at_end next files path c end is ends =
    subst (λ (e : ExitRule). EndsSo e end)
    (sym (ending_of_bytes-read next is.0 (Ok c) is.2 (config_in-ok is.0 c is.3))) ends

-- the answer to a configuration is that to its file
pub config_answer : (aim : ConfigCommand) (path : List ℕ) (files : Files) (fault : Type 0) (c : Config) (answer : Answer)
    → IsConfigFrom files path c → GivesEnd (ending_of_config aim c) answer → IsFileAnswer aim path files fault answer
config_answer aim path files fault c answer is given =
    given_such (EndsSo (ending_of_config aim c)) (IsFileEnd aim path files) (λ memory. memory) (λ none. absurd none)
    (λ end ends. (is.0, is.1, at_end (ending_of_config aim) files path c end is ends)) answer given

-- and so is the answer where there is none
pub refused_file : (aim : ConfigCommand) (path : List ℕ) (files : Files) (fault : Type 0) (answer : Answer)
    → IsRefusal path files fault answer → IsFileAnswer aim path files fault answer
refused_file aim path files fault answer is =
    given_such (IsRefusedAt path files) (IsFileEnd aim path files) (λ memory. memory) (λ counted. counted)
    (λ end refused. (refused.0, refused.1, refused.2.ends (ending_of_config aim))) answer is

-- only want of memory ends as want of memory does
memory_given : (P : Exit → Type 0) (answer : Answer) → GivesEnd (exactly memory_exit) answer → IsGiven ⊤ ⊥ P answer
memory_given P Memory given = tt
memory_given P ReadFault given = absurd given
memory_given P (Done text) given = let e = ap (λ (end : Exit). end.status) given in absurd (omega (arith, e))
memory_given P Valid given = let e = ap (λ (end : Exit). end.status) given in absurd (omega (arith, e))
memory_given P (NoConfig text) given =
    let e = ap (λ (end : Exit). end.status) given in absurd (omega (arith, e))
memory_given P (NoSession text) given =
    let e = ap (λ (end : Exit). end.status) given in absurd (omega (arith, e))
memory_given P Usage given = let e = ap (λ (end : Exit). end.status) given in absurd (omega (arith, e))
memory_given P Long given = let e = ap (λ (end : Exit). end.status) given in absurd (omega (arith, e))
memory_given P NetworkFault given =
    let e = ap (λ (end : Exit). end.status) given in absurd (omega (arith, e))

other_fault : (bytes : List ℕ) (fault : ConfigFault) (answer : Answer) → length bytes ≤ 8388608
    → config_in bytes ≡ Err fault → GivesEnd (exactly (exit_of_config_fault fault)) answer
    → IsGiven ⊤ ⊥ (IsRefused bytes) answer
other_fault bytes fault answer short is given =
    given_such (EndsSo (exactly (exit_of_config_fault fault))) (IsRefused bytes) (λ memory. memory) (λ none. none)
    (λ end ends. record {
      none = λ c config. absurd (let e = config.1 in cc);
      ends = λ next. subst (λ (e : ExitRule). EndsSo e end)
          (sym (ending_of_bytes-read next bytes (Err fault) short is)) ends;
    }) answer given

-- the answer to a fault is that to the bytes
pub fault_answer : (bytes : List ℕ) (fault : ConfigFault) (answer : Answer) → length bytes ≤ 8388608
    → IsRead bytes (Err fault) → GivesEnd (exactly (exit_of_config_fault fault)) answer
    → IsGiven ⊤ ⊥ (IsRefused bytes) answer
fault_answer bytes configs.Memory answer short is given = memory_given (IsRefused bytes) answer given
fault_answer bytes configs.Toml answer short is given =
    other_fault bytes configs.Toml answer short (config_in-fault bytes configs.Toml is (λ e. absurd cc)) given
fault_answer bytes (configs.Missing key) answer short is given =
    other_fault bytes (configs.Missing key) answer short (config_in-fault bytes _ is (λ e. absurd cc)) given
fault_answer bytes (configs.Wrong key) answer short is given =
    other_fault bytes (configs.Wrong key) answer short (config_in-fault bytes _ is (λ e. absurd cc)) given
fault_answer bytes (configs.Range key) answer short is given =
    other_fault bytes (configs.Range key) answer short (config_in-fault bytes _ is (λ e. absurd cc)) given
fault_answer bytes (configs.Twice key) answer short is given =
    other_fault bytes (configs.Twice key) answer short (config_in-fault bytes _ is (λ e. absurd cc)) given
fault_answer bytes (configs.Unknown key) answer short is given =
    other_fault bytes (configs.Unknown key) answer short (config_in-fault bytes _ is (λ e. absurd cc)) given

-- ---- sessions over a configuration

-- a session is too long
pub long_session : (start : RoverStart) (c : Config) (path : List ℕ) (files : Files) (fault : Type 0)
    → (bytes : List ℕ) × files path bytes × (8388608 < length bytes)
    → IsSessionAnswer start c path files fault Long
long_session start c path files fault is = (is.0, is.1, long_ends start c (Replay (length c.relay)) is.0 is.2)

abbrev pub both_came : List ℕ → List ℕ → Came
both_came config script = record { script = script; config = config; failed = false }

-- the answer to a session is that to both files
pub replay_answer : (start : RoverStart) (config session : List ℕ) (early late files : Files) (late_fault fault : Type 0)
    (c : Config) (answer : Answer) → IsConfigFrom early config c
    → ((bytes : List ℕ) → early config bytes → files config bytes)
    → ((bytes : List ℕ) → late session bytes → files session bytes) → (late_fault → fault)
    → IsSessionAnswer start c session late late_fault answer → IsReplayAnswer start config session files fault answer
replay_answer start config session early late files late_fault fault c answer is first second counts given =
    given_such (IsSessionEnd start c session late) (IsReplayEnd start config session files) (λ memory. memory) counts
    (λ end ends. (
      both_came is.0 ends.0,
      first is.0 is.1,
      (λ d there. second ends.0 ends.1),
      at_end (λ d. ending_of_script start d (session_in d ends.0)) early config c end is ends.2,
    )) answer given

-- and so is the answer where there is no configuration
pub refused_replay : (start : RoverStart) (config session : List ℕ) (files : Files) (fault : Type 0) (answer : Answer)
    → IsRefusal config files fault answer → IsReplayAnswer start config session files fault answer
refused_replay start config session files fault answer is =
    given_such (IsRefusedAt config files) (IsReplayEnd start config session files) (λ memory. memory)
    (λ counted. counted)
    (λ end refused. (
      config_came refused.0,
      refused.1,
      (λ c there. absurd (refused.2.none c there)),
      refused.2.ends (λ c. ending_of_script start c (session_in c [])),
    )) answer is

-- the answer to the files is that to the words
pub files_answer : (words : List (List ℕ)) (input : Input) (files : Files) (of_input of_store : Type 0)
    (start : RoverStart) (config session : List ℕ) (answer : Answer) → form_of words ≡ Some (replay start config session)
    → ArePlayed start words config session → IsReplayAnswer start config session files of_store answer
    → IsAnswer words input files of_input of_store answer
files_answer words input files of_input of_store start config session answer h are is =
    given_such (IsReplayEnd start config session files) (IsOutcome words input files)
    (λ memory. (replay start config session, are)) (λ fault. (replay start config session, are, fault))
    (λ end ends. outcome_of_read words input files (Some (replay start config session)) ends.0 end h (ends.1, ends.2)
    ends.3)
    answer is

-- ---- sessions that are made

pub made_answer : (words : List (List ℕ)) (input : Input) (files : Files) (of_input of_store : Type 0)
    (seed frames rovers : ℕ) (answer : Answer) → form_of words ≡ Some (made seed frames rovers)
    → AreMake words seed frames rovers → GivesEnd (exactly (whole_exit (made_text seed frames rovers))) answer
    → IsAnswer words input files of_input of_store answer
made_answer words input files of_input of_store seed frames rovers answer h are is =
    given_such (EndsSo (exactly (whole_exit (made_text seed frames rovers)))) (IsOutcome words input files)
    (λ memory. (made seed frames rovers, are)) (λ none. absurd none)
    (λ end ends. outcome_of_read words input files (Some (made seed frames rovers)) nothing_came end h tt ends)
    answer is

-- ---- what could not be read to its end

abbrev is_long : List ℕ → Type 0
is_long bytes = 8388608 < length bytes

pub unread_input : (input : Input) (capacity : ℕ) (fault : Type 0) (cause : ReadAllFault)
    → (cause ≡ causes.Long → (bytes : List ℕ) × input bytes × is_long bytes) → (cause ≡ causes.Failed → fault)
    → IsInputAnswer capacity input fault (answer_of_fault cause)
unread_input input capacity fault causes.Failed long failed = failed refl
unread_input input capacity fault causes.Long long failed = long_input input capacity fault (long refl)
unread_input input capacity fault causes.Memory long failed = tt

pub unread_session : (start : RoverStart) (c : Config) (path : List ℕ) (files : Files) (fault : Type 0) (cause : ReadAllFault)
    → (cause ≡ causes.Long → (bytes : List ℕ) × files path bytes × is_long bytes)
    → (cause ≡ causes.Failed → fault) → IsSessionAnswer start c path files fault (answer_of_fault cause)
unread_session start c path files fault causes.Failed long failed = failed refl
unread_session start c path files fault causes.Long long failed = long_session start c path files fault (long refl)
unread_session start c path files fault causes.Memory long failed = tt

long_refused : (path : List ℕ) (files : Files) → (bytes : List ℕ) × files path bytes × is_long bytes
    → IsRefusedAt path files long_exit
long_refused path files is = (
  is.0,
  is.1,
  record {
    none = λ c inside. absurd (omega (arith, is.2, inside.0));
    ends = λ next. subst (λ (e : ExitRule). EndsSo e long_exit) (sym (ending_of_bytes-long next is.0 is.2)) refl;
  },
)

pub unread_config : (path : List ℕ) (files : Files) (fault : Type 0) (cause : ReadAllFault)
    → (cause ≡ causes.Long → (bytes : List ℕ) × files path bytes × is_long bytes)
    → (cause ≡ causes.Failed → fault) → IsRefusal path files fault (answer_of_fault cause)
unread_config path files fault causes.Failed long failed = failed refl
unread_config path files fault causes.Long long failed = long_refused path files (long refl)
unread_config path files fault causes.Memory long failed = tt

-- ---- from more

-- what came from here came from there, where all that may come from here may come from there
come_from_more : (form : Form) (input more_input : Input) (files more_files : Files) (came : Came)
    → ((bytes : List ℕ) → input bytes → more_input bytes)
    → ((path bytes : List ℕ) → files path bytes → more_files path bytes) → ComesFrom form input files came
    → ComesFrom form more_input more_files came
come_from_more (bare capacity) input more_input files more_files came inputs each is = inputs came.script is
come_from_more (over aim config) input more_input files more_files came inputs each is = each config came.config is
come_from_more (replay start config session) input more_input files more_files came inputs each is =
    (each config came.config is.0, (λ c there. each session came.script (is.1 c there)))
come_from_more (made seed frames rovers) input more_input files more_files came inputs each is = tt
come_from_more (casting task config addr limit) input more_input files more_files came inputs each is =
    each config came.config is
come_from_more (keeping config addr quiet) input more_input files more_files came inputs each is =
    each config came.config is
come_from_more (fetching frames targets) input more_input files more_files came inputs each is = tt

come_more : (read : Option Form) (input more_input : Input) (files more_files : Files) (came : Came)
    → ((bytes : List ℕ) → input bytes → more_input bytes)
    → ((path bytes : List ℕ) → files path bytes → more_files path bytes) → HasCome read input files came
    → HasCome read more_input more_files came
come_more None input more_input files more_files came inputs each is = tt
come_more (Some form) input more_input files more_files came inputs each is =
    come_from_more form input more_input files more_files came inputs each is

-- and so for the answer to words
pub answer_more : (words : List (List ℕ)) (input more_input : Input) (files more_files : Files)
    (of_input of_store : Type 0) (answer : Answer) → ((bytes : List ℕ) → input bytes → more_input bytes)
    → ((path bytes : List ℕ) → files path bytes → more_files path bytes)
    → IsAnswer words input files of_input of_store answer
    → IsAnswer words more_input more_files of_input of_store answer
answer_more words input more_input files more_files of_input of_store answer inputs each is =
    given_such (IsOutcome words input files) (IsOutcome words more_input more_files) (λ memory. memory)
    (λ fault. fault)
    (λ end is. (is.0, come_more (form_of words) input more_input files more_files is.0 inputs each is.1, is.2))
    answer is
