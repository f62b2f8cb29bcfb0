-- What words say that are read as a command which files and input decide alone.
use Rattle.std.proofs.Common.{◌≡◌, ℕ, List, Some}
use Rattle.caster_top.specs.declared.answers.Answer.{Answer}
use Rattle.caster_top.specs.declared.command.Offline.{Offline}
use Rattle.caster_top.specs.declared.command.Offline.TheVariants as offline
use Rattle.caster_top.specs.declared.command.CasterMode.{CasterMode}
use Rattle.caster_top.specs.Command.{Form, bare, over, replay, made, casting, keeping, fetching, AreCasting, AreOf, IsWithin, NameNoFile, NamesNoFile, ReadNoInput, ReadsNoInput, form_of, offline_form}
use Rattle.caster_top.specs.Told.{Files, Input}
use Rattle.caster_top.specs.Answers.{IsAnswer, IsOfflineAnswer}
use Rattle.caster_top.proofs.AnswerLemmas.{input_answer, file_answer, files_answer, made_answer}
use Rattle.caster_top.proofs.CastingLemmas.{read_other}

-- their numbers are within the limits
pub within_limits : (words : List (List ℕ)) (form : Form) → AreOf words form → IsWithin form
within_limits words (bare capacity) are = (are.least, are.most)
within_limits words (over aim path) are = tt
within_limits words (replay start config session) are = tt
within_limits words (made seed frames rovers) are =
    (are.frames_are.0, are.frames_are.1, are.rovers_are.0, are.rovers_are.1)
within_limits words (casting task config addr limit) are = tt
within_limits words (keeping config addr quiet) are = tt
within_limits words (fetching frames targets) are = tt

-- what is said of the words is said of their form
pub reads_nothing : (words : List (List ℕ)) (form : Form) → AreOf words form → ReadNoInput words → ReadsNoInput form
reads_nothing words (bare capacity) are none = none capacity are
reads_nothing words (over aim path) are none = tt
reads_nothing words (replay start config session) are none = tt
reads_nothing words (made seed frames rovers) are none = tt
reads_nothing words (casting task config addr limit) are none = tt
reads_nothing words (keeping config addr quiet) are none = tt
reads_nothing words (fetching frames targets) are none = tt

pub names_nothing : (words : List (List ℕ)) (form : Form) → AreOf words form → NameNoFile words → NamesNoFile form
names_nothing words (bare capacity) are none = tt
names_nothing words (over aim path) are none = none.0 aim path are
names_nothing words (replay start config session) are none = none.1 start config session are
names_nothing words (made seed frames rovers) are none = tt
names_nothing words (casting task config addr limit) are none = none.2 task config addr limit are
names_nothing words (keeping config addr quiet) are none = none.3 config addr quiet are
names_nothing words (fetching frames targets) are none = tt

-- the answer to the command is the answer to the words
pub offline_answer : (words : List (List ℕ)) (input : Input) (files : Files) (of_input of_store : Type 0)
    (form : Form) (answer : Answer) → form_of words ≡ Some form → AreOf words form
    → IsOfflineAnswer form input files of_input of_store answer → IsAnswer words input files of_input of_store answer
offline_answer words input files of_input of_store (bare capacity) answer h are is =
    input_answer words input files of_input of_store capacity answer h are is
offline_answer words input files of_input of_store (over aim path) answer h are is =
    file_answer words input files of_input of_store aim path answer h are is
offline_answer words input files of_input of_store (replay start config session) answer h are is =
    files_answer words input files of_input of_store start config session answer h are is
offline_answer words input files of_input of_store (made seed frames rovers) answer h are is =
    made_answer words input files of_input of_store seed frames rovers answer h are is
offline_answer words input files of_input of_store (casting task config addr limit) answer h are is = absurd is
offline_answer words input files of_input of_store (keeping config addr quiet) answer h are is = absurd is
offline_answer words input files of_input of_store (fetching frames targets) answer h are is = absurd is

-- such words ask for no caster
no_cast : {P : Type 0} (command : Offline) (task : CasterMode) (config addr : List ℕ) (limit : ℕ)
    → Some (offline_form command) ≡ Some (casting task config addr limit) → P
no_cast (offline.Bare capacity) task config addr limit e = absurd cc
no_cast (offline.Over aim path) task config addr limit e = absurd cc
no_cast (offline.Replay start first second) task config addr limit e = absurd cc
no_cast (offline.Make seed frames rovers) task config addr limit e = absurd cc

pub offline_alone : {P : Type 0} (words : List (List ℕ)) (command : Offline) (task : CasterMode) (config addr : List ℕ)
    (limit : ℕ) → form_of words ≡ Some (offline_form command) → AreCasting task words config addr limit → P
offline_alone words command task config addr limit h are =
    read_other words (Some (offline_form command)) task config addr limit h are
    (λ e. no_cast command task config addr limit e)
