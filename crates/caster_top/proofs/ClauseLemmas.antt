-- What words, input, files and output say of a status and of what was written.
use Rattle.std.proofs.Common.{◌≡◌, ℕ, ◌≤◌, ◌⊎◌, List, length, Option, None, Some, Result, Ok, Err, inl, inr, refl, ap, sym, subst, ◌∙◌}
use Rattle.std.specs.Io.KnownBytes.{Appends}
use Rattle.session_script.specs.declared.Event.{Event}
use Rattle.session_script.specs.declared.ScriptKind.TheVariants.{Bare}
use Rattle.session_script.specs.declared.ScriptFault.{ScriptFault}
use Rattle.session_script.specs.Script.{script_of}
use Rattle.session_script.proofs.SessionLemmas.{script_read}
use Rattle.cast_io.specs.Stores.{content_of}
use Rattle.cast_config.specs.declared.config.Config.{Config}
use Rattle.cast_config.specs.Bare as settings
use Rattle.cast_config.specs.Document.{IsRead}
use Rattle.run_texts.specs.Texts.{IsRunText, bare_report_text, made_text}
use Rattle.run_texts.proofs.BareLemmas.{bare_text}
use Rattle.caster_top.specs.declared.answers.Answer.{Answer}
use Rattle.caster_top.specs.declared.answers.Answer.TheVariants.{ReadFault, Memory}
use Rattle.caster_top.specs.declared.command.ConfigCommand.{ConfigCommand}
use Rattle.caster_top.specs.declared.command.RoverStart.{RoverStart}
use Rattle.caster_top.specs.declared.command.RoverStart.TheVariants.{Cold}
use Rattle.caster_top.specs.Command.{Form, bare, over, replay, made, AreBare, AreOver, ArePlayed, AreMake, AreOf, AreOfNoForm, form_of}
use Rattle.caster_top.specs.Outcome.{Exit, ExitRule, IsReportText, report_of, EndsSo, Came, session_in, ending_of_script, ending_of_config, ending_of_bytes, ending_of_form, ending_of}
use Rattle.caster_top.specs.Told.{Files, FilesTold, Holds, Input, IsConfigFrom, IsConfigIn, IsSessionFrom, HasCome, EndsWith, FollowsOutcome, HaveForm, HaveFault, HaveCome}
use Rattle.caster_top.specs.Answers.{exit_of, IsAnswer, Writes}
use Rattle.caster_top.proofs.WordLemmas.{form_of-form, form-form_of, no_form}
use Rattle.caster_top.proofs.ReadingLemmas.{config_in-ok, read-config_in}
use Rattle.caster_top.proofs.AnswerLemmas.{outcome-form, ending_of_bytes-read}
use Rattle.caster_top.proofs.StatusLemmas.{replayed, status-ends, no_usage_form, whole_bytes, ok_status}
use Rattle.caster_top.proofs.ScriptLemmas.{status_of, whole_script}

-- ---- how a run ended

-- with a failed write, with want of memory, with a fault of reading, or as the outcome says
abbrev Ended : List (List ℕ) → Input → Files → Type 0 → Type 0 → Option (List ℕ) → Option (List ℕ)
    → ℕ → Type 0
Ended words input files of_input of_store old new status =
    ((status ≡ 7) × HaveForm words)
    ⊎ (((status ≡ 4) × HaveFault words of_input of_store) ⊎ FollowsOutcome words input files status old new)

answer_written : (words : List (List ℕ)) (input : Input) (files : Files) (of_input of_store : Type 0)
    (old new : Option (List ℕ)) (status : ℕ) (answer : Answer) → IsAnswer words input files of_input of_store answer
    → EndsWith status old new (exit_of answer) → Ended words input files of_input of_store old new status
answer_written words input files of_input of_store old new status Memory is written = inl (written.0, is)
answer_written words input files of_input of_store old new status ReadFault is written = inr (inl (written.0, is))
answer_written words input files of_input of_store old new status answer is written = inr (inr (_, is, written))

-- where the status names no fault, the outcome followed
pub decided_run : (words : List (List ℕ)) (input : Input) (files : Files) (of_input of_store : Type 0)
    (old new : Option (List ℕ)) (before now status : ℕ) (answer : Answer)
    → IsAnswer words input files of_input of_store answer → Writes (exit_of answer) old new before now status
    → (status ≡ 4 → ⊥) → (status ≡ 5 → ⊥) → (status ≡ 7 → ⊥) → FollowsOutcome words input files status old new
decided_run words input files of_input of_store old new before now status answer is (inr failed) r w m =
    absurd (w failed.0)
decided_run words input files of_input of_store old new before now status answer is (inl written) r w m =
    elim (answer_written words input files of_input of_store old new status answer is written) [
      | inl memory ↦ absurd (m memory.0)
      | inr (inl fault) ↦ absurd (r fault.0)
      | inr (inr follows) ↦ follows
    ]

-- ---- what the outcome is of

-- the outcome of words that are read so
pub read_run : (words : List (List ℕ)) (input : Input) (files : Files) (old new : Option (List ℕ))
    (status : ℕ) (read : Option Form) → FollowsOutcome words input files status old new → form_of words ≡ read
    → (came : Came) × (end : Exit) × HasCome read input files came × EndsSo (ending_of read came) end
    × EndsWith status old new end
read_run words input files old new status read follows h =
    let end = follows.0 in
    let is = follows.1 in (
      is.0,
      end,
      subst (λ (f : Option Form). HasCome f input files is.0) h is.1,
      subst (λ (e : ExitRule). EndsSo e end) (sym (outcome-form words is.0 read h)) is.2,
      follows.2,
    )

-- another status than `usage` has words of a form, and what came for it is such
have_come_at : (IsSuch : Form → Came → Type 0) (words : List (List ℕ)) (input : Input) (files : Files)
    (old new : Option (List ℕ)) (status : ℕ) (read : Option Form) → form_of words ≡ read → (status ≡ 1 → ⊥)
    → ((form : Form) (came : Came) → status_of (ending_of_form form came) ≡ status → IsSuch form came)
    → FollowsOutcome words input files status old new → HaveCome IsSuch words input files
have_come_at IsSuch words input files old new status None h other such follows =
    let run = read_run words input files old new status None follows h in
    absurd (other (run.4.0 ∙ ap (λ (e : Exit). e.status) run.3))
have_come_at IsSuch words input files old new status (Some form) h other such follows =
    let run = read_run words input files old new status (Some form) follows h in
    let ended = status-ends (ending_of_form form run.0) run.1 run.3 in
    (form, run.0, form-form_of words form h, run.2, such form run.0 (sym (run.4.0 ∙ ended)))

pub have_come : (IsSuch : Form → Came → Type 0) (words : List (List ℕ)) (input : Input) (files : Files)
    (old new : Option (List ℕ)) (status : ℕ) → (status ≡ 1 → ⊥)
    → ((form : Form) (came : Came) → status_of (ending_of_form form came) ≡ status → IsSuch form came)
    → FollowsOutcome words input files status old new → HaveCome IsSuch words input files
have_come IsSuch words input files old new status other such follows =
    have_come_at IsSuch words input files old new status (form_of words) refl other such follows

-- status 1 says that the words are of no form
usage_at : (words : List (List ℕ)) (input : Input) (files : Files) (old new : Option (List ℕ)) (status : ℕ)
    (read : Option Form) → form_of words ≡ read → FollowsOutcome words input files status old new → status ≡ 1
    → AreOfNoForm words
usage_at words input files old new status None h follows is = no_form words h
usage_at words input files old new status (Some form) h follows is =
    let run = read_run words input files old new status (Some form) follows h in
    let ended = status-ends (ending_of_form form run.0) run.1 run.3 in
    absurd (no_usage_form form run.0 (sym (run.4.0 ∙ ended) ∙ is))

pub usage_run : (words : List (List ℕ)) (input : Input) (files : Files) (old new : Option (List ℕ))
    (status : ℕ) → FollowsOutcome words input files status old new → status ≡ 1 → AreOfNoForm words
usage_run words input files old new status follows is =
    usage_at words input files old new status (form_of words) refl follows is

-- words of no form are read as none
no_form_read : (words : List (List ℕ)) (read : Option Form) → form_of words ≡ read → AreOfNoForm words
    → form_of words ≡ None
no_form_read words None h none = h
no_form_read words (Some form) h none = absurd (none form (form-form_of words form h))

-- they end with `usage`, unless a write fails
pub no_form_run : (words : List (List ℕ)) (input : Input) (files : Files) (of_input of_store : Type 0)
    (old new : Option (List ℕ)) (before now status : ℕ) (answer : Answer)
    → IsAnswer words input files of_input of_store answer → Writes (exit_of answer) old new before now status
    → AreOfNoForm words → (status ≡ 1) ⊎ (status ≡ 5)
no_form_run words input files of_input of_store old new before now status answer is (inr failed) none = inr failed.0
no_form_run words input files of_input of_store old new before now status answer is (inl written) none =
    elim (answer_written words input files of_input of_store old new status answer is written) [
      | inl memory ↦ absurd (none memory.1.0 memory.1.1)
      | inr (inl fault) ↦ absurd (none fault.1.0 fault.1.1)
      | inr (inr follows) ↦
          let run = read_run words input files old new status None follows
          (no_form_read words (form_of words) refl none) in
          inl (run.4.0 ∙ ap (λ (e : Exit). e.status) run.3)
    ]

-- ---- bare scripts

-- what ends as a run of these events ends with status 0
report_end : (start : RoverStart) (c : Config) (events : List Event) (status : ℕ) (old new : Option (List ℕ)) (end : Exit)
    → EndsSo (report_of start c events) end → EndsWith status old new end
    → (status ≡ 0) × (text : List ℕ) × IsReportText start c events text × Appends old new text
report_end start c events status old new end ends written =
    (written.0 ∙ ends.0, end.text, ends.1, written.1)

script_end : (start : RoverStart) (c : Config) (read : Result (List Event) ScriptFault) (events : List Event) (end : Exit)
    → read ≡ Ok events → EndsSo (ending_of_script start c read) end → EndsSo (report_of start c events) end
script_end start c read events end h ends =
    subst (λ (r : Result (List Event) ScriptFault). EndsSo (ending_of_script start c r) end) h ends

-- the outcome of a bare script is the report of its run, where no other bytes may have come
pub script_report : (words : List (List ℕ)) (input : Input) (files : Files) (old new : Option (List ℕ))
    (status capacity : ℕ) (bytes : List ℕ) (events : List Event) → FollowsOutcome words input files status old new
    → AreBare words capacity → ((came : List ℕ) → input came → bytes ≡ came) → script_of Bare bytes ≡ Ok events
    → (status ≡ 0) × (text : List ℕ) × IsReportText Cold (settings.bare capacity) events text × Appends old new text
script_report words input files old new status capacity bytes events follows are only script =
    let c = settings.bare capacity in
    let run = read_run words input files old new status (Some (bare capacity)) follows
    (form_of-form words (bare capacity) are) in
    let same = only run.0.script run.2 in
    let read : script_of Bare run.0.script ≡ Ok events = ap (λ b. script_of Bare b) (sym same) ∙ script in
    report_end Cold c events status old new run.1
    (script_end Cold c (script_of Bare run.0.script) events run.1 read run.3) run.4

pub script_run : (words : List (List ℕ)) (input : Input) (files : Files) (old new : Option (List ℕ))
    (status capacity : ℕ) (bytes : List ℕ) (events : List Event) → FollowsOutcome words input files status old new
    → AreBare words capacity → ((came : List ℕ) → input came → bytes ≡ came) → script_of Bare bytes ≡ Ok events
    → (status ≡ 0) × Appends old new (bare_report_text (settings.bare capacity) events)
script_run words input files old new status capacity bytes events follows are only script =
    let all = script_report words input files old new status capacity bytes events follows are only script in
    let session = (script_read Bare bytes events script).session in
    let text = bare_text (settings.bare capacity) events all.1 session all.2 in
    (all.0, subst (λ (t : List ℕ). Appends old new t) text all.3)

-- words have one form
pub one_form : (words : List (List ℕ)) (a b : Form) → AreOf words a → AreOf words b → Some a ≡ Some b
one_form words a b first second = sym (form_of-form words a first) ∙ form_of-form words b second

pub bare_fault : (words : List (List ℕ)) (of_input of_store : Type 0) (capacity : ℕ) → AreBare words capacity
    → (of_input → ⊥) → HaveFault words of_input of_store → ⊥
bare_fault words of_input of_store capacity are read (bare other, of, fault) = read fault
bare_fault words of_input of_store capacity are read (form, of, fault) =
    let e = one_form words (bare capacity) form are of in absurd cc

pub over_fault : (words : List (List ℕ)) (of_input of_store : Type 0) (aim : ConfigCommand) (path : List ℕ)
    → AreOver aim words path → (of_store → ⊥) → HaveFault words of_input of_store → ⊥
over_fault words of_input of_store aim path are read (over other other_path, of, fault) = read fault
over_fault words of_input of_store aim path are read (form, of, fault) =
    let e = one_form words (over aim path) form are of in absurd cc

pub replay_fault : (words : List (List ℕ)) (of_input of_store : Type 0) (start : RoverStart) (config session : List ℕ)
    → ArePlayed start words config session → (of_store → ⊥) → HaveFault words of_input of_store → ⊥
replay_fault words of_input of_store start config session are read (replay again other other_session, of, fault) =
    read fault
replay_fault words of_input of_store start config session are read (form, of, fault) =
    let e = one_form words (replay start config session) form are of in absurd cc

pub make_fault : (words : List (List ℕ)) (of_input of_store : Type 0) (seed frames rovers : ℕ)
    → AreMake words seed frames rovers → HaveFault words of_input of_store → ⊥
make_fault words of_input of_store seed frames rovers are (made s f r, of, fault) = absurd fault
make_fault words of_input of_store seed frames rovers are (form, of, fault) =
    let e = one_form words (made seed frames rovers) form are of in absurd cc

-- ---- sessions that are made

pub made_run : (words : List (List ℕ)) (input : Input) (files : Files) (old new : Option (List ℕ))
    (status seed frames rovers : ℕ) → FollowsOutcome words input files status old new
    → AreMake words seed frames rovers → (status ≡ 0) × Appends old new (made_text seed frames rovers)
made_run words input files old new status seed frames rovers follows are =
    let run = read_run words input files old new status (Some (made seed frames rovers)) follows
    (form_of-form words (made seed frames rovers) are) in
    subst (λ (e : Exit). EndsWith status old new e) run.3 run.4

-- ---- configurations

-- with status 0 the file is a configuration, and what came next ended so
config_decided : (files : Files) (path : List ℕ) (next : Config → ExitRule) (bytes : List ℕ) (end : Exit)
    → files path bytes → EndsSo (ending_of_bytes next bytes) end → end.status ≡ 0
    → (c : Config) × IsConfigIn bytes c × IsConfigFrom files path c × EndsSo (next c) end
config_decided files path next bytes end holds ends zero =
    let whole = whole_bytes next bytes (sym (status-ends (ending_of_bytes next bytes) end ends) ∙ zero) in
    let c = whole.0 in
    let is = whole.1 in (
      c,
      is,
      (bytes, holds, is.0, read-config_in bytes c is.1),
      subst (λ (e : ExitRule). EndsSo e end) (ending_of_bytes-read next bytes (Ok c) is.0 is.1) ends,
    )

-- with status 0 the file is a configuration, and what was written is what is done with it
pub over_run : (words : List (List ℕ)) (input : Input) (files : Files) (old new : Option (List ℕ))
    (status : ℕ) (aim : ConfigCommand) (path : List ℕ) → status ≡ 0 → FollowsOutcome words input files status old new
    → AreOver aim words path
    → (c : Config) × (end : Exit) × IsConfigFrom files path c × EndsSo (ending_of_config aim c) end
    × Appends old new end.text
over_run words input files old new status aim path is follows are =
    let run = read_run words input files old new status (Some (over aim path)) follows
    (form_of-form words (over aim path) are) in
    let all = config_decided files path (ending_of_config aim) run.0.config run.1 run.2 run.3 (sym run.4.0 ∙ is) in
    (all.0, run.1, all.2, all.3, run.4.1)

-- what a told file holds
pub held_only : (files : FilesTold) (list : List (List ℕ × List ℕ)) (path bytes : List ℕ) → files ≡ Some list
    → content_of list path ≡ Some bytes → (held : List ℕ) → Holds files path held → held ≡ bytes
held_only None list path bytes e c held h = absurd cc
held_only (Some told) list path bytes e c held h =
    let same : told ≡ list = cc in
    let both : content_of list path ≡ Some held = ap (λ l. content_of l path) (sym same) ∙ h in
    cc

-- a configuration has status 0
pub config_run : (words : List (List ℕ)) (input : Input) (files : Files) (old new : Option (List ℕ))
    (status : ℕ) (aim : ConfigCommand) (path bytes : List ℕ) (c : Config)
    → FollowsOutcome words input files status old new → AreOver aim words path
    → ((came : List ℕ) → files path came → came ≡ bytes) → length bytes ≤ 8388608 → IsRead bytes (Ok c)
    → status ≡ 0
config_run words input files old new status aim path bytes c follows are only short is =
    let run = read_run words input files old new status (Some (over aim path)) follows
    (form_of-form words (over aim path) are) in
    let next = ending_of_config aim in
    let ended = status-ends (ending_of_bytes next run.0.config) run.1 run.3 in
    let same = only run.0.config run.2 in
    run.4.0 ∙ ended ∙ ap (λ b. status_of (ending_of_bytes next b)) same
    ∙ ap status_of (ending_of_bytes-read next bytes (Ok c) short (config_in-ok bytes c is)) ∙ ok_status aim c

-- ---- sessions over a configuration

ok_events : (start : RoverStart) (c : Config) (read : Result (List Event) ScriptFault) (end : Exit)
    → EndsSo (ending_of_script start c read) end → end.status ≡ 0
    → (events : List Event) × (read ≡ Ok events) × EndsSo (report_of start c events) end
ok_events start c (Ok events) end ends zero = (events, refl, ends)
ok_events start c (Err fault) end ends zero =
    let same = status-ends (ending_of_script start c (Err fault)) end ends in
    let e = whole_script start c (Err fault) (sym same ∙ zero) in absurd cc

-- with status 0 what came from the input is a script, and the report of its run was written
pub bare_run : (words : List (List ℕ)) (input : Input) (files : Files) (old new : Option (List ℕ))
    (status capacity : ℕ) → status ≡ 0 → FollowsOutcome words input files status old new → AreBare words capacity
    → (bytes : List ℕ) × (events : List Event) × (text : List ℕ) × input bytes × (script_of Bare bytes ≡ Ok events)
    × IsReportText Cold (settings.bare capacity) events text × Appends old new text
bare_run words input files old new status capacity is follows are =
    let c = settings.bare capacity in
    let run = read_run words input files old new status (Some (bare capacity)) follows
    (form_of-form words (bare capacity) are) in
    let script = run.0.script in
    let ended = ok_events Cold c (script_of Bare script) run.1 run.3 (sym run.4.0 ∙ is) in
    let text = report_end Cold c ended.0 status old new run.1 ended.2 run.4 in
    (script, ended.0, text.1, run.2, ended.1, text.2, text.3)

-- and that text is the report
pub bare_report : (words : List (List ℕ)) (input : Input) (files : Files) (old new : Option (List ℕ))
    (status capacity : ℕ) → status ≡ 0 → FollowsOutcome words input files status old new → AreBare words capacity
    → (bytes : List ℕ) × (events : List Event) × input bytes × (script_of Bare bytes ≡ Ok events)
    × IsRunText (settings.bare capacity) events (bare_report_text (settings.bare capacity) events)
    × Appends old new (bare_report_text (settings.bare capacity) events)
bare_report words input files old new status capacity is follows are =
    let run = bare_run words input files old new status capacity is follows are in
    let session = (script_read Bare run.0 run.1 run.4).session in
    let text = bare_text (settings.bare capacity) run.1 run.2 session run.5 in (
      run.0,
      run.1,
      run.3,
      run.4,
      subst (λ (t : List ℕ). IsRunText (settings.bare capacity) run.1 t) text run.5,
      subst (λ (t : List ℕ). Appends old new t) text run.6,
    )

-- with status 0 the files are a configuration and a session, and the report of its run was written
pub replay_run : (words : List (List ℕ)) (input : Input) (files : Files) (old new : Option (List ℕ))
    (status : ℕ) (start : RoverStart) (config session : List ℕ) → status ≡ 0 → FollowsOutcome words input files status old new
    → ArePlayed start words config session
    → (c : Config) × (events : List Event) × (text : List ℕ) × IsConfigFrom files config c
    × IsSessionFrom files session c events × IsReportText start c events text × Appends old new text
replay_run words input files old new status start config session is follows are =
    let run = read_run words input files old new status (Some (replay start config session)) follows
    (form_of-form words (replay start config session) are) in
    let script = run.0.script in
    let zero = sym run.4.0 ∙ is in
    let all = config_decided files config (replayed start script) run.0.config run.1 run.2.0 run.3 zero in
    let c = all.0 in
    let ended = ok_events start c (session_in c script) run.1 all.3 zero in
    let text = report_end start c ended.0 status old new run.1 ended.2 run.4 in
    (c, ended.0, text.1, all.2, (script, run.2.1 c all.1, ended.1), text.2, text.3)

-- a session over a configuration has a report
pub session_run : (words : List (List ℕ)) (input : Input) (files : Files) (old new : Option (List ℕ))
    (status : ℕ) (start : RoverStart) (config session : List ℕ) (bytes script : List ℕ) (c : Config)
    (events : List Event) → FollowsOutcome words input files status old new → ArePlayed start words config session
    → ((came : List ℕ) → files config came → came ≡ bytes) → length bytes ≤ 8388608 → IsRead bytes (Ok c)
    → ((came : List ℕ) → files session came → came ≡ script) → session_in c script ≡ Ok events
    → (status ≡ 0) × (text : List ℕ) × IsReportText start c events text × Appends old new text
session_run words input files old new status start config session bytes script c events follows are only short is
    only_script read =
    let run = read_run words input files old new status (Some (replay start config session)) follows
    (form_of-form words (replay start config session) are) in
    let came = run.0 in
    let same = only came.config run.2.0 in
    let inside : IsConfigIn came.config c = subst (λ (b : List ℕ). IsConfigIn b c) (sym same)
    (short, config_in-ok bytes c is) in
    let same_script = only_script came.script (run.2.1 c inside) in
    let next = ending_of_bytes-read (replayed start came.script) came.config (Ok c) inside.0 inside.1 in
    let ends = subst (λ (e : ExitRule). EndsSo e run.1) next run.3 in
    let all : session_in c came.script ≡ Ok events = ap (session_in c) same_script ∙ read in
    report_end start c events status old new run.1 (script_end start c (session_in c came.script) events run.1 all
    ends) run.4
