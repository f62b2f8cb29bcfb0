-- What was done with what came was done with what may have come.
use Rattle.std.proofs.Common.{◌≡◌, ℕ, ◌≤◌, List, length, Option, Some, Ok, inl, inr, sym, ap, subst, ◌∙◌}
use Rattle.std.proofs.lemmas.Bool.{cases_lt}
use Rattle.session_script.specs.declared.Event.{Event}
use Rattle.session_script.specs.declared.ScriptKind.{ScriptKind}
use Rattle.session_script.specs.declared.ScriptKind.TheVariants.{Bare, Replay}
use Rattle.session_script.specs.Script.{script_of}
use Rattle.std.specs.Io.KnownBytes.{Appends}
use Rattle.cast_io.specs.Logs.{Log}
use Rattle.cast_io.specs.Told.{StreetTold}
use Rattle.cast_config.specs.declared.config.Config.{Config}
use Rattle.cast_config.specs.Bare as settings
use Rattle.run_texts.specs.Texts.{bare_report_text}
use Rattle.caster_top.specs.Command.{AreBare}
use Rattle.caster_top.specs.Given.{FileGave, InputGave}
use Rattle.caster_top.specs.Done.{WasDone}
use Rattle.caster_top.specs.Promised.{WasPromised}
use Rattle.caster_top.specs.Told.{Files, FilesTold, Input, IsConfigAt, IsConfigFrom, IsSessionAt, IsSessionFrom}
use Rattle.caster_top.proofs.AnswerLemmas.{script_of-long}
use Rattle.caster_top.proofs.GivenLemmas.{told_only}

-- a script is not too long
script_short : (kind : ScriptKind) (bytes : List ℕ) (events : List Event) → script_of kind bytes ≡ Ok events
    → length bytes ≤ 8388608
script_short kind bytes events is = elim (cases_lt 8388608 (length bytes)) [
  | inl long ↦ absurd (let e = script_of-long kind bytes long in cc)
  | inr short ↦ short
]

session_more : (files more : Files) (path : List ℕ) (c : Config) (events : List Event)
    → ((path bytes : List ℕ) → length bytes ≤ 8388608 → files path bytes → more path bytes)
    → IsSessionFrom files path c events → IsSessionFrom more path c events
session_more files more path c events each is =
    (is.0, each path is.0 (script_short (Replay (length c.relay)) is.0 events is.2) is.1, is.2)

-- what is read is not too long
pub config_more : (files more : Files) (path : List ℕ) (c : Config)
    → ((path bytes : List ℕ) → length bytes ≤ 8388608 → files path bytes → more path bytes)
    → IsConfigFrom files path c → IsConfigFrom more path c
config_more files more path c each is = (is.0, each path is.0 is.2 is.1, is.2, is.3)

-- where all of these that are not too many may have come from there
module _ {words : List (List ℕ)} {input more_input : Input} {files more_files : Files} {before after : StreetTold}
    {old new : Option (List ℕ)}
    (inputs : (bytes : List ℕ) → length bytes ≤ 8388608 → input bytes → more_input bytes)
    (each : (path bytes : List ℕ) → length bytes ≤ 8388608 → files path bytes → more_files path bytes) where
  pub done_more : WasDone words input files before after old new
      → WasDone words more_input more_files before after old new
  done_more done = record {
    bare = λ capacity are.
        let is = done.bare capacity are in
        (is.0, is.1, inputs is.0 (script_short Bare is.0 is.1 is.3) is.2, is.3, is.4, is.5);
    checked = λ path are.
        let is = done.checked path are in (is.0, config_more files more_files path is.0 each is.1, is.2);
    tabled = λ path are.
        let is = done.tabled path are in (is.0, config_more files more_files path is.0 each is.1, is.2);
    migrated = λ path are.
        let is = done.migrated path are in (is.0, is.1, config_more files more_files path is.0 each is.2, is.3, is.4);
    played = λ start config session are.
        let is = done.played start config session are in (
          is.0,
          is.1,
          is.2,
          config_more files more_files config is.0 each is.3,
          session_more files more_files session is.0 is.1 each is.4,
          is.5,
          is.6,
        );
    served = λ config addr limit are.
        let is = done.served config addr limit are in (is.0, is.1, config_more files more_files config is.0 each is.2, is.3, is.4);
    recorded = λ config addr limit are.
        let is = done.recorded config addr limit are in (is.0, is.1, config_more files more_files config is.0 each is.2, is.3, is.4);
  }

  pub promised_more : WasPromised words input files before after old new
      → WasPromised words more_input more_files before after old new
  promised_more done = record {
    bare = λ capacity are.
        let is = done.bare capacity are in
        (is.0, is.1, is.2, inputs is.0 (script_short Bare is.0 is.1 is.4) is.3, is.4, is.5, is.6);
    replayed = λ config session are.
        let is = done.replayed config session are in (
          is.0,
          is.1,
          is.2,
          config_more files more_files config is.0 each is.3,
          session_more files more_files session is.0 is.1 each is.4,
          is.5,
          is.6,
        );
    warmed = λ config session are.
        let is = done.warmed config session are in (
          is.0,
          is.1,
          is.2,
          config_more files more_files config is.0 each is.3,
          session_more files more_files session is.0 is.1 each is.4,
          is.5,
          is.6,
        );
    served = λ config addr limit are.
        let is = done.served config addr limit are in (is.0, is.1, config_more files more_files config is.0 each is.2, is.3, is.4);
    recorded = λ config addr limit are.
        let is = done.recorded config addr limit are in
        (is.0, is.1, is.2, config_more files more_files config is.0 each is.3, is.4, is.5);
  }

-- ---- where input and files tell their bytes

same_events : (kind : ScriptKind) (a b : List ℕ) (first second : List Event) → a ≡ b → script_of kind a ≡ Ok first
    → script_of kind b ≡ Ok second → second ≡ first
same_events kind a b first second same one other =
    let both : script_of kind b ≡ Ok first = ap (script_of kind) (sym same) ∙ one in cc

pub told_report : (words : List (List ℕ)) (left : Option (List ℕ)) (first last : Log) (files : FilesTold)
    (opened closed : Log) (before after : StreetTold) (old new : Option (List ℕ))
    → WasDone words (InputGave left first last) (FileGave files opened closed) before after old new
    → (capacity : ℕ) (bytes : List ℕ) (events : List Event) → AreBare words capacity → left ≡ Some bytes
    → script_of Bare bytes ≡ Ok events → Appends old new (bare_report_text (settings.bare capacity) events)
told_report words left first last files opened closed before after old new done capacity bytes events are told script =
    let is = done.bare capacity are in
    let same : bytes ≡ is.0 = told_only left bytes told is.0 is.2.0 in
    subst (λ (e : List Event). Appends old new (bare_report_text (settings.bare capacity) e))
    (same_events Bare bytes is.0 events is.1 same script is.3) is.5

pub told_config : (files : FilesTold) (first last : Log) (path : List ℕ) (c : Config)
    → IsConfigFrom (FileGave files first last) path c → IsConfigAt files path c
told_config files first last path c is = (is.0, is.1.0, is.2, is.3)

pub told_session : (files : FilesTold) (first last : Log) (path : List ℕ) (c : Config) (events : List Event)
    → IsSessionFrom (FileGave files first last) path c events → IsSessionAt files path c events
told_session files first last path c events is = (is.0, is.1.0, is.2)
