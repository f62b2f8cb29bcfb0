-- What follows from the clauses of a call that has ended.
use Rattle.std.proofs.Common.{◌≡◌, ℕ, ◌⊎◌, List, Some, Ok, inl, inr, refl}
use Rattle.std.proofs.lemmas.Bool.{cases_eq}
use Rattle.std.specs.Io.KnownBytes.{Appends}
use Rattle.session_script.specs.declared.Event.{Event}
use Rattle.session_script.specs.declared.ScriptKind.TheVariants.{Bare}
use Rattle.session_script.specs.Script.{script_of}
use Rattle.session_script.specs.Writing.{script_text}
use Rattle.session_model.specs.declared.report.Closed.{Closed}
use Rattle.session_model.specs.Text.{closed_text}
use Rattle.cast_io.specs.Causes.{Rose}
use Rattle.cast_config.specs.declared.config.Config.{Config}
use Rattle.cast_config.specs.Bare as settings
use Rattle.run_texts.specs.Texts.{made_text, bare_report_text}
use Rattle.caster_serve.specs.Caster.{HasServed}
use Rattle.caster_top.specs.declared.command.ConfigCommand.{ConfigCommand}
use Rattle.caster_top.specs.declared.command.RoverStart.{RoverStart}
use Rattle.caster_top.specs.declared.command.CasterMode.{CasterMode}
use Rattle.caster_top.specs.declared.command.CasterMode.TheVariants.{Record, Serve}
use Rattle.caster_top.specs.Command.{bare, over, replay, made, AreBare, AreCasting, AreMake, AreOver, ArePlayed, AreRecord, AreServe, KeepNothing}
use Rattle.caster_top.specs.Outcome.{IsReportText}
use Rattle.caster_top.specs.Told.{HaveFault, Holds, IsConfigAt, Tells}
use Rattle.caster_top.specs.Calls.{CallTold, Follows, HasRisen, IsCalm, MeetsCasting, MeetsOutcome, MeetsUndisturbed, TellConfig, TellSession}
use Rattle.caster_top.specs.Recording.{HasRecorded}
use Rattle.caster_top.proofs.ClauseLemmas.{bare_fault, config_run, held_only, made_run, make_fault, over_fault, replay_fault, script_run, session_run}
use Rattle.caster_top.proofs.CastingLemmas.{complete_run, recorded_run, served_run}
use Rattle.caster_top.proofs.KeepClauseLemmas.{keeps_nothing}
use Rattle.caster_top.proofs.GivenLemmas.{told_only}
use Rattle.caster_top.proofs.OutcomeLemmas.{Decided}

-- ---- the clause `outcome`

pub decided_call : (call : CallTold) → MeetsOutcome call
    → Decided call.words (Tells call.left) (Holds call.files) call.old call.new call.status
decided_call call meets = record { follows = λ read write memory. meets read write memory }

-- ---- the clause `undisturbed`

module _ (call : CallTold) (meets : MeetsUndisturbed call) where
  -- the outcome follows, or there was no memory
  calm : KeepNothing call.words → (HaveFault call.words (HasRisen call.input_faults) (HasRisen call.store_faults) → ⊥)
      → IsCalm call.output_faults → (call.status ≡ 7) ⊎ Follows call
  calm nothing read write = elim (cases_eq call.status 7) [
    | inl seven ↦ inl seven
    | inr memory ↦ inr (meets nothing read write memory)
  ]

  pub complete_bare : (capacity : ℕ) (bytes : List ℕ) (events : List Event) → AreBare call.words capacity
      → call.left ≡ Some bytes → script_of Bare bytes ≡ Ok events → IsCalm call.input_faults
      → IsCalm call.output_faults
      → (call.status ≡ 7)
      ⊎ ((call.status ≡ 0) × Appends call.old call.new (bare_report_text (settings.bare capacity) events))
  complete_bare capacity bytes events are told script read write =
      elim (calm (keeps_nothing call.words (bare capacity) are refl) (bare_fault call.words (HasRisen call.input_faults) (HasRisen call.store_faults) capacity are read)
      write) [
        | inl seven ↦ inl seven
        | inr follows ↦
            inr (script_run call.words (Tells call.left) (Holds call.files) call.old call.new call.status capacity bytes
            events follows are (told_only call.left bytes told) script)
      ]

  pub complete_over : (aim : ConfigCommand) (path : List ℕ) (c : Config) → AreOver aim call.words path
      → TellConfig call.files path c → IsCalm call.store_faults → IsCalm call.output_faults
      → (call.status ≡ 7) ⊎ (call.status ≡ 0)
  complete_over aim path c are is read write =
      elim (calm (keeps_nothing call.words (over aim path) are refl) (over_fault call.words (HasRisen call.input_faults) (HasRisen call.store_faults) aim path are read)
      write) [
        | inl seven ↦ inl seven
        | inr follows ↦
            inr (config_run call.words (Tells call.left) (Holds call.files) call.old call.new call.status aim path
            is.bytes c follows are (held_only call.files is.list path is.bytes is.told is.content) is.short is.read)
      ]

  pub complete_played : (start : RoverStart) (config session : List ℕ) (c : Config) (events : List Event)
      → ArePlayed start call.words config session → TellConfig call.files config c
      → TellSession call.files session c events → IsCalm call.store_faults → IsCalm call.output_faults
      → (call.status ≡ 7)
      ⊎ ((call.status ≡ 0) × (text : List ℕ) × IsReportText start c events text × Appends call.old call.new text)
  complete_played start config session c events are is played read write =
      elim (calm (keeps_nothing call.words (replay start config session) are refl) (replay_fault call.words (HasRisen call.input_faults) (HasRisen call.store_faults) start config session
      are read) write) [
        | inl seven ↦ inl seven
        | inr follows ↦
            inr (session_run call.words (Tells call.left) (Holds call.files) call.old call.new call.status start config
            session is.bytes played.script c events follows are
            (held_only call.files is.list config is.bytes is.told is.content) is.short is.read
            (held_only call.files played.list session played.script played.told played.content) played.read)
      ]

  pub complete_make : (seed frames rovers : ℕ) → AreMake call.words seed frames rovers → IsCalm call.output_faults
      → (call.status ≡ 7)
      ⊎ ((call.status ≡ 0) × Appends call.old call.new (made_text seed frames rovers))
  complete_make seed frames rovers are write =
      elim (calm (keeps_nothing call.words (made seed frames rovers) are refl) (make_fault call.words (HasRisen call.input_faults) (HasRisen call.store_faults) seed frames rovers are)
      write) [
        | inl seven ↦ inl seven
        | inr follows ↦
            inr (made_run call.words (Tells call.left) (Holds call.files) call.old call.new call.status seed frames rovers
            follows are)
      ]

-- ---- the clause `casting`

module _ (call : CallTold) (meets : MeetsCasting call) where
  pub served_call : call.status ≡ 0 → (config addr : List ℕ) (limit : ℕ) → AreServe call.words config addr limit
      → (c : Config) × (closed : Closed) × IsConfigAt call.files config c
      × HasServed c addr limit call.before call.after (Ok closed) × Appends call.old call.new (closed_text c closed)
  served_call zero config addr limit are =
      served_run (Holds call.files) config addr limit call.before call.after (HasRisen call.store_faults) call.old
      call.new call.output_faults.before call.output_faults.now call.status zero (meets Serve config addr limit are)

  pub recorded_call : call.status ≡ 0 → (config addr : List ℕ) (limit : ℕ) → AreRecord call.words config addr limit
      → (c : Config) × (events : List Event) × IsConfigAt call.files config c
      × HasRecorded c addr limit call.before call.after events × Appends call.old call.new (script_text events)
  recorded_call zero config addr limit are =
      recorded_run (Holds call.files) config addr limit call.before call.after (HasRisen call.store_faults) call.old
      call.new call.output_faults.before call.output_faults.now call.status zero (meets Record config addr limit are)

  pub complete_cast : (task : CasterMode) (config addr : List ℕ) (limit : ℕ) (c : Config)
      → AreCasting task call.words config addr limit → TellConfig call.files config c → IsCalm call.store_faults
      → IsCalm call.output_faults → (Rose call.before.faults call.after.faults → ⊥)
      → (call.status ≡ 7) ⊎ (call.status ≡ 0)
  complete_cast task config addr limit c are is read write lost =
      complete_run task (Holds call.files) config addr limit call.before call.after (HasRisen call.store_faults) call.old
      call.new call.output_faults.before call.output_faults.now call.status is.bytes c
      (meets task config addr limit are) (held_only call.files is.list config is.bytes is.told is.content) is.short
      is.read read write lost
