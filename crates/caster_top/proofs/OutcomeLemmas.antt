-- What follows from the outcome alone: of a call whose status and text are the outcome of words,
-- input and files, unless its status is 4, 5 or 7.
use Rattle.std.proofs.Common.{◌≡◌, ℕ, List, codes, Option, Ok, inl, inr, refl, sym, subst, ◌∙◌, arith}
use Rattle.std.proofs.lemmas.Bool.{cases_eq}
use Rattle.std.specs.Io.KnownBytes.{Appends}
use Rattle.session_script.specs.declared.Event.{Event}
use Rattle.session_script.specs.declared.ScriptKind.TheVariants.{Bare}
use Rattle.session_script.specs.Script.{script_of}
use Rattle.sourcetable.specs.Table.{table_text}
use Rattle.cast_config.specs.declared.config.Config.{Config}
use Rattle.cast_config.specs.Bare as settings
use Rattle.cast_config.specs.Document.{IsRead}
use Rattle.config_table.specs.Table.{table_records}
use Rattle.config_write.specs.Written.{HasVersion}
use Rattle.run_texts.specs.Texts.{IsRunText, bare_report_text, made_text}
use Rattle.caster_top.specs.declared.command.ConfigCommand.TheVariants.{Check, Table, Migrate}
use Rattle.caster_top.specs.declared.command.RoverStart.{RoverStart}
use Rattle.caster_top.specs.declared.command.RoverStart.TheVariants.{Cold}
use Rattle.caster_top.specs.declared.command.CasterMode.{CasterMode}
use Rattle.caster_top.specs.Command.{Form, AreBare, AreCasting, AreMake, AreOfNoForm, AreOver, ArePlayed, form_of, KeepNothing}
use Rattle.caster_top.specs.Outcome.{Exit, Came, IsReportText, ending_of, ending_of_form, one_line}
use Rattle.caster_top.specs.Told.{Files, Input, FollowsOutcome, HaveCome, IsConfigFrom, IsFaultyConfig, IsFaultyScript, IsSessionFrom, IsStatus, IsTooLong, IsWhole}
use Rattle.caster_top.specs.Promised.{IsPromisedText}
use Rattle.caster_top.proofs.ScriptLemmas.{status_of}
use Rattle.caster_top.proofs.StatusLemmas.{IsOfCaster, ending_status, faulty_config_form, faulty_script_form, network_form, status-ends, too_long_form, whole_form}
use Rattle.caster_top.proofs.ClauseLemmas.{bare_report, bare_run, have_come, made_run, over_run, read_run, replay_run, script_report, script_run, usage_run}
use Rattle.caster_top.proofs.PromiseLemmas.{bare_promised}
use Rattle.caster_top.proofs.CastingLemmas.{of_caster}

-- with a status that is none of the three, the outcome follows
pub record Decided (words : List (List ℕ)) (input : Input) (files : Files) (old new : Option (List ℕ))
    (status : ℕ) : Type 0 where
  pub follows : (status ≡ 4 → ⊥) → (status ≡ 5 → ⊥) → (status ≡ 7 → ⊥)
      → FollowsOutcome words input files status old new

module _ {words : List (List ℕ)} {input : Input} {files : Files} {old new : Option (List ℕ)} {status : ℕ}
    (run : Decided words input files old new status) where
  -- ---- the status

  pub Decided-status : IsStatus status
  Decided-status = elim (cases_eq status 4) [
    | inl is ↦ inr (inr (inr (inr (inl is))))
    | inr read ↦ elim (cases_eq status 5) [
      | inl is ↦ inr (inr (inr (inr (inr (inl is)))))
      | inr write ↦ elim (cases_eq status 7) [
        | inl is ↦ inr (inr (inr (inr (inr (inr (inr (inl is)))))))
        | inr memory ↦
            let all = read_run words input files old new status (form_of words) (run.follows read write memory) refl in
            let same = all.4.0 ∙ status-ends (ending_of (form_of words) all.0) all.1 all.3 in
            subst (λ (n : ℕ). IsStatus n) (sym same) (ending_status (form_of words) all.0)
      ]
    ]
  ]

  decided : (n : ℕ) → status ≡ n → (n ≡ 4 → ⊥) → (n ≡ 5 → ⊥) → (n ≡ 7 → ⊥)
      → FollowsOutcome words input files status old new
  decided n is read write memory =
      run.follows (λ e. read (omega (arith, is, e))) (λ e. write (omega (arith, is, e)))
      (λ e. memory (omega (arith, is, e)))

  whole : status ≡ 0 → FollowsOutcome words input files status old new
  whole zero = decided 0 zero (λ e. omega (arith, e)) (λ e. omega (arith, e)) (λ e. omega (arith, e))

  -- a status that says of the words and of what came that it is such
  said : (IsSuch : Form → Came → Type 0) (n : ℕ) → status ≡ n → (n ≡ 1 → ⊥) → (n ≡ 4 → ⊥) → (n ≡ 5 → ⊥)
      → (n ≡ 7 → ⊥) → ((form : Form) (came : Came) → status_of (ending_of_form form came) ≡ n → IsSuch form came)
      → HaveCome IsSuch words input files
  said IsSuch n is usage read write memory such =
      have_come IsSuch words input files old new status (λ e. usage (omega (arith, is, e)))
      (λ form came h. such form came (h ∙ is)) (decided n is read write memory)

  pub Decided-whole : status ≡ 0 → HaveCome IsWhole words input files
  Decided-whole is =
      said IsWhole 0 is (λ e. omega (arith, e)) (λ e. omega (arith, e)) (λ e. omega (arith, e)) (λ e. omega (arith, e))
      whole_form

  pub Decided-no_config : status ≡ 2 → HaveCome IsFaultyConfig words input files
  Decided-no_config is =
      said IsFaultyConfig 2 is (λ e. omega (arith, e)) (λ e. omega (arith, e)) (λ e. omega (arith, e))
      (λ e. omega (arith, e)) faulty_config_form

  pub Decided-no_session : status ≡ 3 → HaveCome IsFaultyScript words input files
  Decided-no_session is =
      said IsFaultyScript 3 is (λ e. omega (arith, e)) (λ e. omega (arith, e)) (λ e. omega (arith, e))
      (λ e. omega (arith, e)) faulty_script_form

  pub Decided-too_long : status ≡ 8 → HaveCome IsTooLong words input files
  Decided-too_long is =
      said IsTooLong 8 is (λ e. omega (arith, e)) (λ e. omega (arith, e)) (λ e. omega (arith, e))
      (λ e. omega (arith, e)) too_long_form

  pub Decided-usage : status ≡ 1 → AreOfNoForm words
  Decided-usage is =
      usage_run words input files old new status
      (decided 1 is (λ e. omega (arith, e)) (λ e. omega (arith, e)) (λ e. omega (arith, e))) is

  -- with 6 the words ask for a caster
  pub Decided-network : KeepNothing words → status ≡ 6
      → (task : CasterMode) × (config addr : List ℕ) × (limit : ℕ) × AreCasting task words config addr limit
  Decided-network nothing six =
      of_caster words input files nothing
      (said IsOfCaster 6 six (λ e. omega (arith, e)) (λ e. omega (arith, e)) (λ e. omega (arith, e))
      (λ e. omega (arith, e)) network_form)

  -- ---- a bare session

  pub Decided-reported : status ≡ 0 → (capacity : ℕ) → AreBare words capacity
      → (bytes : List ℕ) × (events : List Event) × (text : List ℕ) × input bytes × (script_of Bare bytes ≡ Ok events)
      × IsReportText Cold (settings.bare capacity) events text × Appends old new text
  Decided-reported zero capacity are = bare_run words input files old new status capacity zero (whole zero) are

  pub Decided-bare : status ≡ 0 → (capacity : ℕ) → AreBare words capacity
      → (bytes : List ℕ) × (events : List Event) × input bytes × (script_of Bare bytes ≡ Ok events)
      × IsRunText (settings.bare capacity) events (bare_report_text (settings.bare capacity) events)
      × Appends old new (bare_report_text (settings.bare capacity) events)
  Decided-bare zero capacity are = bare_report words input files old new status capacity zero (whole zero) are

  -- where no other bytes may have come
  pub Decided-report : status ≡ 0 → (capacity : ℕ) (bytes : List ℕ) (events : List Event) → AreBare words capacity
      → ((came : List ℕ) → input came → bytes ≡ came) → script_of Bare bytes ≡ Ok events
      → Appends old new (bare_report_text (settings.bare capacity) events)
  Decided-report zero capacity bytes events are only script =
      (script_run words input files old new status capacity bytes events (whole zero) are only script).1

  pub Decided-promised_report : status ≡ 0 → (capacity : ℕ) (bytes : List ℕ) (events : List Event)
      → AreBare words capacity → ((came : List ℕ) → input came → bytes ≡ came) → script_of Bare bytes ≡ Ok events
      → (text : List ℕ) × IsPromisedText (settings.bare capacity) events text × Appends old new text
  Decided-promised_report zero capacity bytes events are only script =
      let all = script_report words input files old new status capacity bytes events (whole zero) are only script in
      (all.1, bare_promised words capacity bytes events all.1 are script all.2, all.3)

  -- ---- a configuration

  pub Decided-checked : status ≡ 0 → (path : List ℕ) → AreOver Check words path
      → (c : Config) × IsConfigFrom files path c × Appends old new (one_line (codes "ok"))
  Decided-checked zero path are =
      let over = over_run words input files old new status Check path zero (whole zero) are in
      (over.0, over.2, subst (λ (e : Exit). Appends old new e.text) over.3 over.4)

  pub Decided-tabled : status ≡ 0 → (path : List ℕ) → AreOver Table words path
      → (c : Config) × IsConfigFrom files path c × Appends old new (table_text (table_records c))
  Decided-tabled zero path are =
      let over = over_run words input files old new status Table path zero (whole zero) are in
      (over.0, over.2, subst (λ (e : Exit). Appends old new e.text) over.3 over.4)

  pub Decided-migrated : status ≡ 0 → (path : List ℕ) → AreOver Migrate words path
      → (c : Config) × (text : List ℕ) × IsConfigFrom files path c × IsRead text (Ok c) × HasVersion 2 text
      × Appends old new text
  Decided-migrated zero path are =
      let over = over_run words input files old new status Migrate path zero (whole zero) are in
      (over.0, over.1.text, over.2, over.3.1.0, over.3.1.1, over.4)

  -- ---- a session over a configuration, whose rovers start so

  pub Decided-played : (start : RoverStart) → status ≡ 0 → (config session : List ℕ) → ArePlayed start words config session
      → (c : Config) × (events : List Event) × (text : List ℕ) × IsConfigFrom files config c
      × IsSessionFrom files session c events × IsReportText start c events text × Appends old new text
  Decided-played start zero config session are =
      replay_run words input files old new status start config session zero (whole zero) are

  -- ---- a number

  pub Decided-made : status ≡ 0 → (seed frames rovers : ℕ) → AreMake words seed frames rovers
      → Appends old new (made_text seed frames rovers)
  Decided-made zero seed frames rovers are =
      (made_run words input files old new status seed frames rovers (whole zero) are).1
