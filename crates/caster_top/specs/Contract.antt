-- What every call of `caster` keeps, whatever its words: fact by fact.
use Rattle.std.specs.Prelude.{◌≡◌, ◌≢◌, ◌⊎◌, ℕ, List, Some, Ok}
use Rattle.std.specs.Io.KnownBytes.{Appends}
use Rattle.session_script.specs.declared.Event.{Event}
use Rattle.session_script.specs.declared.ScriptKind.TheVariants.{Bare}
use Rattle.session_script.specs.Script.{script_of}
use Rattle.run_texts.specs.Texts.{IsRunText, IsWarmText, made_text, bare_report_text}
use Rattle.cast_io.specs.Causes.{Rose}
use Rattle.cast_config.specs.declared.config.Config.{Config}
use Rattle.cast_config.specs.Bare.{bare}
use Rattle.ntrip_fetch.specs.Tries.{HasStopped}
use Rattle.ntrip_fetch.specs.declared.left.FetchFault.TheVariants as faults
use Rattle.ntrip_fetch.specs.declared.target.Target.{Target}
use Rattle.caster_top.specs.declared.command.CasterMode.{CasterMode}
use Rattle.caster_top.specs.Command.{AreBare, AreCasting, AreFetch, AreMake, AreOfNoForm, AreReplay, AreWarm, KeepNothing, WriteAtEnd, form_of}
use Rattle.caster_top.specs.Outcome.{memory_exit, network_exit, read_fault_exit}
use Rattle.caster_top.specs.Told.{FollowsOutcome, HaveCome, HaveFault, Holds, IsAsked, IsConfigAt, IsFaultyConfig, IsFaultyScript, IsSessionAt, IsTooLong, Tells, WritesPart}
use Rattle.caster_top.specs.Casting.{HasCast, no_network}
use Rattle.caster_top.specs.Done.{WasDone}
use Rattle.caster_top.specs.Given.{FileCame, FileGave, InputCame, InputGave}
use Rattle.caster_top.specs.Kept.{LeavesOutput}
use Rattle.caster_top.specs.Promised.{KeepPromise, WasPromised}
use Rattle.caster_top.specs.Fetching.{HasFetched, HasFetching}
use Rattle.caster_top.specs.Calls.{CallTold, HasRisen, MeetsCasting, MeetsOutcome, MeetsUndisturbed}

-- ---- what came in the call

-- these bytes are all that the input gave in it
abbrev pub GaveInput : CallTold → List ℕ → Type 0
GaveInput call = InputGave call.left call.input_log.before call.input_log.now

-- these are all that the file of a path gave in it
abbrev pub GaveFiles : CallTold → List ℕ → List ℕ → Type 0
GaveFiles call = FileGave call.files call.store_log.before call.store_log.now

-- these came from the input: all, or too many, of which the first came
abbrev pub CameInput : CallTold → List ℕ → Type 0
CameInput call = InputCame call.left call.input_log.before call.input_log.now

-- and so from the file of a path
abbrev pub CameFiles : CallTold → List ℕ → List ℕ → Type 0
CameFiles call = FileCame call.files call.store_log.before call.store_log.now

-- ---- the facts

-- With status 0 exactly the text was written that the words ask for, by what input and files tell,
-- and the sessions that were reported, or recorded, keep the promise.
pub record WritesReports (call : CallTold) : Type 0 where
  pub report : call.status ≡ 0 → (capacity : ℕ) (bytes : List ℕ) (events : List Event)
      → AreBare call.words capacity → call.left ≡ Some bytes → script_of Bare bytes ≡ Ok events
      → Appends call.old call.new (bare_report_text (bare capacity) events)
  pub replayed : call.status ≡ 0 → (config session : List ℕ) → AreReplay call.words config session
      → (c : Config) × (events : List Event) × (text : List ℕ) × IsConfigAt call.files config c
      × IsSessionAt call.files session c events × IsRunText c events text
      × Appends call.old call.new text
  pub warmed : call.status ≡ 0 → (config session : List ℕ) → AreWarm call.words config session
      → (c : Config) × (events : List Event) × (text : List ℕ) × IsConfigAt call.files config c
      × IsSessionAt call.files session c events × IsWarmText c events text
      × Appends call.old call.new text
  pub made : call.status ≡ 0 → (seed frames rovers : ℕ) → AreMake call.words seed frames rovers
      → Appends call.old call.new (made_text seed frames rovers)
  pub promised : call.status ≡ 0
      → KeepPromise call.words call.left call.files call.before call.after call.old call.new

-- What was done, promised and written, by what was read: by the bytes that reads of the input gave
-- in the call up to its end, and those that a file gave from its opening to its end.
pub record DoesWhatCame (call : CallTold) : Type 0 where
  pub done : call.status ≡ 0
      → WasDone call.words (GaveInput call) (GaveFiles call) call.before call.after
      call.old call.new
  pub done_promised : call.status ≡ 0
      → WasPromised call.words (GaveInput call) (GaveFiles call) call.before call.after
      call.old call.new
  pub done_outcome : call.status ≢ 4 → call.status ≢ 5 → call.status ≢ 7
      → FollowsOutcome call.words (CameInput call) (CameFiles call) call.status
      call.old call.new

-- What a caster does that serves, or that records: the whole of it, and where the network failed
-- it.
pub record CastsAsAsked (call : CallTold) : Type 0 where
  pub casting : MeetsCasting call
  pub network_fault : call.status ≡ 6 → KeepNothing call.words
      → (task : CasterMode) × (config addr : List ℕ) × (limit : ℕ) × (c : Config)
      × AreCasting task call.words config addr limit × IsConfigAt call.files config c
      × HasCast task c addr limit call.before call.after no_network
      × Rose call.before.faults call.after.faults
      × Appends call.old call.new network_exit.text

-- What a fetch does: the whole of it, what that says with 0 and 9, and what there is to write where
-- the sink or memory failed.
pub record FetchesAsAsked (call : CallTold) : Type 0 where
  pub fetching : (frames : ℕ) (targets : List Target) → AreFetch call.words frames targets
      → HasFetching frames targets call.before call.after call.old call.new
      call.output_faults.before call.output_faults.now call.status
  pub fetched : (call.status ≡ 0) ⊎ (call.status ≡ 9) → (frames : ℕ) (targets : List Target)
      → AreFetch call.words frames targets
      → HasFetched frames targets call.before call.after call.old call.new call.status
  pub fetch_torn : call.status ≡ 5 → (frames : ℕ) (targets : List Target)
      → AreFetch call.words frames targets
      → HasStopped frames targets call.before call.after call.old call.new faults.Sink
  pub fetch_memory : call.status ≡ 7 → (frames : ℕ) (targets : List Target)
      → AreFetch call.words frames targets
      → HasStopped frames targets call.before call.after call.old call.new faults.Memory
  pub too_few : call.status ≡ 9
      → (frames : ℕ) × (targets : List Target) × AreFetch call.words frames targets

-- When each status comes.
pub record HasItsStatus (call : CallTold) : Type 0 where
  pub usage : call.status ≡ 1 → AreOfNoForm call.words
  pub no_form : AreOfNoForm call.words → (call.status ≡ 1) ⊎ (call.status ≡ 5)
  pub no_config : call.status ≡ 2
      → HaveCome IsFaultyConfig call.words (Tells call.left) (Holds call.files)
  pub no_session : call.status ≡ 3
      → HaveCome IsFaultyScript call.words (Tells call.left) (Holds call.files)
  pub read_fault : call.status ≡ 4
      → HaveFault call.words (HasRisen call.input_faults) (HasRisen call.store_faults)
  pub write_fault : call.status ≡ 5 → KeepNothing call.words → HasRisen call.output_faults
  pub too_long : call.status ≡ 8
      → HaveCome IsTooLong call.words (Tells call.left) (Holds call.files)

-- What is written: the outcome, one line, or where a write failed a first part.
pub record WritesOutcome (call : CallTold) : Type 0 where
  pub outcome : MeetsOutcome call
  pub undisturbed : MeetsUndisturbed call
  pub fault_line : call.status ≡ 4 → Appends call.old call.new read_fault_exit.text
  pub memory_line : WriteAtEnd call.words → call.status ≡ 7
      → Appends call.old call.new memory_exit.text
  pub torn : WriteAtEnd call.words → call.status ≡ 5
      → WritesPart call.words (Tells call.left) (Holds call.files)
      (HasRisen call.input_faults) (HasRisen call.store_faults) call.old call.new

-- All of it. The store is asked for the named files, each once, in their order, and for no other: a
-- session only where its configuration is one. The output's count of faults stays but with 5.
pub record MeetsContract (call : CallTold) : Type 0 where
  pub reports : WritesReports call
  pub came : DoesWhatCame call
  pub casts : CastsAsAsked call
  pub fetches : FetchesAsAsked call
  pub statuses : HasItsStatus call
  pub texts : WritesOutcome call
  pub asked : IsAsked (form_of call.words) call.files call.asked.before call.asked.now
  pub kept_output : LeavesOutput call.output_faults.before call.output_faults.now call.status
