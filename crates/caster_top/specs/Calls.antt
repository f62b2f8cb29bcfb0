-- What is told of a call of `caster` that has ended, and three facts of its contract as one word
-- each, on which laws stand.
use Rattle.std.specs.Prelude.{◌≡◌, ◌≢◌, ℕ, ◌≤◌, List, length, Option, Some, Ok}
use Rattle.cast_io.specs.Causes.{Rose}
use Rattle.cast_io.specs.Logs.{Log}
use Rattle.cast_io.specs.Stores.{content_of}
use Rattle.cast_io.specs.Told.{StreetTold}
use Rattle.session_script.specs.declared.Event.{Event}
use Rattle.cast_config.specs.declared.config.Config.{Config}
use Rattle.cast_config.specs.Document.{IsRead}
use Rattle.caster_top.specs.declared.command.CasterMode.{CasterMode}
use Rattle.caster_top.specs.Command.{AreCasting, KeepNothing}
use Rattle.caster_top.specs.Outcome.{session_in}
use Rattle.caster_top.specs.Told.{FilesTold, FollowsOutcome, HaveFault, Holds, Tells}
use Rattle.caster_top.specs.Casting.{HasCasting}

-- how often something had failed before the call, and after it
pub record FaultCount : Type 0 where
  pub before : ℕ
  pub now : ℕ

-- it failed in the call, and it did not
abbrev pub HasRisen : FaultCount → Type 0
HasRisen count = Rose count.before count.now

abbrev pub IsCalm : FaultCount → Type 0
IsCalm count = ¬ HasRisen count

-- the steps that something had taken before the call, and has taken after it
pub record LogTold : Type 0 where
  pub before : Log
  pub now : Log

-- the files that a store had been asked for before the call, and has been asked for after it
pub record AskedTold : Type 0 where
  pub before : Option (List (List ℕ))
  pub now : Option (List (List ℕ))

-- A call of `caster`: its words; the bytes that the input had left before it, and the files, where
-- they are told; the steps of input and store; what the store was asked for; what the street told
-- before it and after it; what the output held, where it tells that; the counts of faults of input,
-- store and output; and its status.
pub record CallTold : Type 0 where
  pub words : List (List ℕ)
  pub left : Option (List ℕ)
  pub files : FilesTold
  pub input_log : LogTold
  pub store_log : LogTold
  pub asked : AskedTold
  pub before : StreetTold
  pub after : StreetTold
  pub old : Option (List ℕ)
  pub new : Option (List ℕ)
  pub input_faults : FaultCount
  pub store_faults : FaultCount
  pub output_faults : FaultCount
  pub status : ℕ

-- ---- three facts of its contract

-- status and written bytes are the outcome of words, input and files
abbrev pub Follows : CallTold → Type 0
Follows call =
    FollowsOutcome call.words (Tells call.left) (Holds call.files) call.status call.old call.new

-- `outcome`: of what is told
abbrev pub MeetsOutcome : CallTold → Type 0
MeetsOutcome call = call.status ≢ 4 → call.status ≢ 5 → call.status ≢ 7 → Follows call

-- `undisturbed`: where no count rose
abbrev pub MeetsUndisturbed : CallTold → Type 0
MeetsUndisturbed call = KeepNothing call.words
    → ¬ HaveFault call.words (HasRisen call.input_faults) (HasRisen call.store_faults)
    → IsCalm call.output_faults → call.status ≢ 7 → Follows call

-- `casting`: all of what a caster does that serves or records
abbrev pub MeetsCasting : CallTold → Type 0
MeetsCasting call = (task : CasterMode) (config addr : List ℕ) (limit : ℕ)
    → AreCasting task call.words config addr limit
    → HasCasting task (Holds call.files) config addr limit call.before call.after
    (HasRisen call.store_faults) call.old call.new
    call.output_faults.before call.output_faults.now call.status

-- ---- what is told of files

-- the files are told, and that of this path has at most 8 MiB and is read as this configuration
pub record TellConfig (files : FilesTold) (path : List ℕ) (c : Config) : Type 0 where
  pub list : List (List ℕ × List ℕ)
  pub bytes : List ℕ
  pub told : files ≡ Some list
  pub content : content_of list path ≡ Some bytes
  pub short : length bytes ≤ 8388608
  pub read : IsRead bytes (Ok c)

-- the files are told, and that of this path is a session of these events over a configuration
pub record TellSession (files : FilesTold) (path : List ℕ) (c : Config) (events : List Event)
    : Type 0 where
  pub list : List (List ℕ × List ℕ)
  pub script : List ℕ
  pub told : files ≡ Some list
  pub content : content_of list path ≡ Some script
  pub read : session_in c script ≡ Ok events
