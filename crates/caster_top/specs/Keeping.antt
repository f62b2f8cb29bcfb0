-- What the program ends with that keeps serving.
use Rattle.std.specs.Prelude.{◌≡◌, ℕ, ◌+◌, ◌⊎◌, ⊤, Bool, IsTrue, true, false, List, [], ◌∷◌, ◌++◌, map, Option, Result, Ok, Err}
use Rattle.std.specs.List.{All, flat_map}
use Rattle.std.specs.Io.KnownBytes.{Appends}
use Rattle.cast_io.specs.Told.{DoorTold}
use Rattle.cast_io.specs.declared.yard_asked.YardAsked.{YardAsked}
use Rattle.cast_io.specs.Yards.{YardTold}
use Rattle.cast_console.specs.Consoles.{ConsoleTold}
use Rattle.cast_config.specs.declared.config.Config.{Config}
use Rattle.session_model.specs.Text.{closed_text}
use Rattle.caster_press.specs.Lines.{text_in, text_of}
use Rattle.caster_keep.specs.declared.stop.Stop.{Stop}
use Rattle.caster_keep.specs.declared.stop.Stop.TheVariants as stops
use Rattle.caster_keep.specs.declared.whole.Outcome.{Outcome}
use Rattle.caster_keep.specs.declared.whole.KeepFault.{KeepFault}
use Rattle.caster_keep.specs.declared.whole.KeepFault.TheVariants as faults
use Rattle.caster_keep.specs.Gates.{asked_of, made_of}
use Rattle.caster_keep.specs.Keeping.{KeeperTold, PorterTold, Went}
use Rattle.caster_keep.specs.Links.{lines_from}
use Rattle.keep_porter.specs.Porters.{IsOfAll, answer_lines}
use Rattle.caster_top.specs.Outcome.{Exit, network_exit, memory_exit}
use Rattle.caster_top.specs.Told.{Files, IsConfigFrom}
use Rattle.caster_top.specs.Answers.{Writes}
use Rattle.caster_top.specs.Casting.{RefusedEnd}

-- ---- whatever happens

-- what a caster did that kept serving over a configuration, at an address, with so many seconds of
-- silence: by what its yard told before and after, and by what it came to
abbrev pub Keeps : Type 1
Keeps = Config → List ℕ → ℕ → YardTold → YardTold → Result Outcome KeepFault → Type 0

-- nothing more was written to the output, and its count of faults stands
abbrev pub NothingMore : Option (List ℕ) → Option (List ℕ) → ℕ → ℕ → Type 0
NothingMore old new first now = (new ≡ old) × (now ≡ first)

-- How it ends that served. A line, or the totals, could not be written: status 5, and nothing more.
-- All is written, and all gates were over: status 0, and nothing more. All is written, but a gate
-- failed: the line of a network that failed.
abbrev pub KeptEnd : (torn : Bool) → Stop → Option (List ℕ) → Option (List ℕ) → ℕ → ℕ → ℕ → Type 0
KeptEnd true stop old new first now status = (status ≡ 5) × NothingMore old new first now
KeptEnd false stops.Over old new first now status = (status ≡ 0) × NothingMore old new first now
KeptEnd false stops.Failed old new first now status =
    Writes network_exit old new first now status

-- by what it came to
abbrev pub EndOfKeeping : Result Outcome KeepFault → Option (List ℕ) → Option (List ℕ) → ℕ → ℕ → ℕ
    → Type 0
EndOfKeeping (Ok outcome) old new first now status =
    KeptEnd outcome.is_torn outcome.stop old new first now status
EndOfKeeping (Err faults.Network) old new first now status =
    Writes network_exit old new first now status
EndOfKeeping (Err faults.Memory) old new first now status =
    Writes memory_exit old new first now status

-- there was no configuration to be had, and the yard was left alone
pub record IsUnkept (files : Files) (config : List ℕ) (before after : YardTold) (fault : Type 0)
    (old new : Option (List ℕ)) (first now status : ℕ) : Type 0 where
  pub alone : after ≡ before
  pub end : Exit
  pub refused : RefusedEnd config files fault end
  pub written : Writes end old new first now status

-- there was a caster over the configuration in the file of this path, and the program ended by what
-- it came to
pub record WasKept (kept : Keeps) (files : Files) (config addr : List ℕ) (quiet : ℕ)
    (before after : YardTold) (old new : Option (List ℕ)) (first now status : ℕ) : Type 0 where
  pub c : Config
  pub config_is : IsConfigFrom files config c
  pub came_to : Result Outcome KeepFault
  pub did : kept c addr quiet before after came_to
  pub ends : EndOfKeeping came_to old new first now status

-- the whole outcome
abbrev pub HasKeeping : Keeps → Files → List ℕ → List ℕ → ℕ → YardTold → YardTold → Type 0
    → Option (List ℕ) → Option (List ℕ) → ℕ → ℕ → ℕ → Type 0
HasKeeping kept files config addr quiet before after fault old new first now status =
    IsUnkept files config before after fault old new first now status
    ⊎ WasKept kept files config addr quiet before after old new first now status

-- ---- with status 0

-- whether a gate is over
module _ {G : Type 0} (over : G → Bool) where
  -- the gate of the keeper of this number was over, and the lines that it put are all lines of all
  -- links that it served
  pub record IsDone (c : Config) (me : ℕ) (keeper : KeeperTold G) : Type 0 where
    pub gate_over : IsTrue (over keeper.gate)
    pub all_lines : map text_of keeper.lines ≡ lines_from c me keeper.role 1 keeper.links

  -- so it is of each of these, numbered from this number on
  abbrev pub AreDone : Config → ℕ → List (KeeperTold G) → Type 0
  AreDone c n [] = ⊤
  AreDone c n (keeper ∷ keepers) = IsDone c n keeper × AreDone c (n + 1) keepers

-- nothing was wanted any more at the console of the porter, each of its answers is of every
-- mountpoint, and the lines that it put are all lines of all of its answers
pub record PorterIsDone (c : Config) (porter : PorterTold) : Type 0 where
  pub console_over : porter.console.over ≡ true
  pub of_all : All (IsOfAll c) porter.given
  pub all_lines : map text_of porter.lines ≡ flat_map (answer_lines c) porter.given

-- and what it tells as a door, how it names a peer, what it was made for; what notes told of their
-- bytes and their faults; and which consoles had come back before and have come back now
module _ {G O : Type 0} (told : G → DoorTold) (over : G → Bool) (peer : G → List ℕ)
    (origin : G → YardAsked) (taken : O → Option (List ℕ)) (faults_of : O → ℕ)
    (back_before back_now : List ConsoleTold) where
  -- The file of this path holds a configuration. The yard was asked for the gates of all workers at
  -- this address, for one to the peer of each relay, all with this silence, and for a place for
  -- lines. The gates of all keepers were over, and all lines of all links were put; so was each
  -- line of each answer of the porter, until nothing was wanted any more. The place took them in
  -- one order, and the totals behind them, and no write to it failed. The output took nothing.
  pub record KeptToItsEnd (files : Files) (config addr : List ℕ) (quiet : ℕ)
      (before after : YardTold) (old new : Option (List ℕ)) : Type 0 where
    pub c : Config
    pub config_is : IsConfigFrom files config c
    pub outcome : Outcome
    pub went : Went told over peer origin taken faults_of back_before back_now c
        (made_of c addr quiet) (asked_of c addr quiet) before after outcome
    pub done : AreDone over c 0 went.ended.keepers
    pub porter_done : PorterIsDone c went.ended.porter
    pub written : Appends (taken went.ended.first) (taken went.ended.notes)
        (text_in went.ended.lines ++ closed_text c outcome.closed)
    pub unharmed : faults_of went.ended.notes ≡ faults_of went.ended.first
    pub nothing_more : new ≡ old
