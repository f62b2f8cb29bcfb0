-- What the program ends with that is to be a caster, one that serves or one that records, and what
-- the street tells of it.
use Rattle.std.specs.Prelude.{◌≡◌, ℕ, ◌⊎◌, List, Option, Result, Ok, Err, ⊤}
use Rattle.cast_io.specs.Causes.{Rose}
use Rattle.cast_io.specs.Told.{StreetTold}
use Rattle.cast_config.specs.declared.config.Config.{Config}
use Rattle.session_script.specs.declared.Event.{Event}
use Rattle.session_script.specs.Writing.{script_text}
use Rattle.session_model.specs.declared.report.Closed.{Closed}
use Rattle.session_model.specs.Text.{closed_text}
use Rattle.caster_serve.specs.Caster.{HasServed}
use Rattle.caster_serve.specs.declared.whole.ServeFault.{ServeFault}
use Rattle.caster_serve.specs.declared.whole.ServeFault.TheVariants as faults
use Rattle.caster_top.specs.declared.answers.Answer.{Answer}
use Rattle.caster_top.specs.declared.answers.Answer.TheVariants.{NetworkFault, Memory}
use Rattle.caster_top.specs.declared.command.CasterMode.{CasterMode}
use Rattle.caster_top.specs.declared.command.CasterMode.TheVariants.{Serve, Record}
use Rattle.caster_top.specs.Outcome.{Exit, EndsSo, exactly, whole_exit, read_fault_exit, network_exit, memory_exit}
use Rattle.caster_top.specs.Told.{Files, IsConfigFrom}
use Rattle.caster_top.specs.Answers.{IsGiven, IsRefusedAt, IsRefusal, Writes}
use Rattle.caster_top.specs.Recording.{HasRecorded, HasNotRecorded}

-- ---- what it came to

-- a text, no network, or no memory
pub data CameTo : Type 0 where
  a_text : List ℕ → CameTo
  no_network : CameTo
  no_memory : CameTo

-- A caster of this task over this configuration came to this: one that serves to the text of what
-- it counted, one that records to the script of its session.
abbrev pub HasCast : CasterMode → Config → List ℕ → ℕ → StreetTold → StreetTold → CameTo → Type 0
HasCast Serve c addr limit before after (a_text text) = (closed : Closed)
    × HasServed c addr limit before after (Ok closed) × (text ≡ closed_text c closed)
HasCast Serve c addr limit before after no_network =
    HasServed c addr limit before after (Err faults.Network)
HasCast Serve c addr limit before after no_memory =
    HasServed c addr limit before after (Err faults.Memory)
HasCast Record c addr limit before after (a_text text) = (events : List Event)
    × HasRecorded c addr limit before after events × (text ≡ script_text events)
HasCast Record c addr limit before after no_network =
    HasNotRecorded addr before after × Rose before.faults after.faults
HasCast Record c addr limit before after no_memory = HasNotRecorded addr before after

-- ---- before anything is written

-- whether memory may be lacking for the text of what it came to: one that serves takes the room for
-- its totals before it starts
abbrev pub MayLackRoom : CasterMode → Type 0
MayLackRoom Serve = ⊥
MayLackRoom Record = ⊤

-- the answer where a caster of this task came to this
abbrev pub GivesCame : CasterMode → CameTo → Answer → Type 0
GivesCame task (a_text text) answer =
    IsGiven (MayLackRoom task) ⊥ (EndsSo (exactly (whole_exit text))) answer
GivesCame task no_network answer = answer ≡ NetworkFault
GivesCame task no_memory answer = answer ≡ Memory

-- the answer where a caster that serves over this configuration came to this
abbrev pub GivesServed : Config → Result Closed ServeFault → Answer → Type 0
GivesServed c (Ok closed) answer =
    IsGiven ⊥ ⊥ (EndsSo (exactly (whole_exit (closed_text c closed)))) answer
GivesServed c (Err faults.Network) answer = answer ≡ NetworkFault
GivesServed c (Err faults.Memory) answer = answer ≡ Memory

-- there was a caster over the configuration in the file of this path, and this is the answer
pub record HasAnswered (task : CasterMode) (files : Files) (config addr : List ℕ) (limit : ℕ)
    (before after : StreetTold) (answer : Answer) : Type 0 where
  pub c : Config
  pub came_to : CameTo
  pub config_is : IsConfigFrom files config c
  pub cast : HasCast task c addr limit before after came_to
  pub given : GivesCame task came_to answer

-- so it was, or the street was left alone, since there is no configuration to be had
abbrev pub IsCastingAnswer : CasterMode → Files → List ℕ → List ℕ → ℕ → StreetTold → StreetTold
    → Type 0 → Answer → Type 0
IsCastingAnswer task files config addr limit before after fault answer =
    ((after ≡ before) × IsRefusal config files fault answer)
    ⊎ HasAnswered task files config addr limit before after answer

-- ---- and with it

-- What the program ends with where a caster of this task came to this, unless a write fails. Of one
-- that records, want of memory can come where the script is made, too.
abbrev pub CastEnd : CasterMode → CameTo → Exit → Type 0
CastEnd task (a_text text) end =
    (end ≡ whole_exit text) ⊎ (MayLackRoom task × (end ≡ memory_exit))
CastEnd task no_network end = end ≡ network_exit
CastEnd task no_memory end = end ≡ memory_exit

-- what it ends with where there is no configuration to be had
abbrev pub RefusedEnd : List ℕ → Files → Type 0 → Exit → Type 0
RefusedEnd config files fault end =
    (end ≡ memory_exit) ⊎ ((fault × (end ≡ read_fault_exit)) ⊎ IsRefusedAt config files end)

-- there was a caster over the configuration in the file of this path, and the program ends so
pub record HasEnded (task : CasterMode) (files : Files) (config addr : List ℕ) (limit : ℕ)
    (before after : StreetTold) (end : Exit) : Type 0 where
  pub c : Config
  pub came_to : CameTo
  pub config_is : IsConfigFrom files config c
  pub cast : HasCast task c addr limit before after came_to
  pub ends : CastEnd task came_to end

-- so it ends, or with the street left alone
abbrev pub CastingEnd : CasterMode → Files → List ℕ → List ℕ → ℕ → StreetTold → StreetTold → Type 0
    → Exit → Type 0
CastingEnd task files config addr limit before after fault end =
    ((after ≡ before) × RefusedEnd config files fault end)
    ⊎ HasEnded task files config addr limit before after end

-- the whole outcome: how it ends, and what was written of that
pub record HasCasting (task : CasterMode) (files : Files) (config addr : List ℕ) (limit : ℕ)
    (before after : StreetTold) (fault : Type 0) (old new : Option (List ℕ))
    (faults now status : ℕ) : Type 0 where
  pub end : Exit
  pub ends : CastingEnd task files config addr limit before after fault end
  pub written : Writes end old new faults now status

-- a status that says that there was no caster
abbrev pub IsUnserved : ℕ → Type 0
IsUnserved status = (status ≡ 1) ⊎ ((status ≡ 2) ⊎ ((status ≡ 4) ⊎ (status ≡ 8)))
