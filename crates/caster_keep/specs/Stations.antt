-- A keeper at its post: at the seats of the locks, with its gate and its role, before and behind
-- its work. And the porter at its booth: at the seats of the locks, with its console.
use Rattle.std.specs.Prelude.{◌≡◌, ℕ, ◌<◌, List, [], ◌∷◌, length, map, None, Some, Bool}
use Rattle.cast_io.specs.Told.{DoorTold}
use Rattle.caster_accounts.specs.Sums.{nothing}
use Rattle.cast_config.specs.declared.config.Config.{Config}
use Rattle.cast_config.specs.Kept.{KeepsRules}
use Rattle.session_model.specs.Setting.{table}
use Rattle.caster_press.specs.declared.line.Line.{Line}
use Rattle.caster_press.specs.Lines.{text_of}
use Rattle.caster_places.specs.Known.{Fit}
use Rattle.caster_link.specs.declared.role.Role.{Role}
use Rattle.caster_link.specs.declared.role.Role.TheVariants as roles
use Rattle.caster_link.specs.Wear.{lacks_in, wear_of}
use Rattle.caster_seats.specs.SeatedCallers.{SeatedTold}
use Rattle.caster_keep.specs.declared.keeper.Keeper.{Keeper}
use Rattle.caster_keep.specs.declared.stop.Stop.{Stop}
use Rattle.caster_keep.specs.Links.{Kept}
use Rattle.cast_console.specs.Consoles.{ConsoleTold}
use Rattle.caster_keep.specs.declared.duty.Duty.{Duty}
use Rattle.caster_keep.specs.declared.duty.Duty.TheVariants as duties
use Rattle.caster_keep.specs.declared.porter.Porter.{Porter}
use Rattle.caster_keep.specs.Keepers.{KeptOn}
use Rattle.keep_porter.specs.Porters.{Answer, HasAnswered}

-- a keeper in this role at this gate, which has served nothing
abbrev pub new_keeper : {G : Type 0} → Role → G → Keeper G
new_keeper role gate =
    record { gate = gate; role = role; tally = nothing; count = 0; stop = None }

-- the role of a client, or that of a relay of the configuration
abbrev pub IsRoleOf : Config → Role → Type 0
IsRoleOf c role = (number : ℕ) → role ≡ roles.Relay number → number < length c.relay

-- the configuration and the text of its sourcetable, and the keeper at its seats
pub record PostTold (G : Type 0) : Type 0 where
  pub config : Config
  pub table : List ℕ
  pub hand : SeatedTold (Keeper G)

abbrev pub posted : {G : Type 0} → Config → List ℕ → SeatedTold (Keeper G) → PostTold G
posted c table hand = record { config = c; table = table; hand = hand }

abbrev pub hand_at : {G : Type 0} → PostTold G → SeatedTold (Keeper G)
hand_at post = post.hand

-- it has served nothing, and may keep serving here
pub record MayKeep {G : Type 0} (post : PostTold G) : Type 0 where
  pub kept : (cap : ℕ) × KeepsRules cap post.config
  pub table_is : post.table ≡ table post.config
  pub fit : Fit post.config post.hand.number post.hand.known
  pub role : IsRoleOf post.config post.hand.work.role
  pub fresh : post.hand.work ≡ new_keeper post.hand.work.role post.hand.work.gate

-- it kept serving until it stopped, and put exactly these lines, which are those of its links
pub record HasWorkedOn {G : Type 0} (told : G → DoorTold) (over : G → Bool) (peer : G → List ℕ)
    (old new : PostTold G) (lines : List Line) : Type 0 where
  pub config : new.config ≡ old.config
  pub number : new.hand.number ≡ old.hand.number
  pub known : new.hand.known ≡ old.hand.known
  pub role : new.hand.work.role ≡ old.hand.work.role
  pub stop : Stop
  pub stop_is : new.hand.work.stop ≡ Some stop
  pub links : List Kept
  pub kept : KeptOn told over peer old.config old.hand.work.role old.hand.number
      (wear_of new.hand.known new.hand.worn) old.hand.seen new.hand.seen old.hand.work.gate
      new.hand.work.gate old.hand.work.tally new.hand.work.tally links (map text_of lines) stop

-- ---- the porter

-- a porter at this console, which has said nothing
abbrev pub new_porter : {C : Type 0} → C → Porter C
new_porter console = record { console = console }

-- the configuration, and the porter at its seats
pub record BoothTold (C : Type 0) : Type 0 where
  pub config : Config
  pub hand : SeatedTold (Porter C)

abbrev pub booth_of : {C : Type 0} → Config → SeatedTold (Porter C) → BoothTold C
booth_of c hand = record { config = c; hand = hand }

-- it has said nothing, and may wait here
pub record MayWait {C : Type 0} (booth : BoothTold C) : Type 0 where
  pub kept : (cap : ℕ) × KeepsRules cap booth.config
  pub fit : Fit booth.config booth.hand.number booth.hand.known

-- it waited until nothing was wanted any more, and put exactly these lines, which are those of its
-- answers
pub record HasWaitedOn {C : Type 0} (told : C → ConsoleTold) (old new : BoothTold C)
    (lines : List Line) : Type 0 where
  pub config : new.config ≡ old.config
  pub number : new.hand.number ≡ old.hand.number
  pub known : new.hand.known ≡ old.hand.known
  pub given : List Answer
  pub answered : HasAnswered old.config old.hand.number (lacks_in new.hand.known) new.hand.worn
      old.hand.seen new.hand.seen (told old.hand.work.console) (told new.hand.work.console)
      given (map text_of lines)

-- ---- either of them

-- those at gates, in order
abbrev pub gates_in : {A B : Type 0} → List (Duty A B) → List A
gates_in [] = []
gates_in (duties.Gate work ∷ more) = work ∷ gates_in more
gates_in (duties.Console work ∷ more) = gates_in more

-- and those at consoles
abbrev pub consoles_in : {A B : Type 0} → List (Duty A B) → List B
consoles_in [] = []
consoles_in (duties.Gate work ∷ more) = consoles_in more
consoles_in (duties.Console work ∷ more) = work ∷ consoles_in more

-- a work at a gate may begin so, and one at a console so
abbrev pub MayBegin : {A B : Type 0} → (A → Type 0) → (B → Type 0) → Duty A B → Type 0
MayBegin at_gate at_console (duties.Gate work) = at_gate work
MayBegin at_gate at_console (duties.Console work) = at_console work

-- A work at a gate did what such works do, and one at a console what those do. Which of them it is
-- stays.
abbrev pub HasDone : {A B : Type 0} → (A → A → List Line → Type 0)
    → (B → B → List Line → Type 0) → Duty A B → Duty A B → List Line → Type 0
HasDone at_gate at_console (duties.Gate old) (duties.Gate new) lines = at_gate old new lines
HasDone at_gate at_console (duties.Gate old) (duties.Console new) lines = ⊥
HasDone at_gate at_console (duties.Console old) (duties.Gate new) lines = ⊥
HasDone at_gate at_console (duties.Console old) (duties.Console new) lines =
    at_console old new lines
