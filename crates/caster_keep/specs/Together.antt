-- All callers of a caster at its locks, the keepers and behind them the porter, before they begin
-- and once they have left.
use Rattle.std.specs.Prelude.{◌≡◌, ℕ, ◌+◌, ◌<◌, ◌≤◌, Bool, List, [], ◌∷◌, ◌++◌, length, map, unwrap_or, Some, vec_capacity}
use Rattle.std.specs.List.{All}
use mathlib.Core.Option.{some}
use lib.ListN.{get_elem?}
use Rattle.turn_log.specs.History.{History, IsLegal, own}
use Rattle.cast_io.specs.Told.{DoorTold}
use Rattle.cast_io.specs.Yards.{NotesTold}
use Rattle.cast_io.specs.declared.street.StreetFault.{StreetFault}
use Rattle.cast_io.specs.declared.street.StreetFault.TheVariants as refusals
use Rattle.caster_accounts.specs.History.{fits}
use Rattle.session_model.specs.Run.{Histories}
use Rattle.session_model.specs.Setting.{caps}
use Rattle.session_text.specs.Room.{closed_room}
use Rattle.caster_press.specs.declared.line.Line.{Line}
use Rattle.caster_press.specs.declared.press.OutputStart.{OutputStart}
use Rattle.caster_press.specs.Lines.{text_in}
use Rattle.caster_press.specs.Written.{IsWritten}
use Rattle.caster_places.specs.Piles.{AreMatched}
use Rattle.caster_places.specs.Rows.{ArePiles, AreWornWithin, HaveRoom, IsRoomFor}
use Rattle.caster_places.specs.declared.pass_piles.PassPiles.{PassPiles}
use Rattle.caster_link.specs.declared.role.Role.{Role}
use Rattle.caster_seats.specs.declared.shared.Passes.{Passes}
use Rattle.caster_seats.specs.declared.shared.Shared.{Shared}
use Rattle.caster_seats.specs.Sharing.{AreNewPasses, AreOpenFor, IsReady}
use Rattle.caster_keep.specs.declared.keeper.Keeper.{Keeper}
use Rattle.caster_keep.specs.declared.stop.Stop.{Stop}
use Rattle.caster_keep.specs.declared.stop.Stop.TheVariants as stops
use Rattle.caster_keep.specs.declared.whole.KeepFault.{KeepFault}
use Rattle.caster_keep.specs.declared.whole.KeepFault.TheVariants as faults
use Rattle.caster_keep.specs.declared.whole.Ready.{Ready}
use Rattle.caster_keep.specs.Gates.{roles_of}
use Rattle.cast_console.specs.Consoles.{ConsoleTold}
use Rattle.caster_keep.specs.declared.porter.Porter.{Porter}
use Rattle.caster_keep.specs.Keeping.{AreKeepers, IsPorter, KeeperTold, PorterTold, first_of, role_of, seen_by, seen_by_all}
use Rattle.caster_keep.specs.Stations.{BoothTold, HasWaitedOn, new_keeper}

-- ---- before

-- it has served nothing
abbrev pub IsNewKeeper : {G : Type 0} → Keeper G → Type 0
IsNewKeeper keeper = keeper ≡ new_keeper keeper.role keeper.gate

abbrev pub role_at : {G : Type 0} → Keeper G → Role
role_at keeper = keeper.role

abbrev pub gate_at : {G : Type 0} → Keeper G → G
gate_at keeper = keeper.gate

-- why it stopped; one that has not stopped had no gate that failed
abbrev pub stop_at : {G : Type 0} → Keeper G → Stop
stop_at keeper = unwrap_or keeper.stop stops.Over

-- The locks are open with new passes for so many callers, and there is room for what comes back and
-- for the text of the totals.
pub record IsPrepared (callers : ℕ) (ready : Ready) : Type 0 where
  pub locks : IsReady ready.shared
  pub opened : AreOpenFor callers ready.shared
  pub count : length ready.passes.items ≡ callers
  pub passes : (number : ℕ) (pass : Passes) → get_elem? ready.passes.items number ≡ some pass
      → AreNewPasses number pass ready.shared
  pub room : HaveRoom callers ready.piles
  pub empty : ArePiles [] ready.piles ready.shared.rings.items ready.shared.book
  pub none : ready.piles.book.items ≡ []
  pub totals : IsRoomFor ready.shared.config.now ready.totals
  pub no_text : ready.text.items ≡ []
  pub text : closed_room ready.shared.config.now ≤ vec_capacity ready.text

-- a refusal of the yard, as the caster tells it
abbrev pub fault_of : StreetFault → KeepFault
fault_of refusals.Failed = faults.Network
fault_of refusals.Memory = faults.Memory

-- ---- behind

-- the keeper is as it is told
pub record IsToldBy {G : Type 0} (told : KeeperTold G) (keeper : Keeper G) : Type 0 where
  pub role : keeper.role ≡ told.role
  pub gate : keeper.gate ≡ told.gate
  pub tally : keeper.tally ≡ told.tally
  pub stop : keeper.stop ≡ Some told.stop

-- the porter is as it is told
pub record IsPorterToldBy {C : Type 0} (heard : C → ConsoleTold) (told : PorterTold)
    (porter : Porter C) : Type 0 where
  pub console : heard porter.console ≡ told.console

-- All keepers kept serving from these gates on, and left the locks, with the passes of all in the
-- piles of their locks. Their lines are those of one history, which was written from this start on,
-- or torn. What they were refused was refused as worn as these passes met the locks. And the porter
-- waited at its booth, behind them, put its own lines in that history, and is there still.
pub record HaveKept {G C : Type 0} (door : G → DoorTold) (over : G → Bool) (peer : G → List ℕ)
    (heard : C → ConsoleTold) (shared : Shared) (start : OutputStart) (torn : Bool)
    (notes : NotesTold)
    (firsts : List G) (keepers : List (Keeper G)) (before now : BoothTold C) (piles : PassPiles)
    : Type 0 where
  pub tolds : List (KeeperTold G)
  pub lines : History Line
  pub told : AreMatched IsToldBy tolds keepers
  pub roles_are : map role_of tolds ≡ roles_of shared.config.now
  pub firsts_are : map first_of tolds ≡ firsts
  pub kept : (mounts : List ℕ) (book : ℕ) → AreWornWithin mounts book piles
      → AreKeepers door over peer shared.config.now (mounts ++ book ∷ []) 0 tolds
  pub owns : (k : ℕ) (keeper : KeeperTold G) → get_elem? tolds k ≡ some keeper
      → own k lines ≡ keeper.lines
  pub waited : HasWaitedOn heard before now (own (length tolds) lines)
  pub nobody_else : All (λ (entry : ℕ × Line). entry.0 < length tolds + 1) lines
  pub text : IsWritten torn start notes.taken notes.faults (text_in lines)
  pub piles_are : ArePiles (map seen_by tolds) piles shared.rings.items shared.book
  pub legal : All (λ (row : Histories). IsLegal (fits (caps shared.config.now)) row.book)
      (map seen_by tolds)
  pub passes : length piles.book.items ≡ length tolds

-- All keepers kept serving, and the porter waited; then all of them left.
pub record HaveWorked {G C : Type 0} (door : G → DoorTold) (over : G → Bool) (peer : G → List ℕ)
    (heard : C → ConsoleTold) (shared : Shared) (start : OutputStart) (torn : Bool)
    (notes : NotesTold)
    (firsts : List G) (keepers : List (Keeper G)) (first : C) (porter : Porter C)
    (piles : PassPiles) : Type 0 where
  pub tolds : List (KeeperTold G)
  pub porter_told : PorterTold
  pub lines : History Line
  pub told : AreMatched IsToldBy tolds keepers
  pub told_porter : IsPorterToldBy heard porter_told porter
  pub roles_are : map role_of tolds ≡ roles_of shared.config.now
  pub firsts_are : map first_of tolds ≡ firsts
  pub first_is : porter_told.first ≡ heard first
  pub kept : (mounts : List ℕ) (book : ℕ) → AreWornWithin mounts book piles
      → AreKeepers door over peer shared.config.now (mounts ++ book ∷ []) 0 tolds
      × IsPorter shared.config.now (mounts ++ book ∷ []) (length tolds) porter_told
  pub owns : (k : ℕ) (keeper : KeeperTold G) → get_elem? tolds k ≡ some keeper
      → own k lines ≡ keeper.lines
  pub porter_owns : own (length tolds) lines ≡ porter_told.lines
  pub nobody_else : All (λ (entry : ℕ × Line). entry.0 < length tolds + 1) lines
  pub text : IsWritten torn start notes.taken notes.faults (text_in lines)
  pub piles_are : ArePiles (seen_by_all tolds porter_told) piles shared.rings.items shared.book
  pub legal : All (λ (row : Histories). IsLegal (fits (caps shared.config.now)) row.book)
      (seen_by_all tolds porter_told)
  pub passes : length piles.book.items ≡ length tolds + 1
