-- A caller of a caster while its thread serves.
use Rattle.std.specs.Prelude.{◌≡◌, ℕ, ◌+◌, ◌^◌, ◌<◌, ⊤, Bool, List, length, map, ◌++◌, [], ◌∷◌}
use Rattle.std.specs.List.{All, list_all}
use Rattle.turn_log.specs.History.{IsLegal}
use Rattle.caster_accounts.specs.History.{fits}
use Rattle.caster_accounts.specs.declared.account.Sum.{Sum}
use Rattle.cast_config.specs.declared.config.Config.{Config}
use Rattle.cast_config.specs.Kept.{KeepsRules}
use Rattle.cast_io.specs.Told.{LinkTold, DoorTold}
use Rattle.cast_io.specs.Links.{IsNewLink}
use Rattle.session_model.specs.Run.{Histories}
use Rattle.session_model.specs.Setting as setting
use Rattle.session_model.specs.Setting.{caps}
use Rattle.caster_serve.specs.Endpoints.{EndpointTold, at_door, over_link, end_told, kind_of, kinds}
use Rattle.caster_serve.specs.declared.caller_task.CallerTask.{CallerTask}
use Rattle.caster_places.specs.Known.{Fit}
use Rattle.caster_places.specs.Rows.{ArePiles, AreWornWithin}
use Rattle.caster_places.specs.declared.pass_piles.PassPiles.{PassPiles}
use Rattle.caster_seats.specs.declared.shared.Shared.{Shared}
use Rattle.caster_link.specs.Wear.{wear_of}
use Rattle.caster_serve.specs.Works.{IsWithin}
use Rattle.caster_serve.specs.Callers.{Caller, AreServed, Served, ends_of, is_whole, seen_of}
use Rattle.caster_seats.specs.SeatedCallers.{SeatedTold}

-- ---- its task

-- what it serves over, as it is told, what its rovers add up to, and how many connections it served
pub record TaskTold : Type 0 where
  pub end : EndpointTold
  pub tally : Sum
  pub served : ℕ

abbrev pub task_told : {D L : Type 0} → (D → DoorTold) → (L → LinkTold) → CallerTask D L → TaskTold
task_told door_told link_told task = record {
  end = end_told door_told link_told task;
  tally = task.tally;
  served = task.served;
}

-- the caller that has this task
abbrev pub caller_of : SeatedTold TaskTold → Caller
caller_of hand = record {
  seen = hand.seen;
  tally = hand.work.tally;
  served = hand.work.served;
  end = hand.work.end;
}

-- ---- it serves

-- a relay is one of the configuration, and its link is new
abbrev pub FitsEndpoint : Config → EndpointTold → Type 0
FitsEndpoint c (at_door door) = ⊤
FitsEndpoint c (over_link number link) = (number < length c.relay) × IsNewLink link

-- it may serve so many links of its door
pub record MayServe (c : Config) (table : List ℕ) (limit : ℕ) (hand : SeatedTold TaskTold) : Type 0
  where
    pub kept : (cap : ℕ) × KeepsRules cap c
    pub table_is : table ≡ setting.table c
    pub fit : Fit c hand.number hand.known
    pub few : hand.work.tally.sessions + limit < 2 ^ 64
    pub room : hand.work.tally.sessions + 1 < 2 ^ 64
    pub within : IsWithin hand.work.tally
    pub end : FitsEndpoint c hand.work.end

-- it served, under its number and at its places
pub record CallerServed (c : Config) (limit : ℕ) (old new : SeatedTold TaskTold) : Type 0 where
  pub number : new.number ≡ old.number
  pub known : new.known ≡ old.known
  pub served : Served c limit old.number (wear_of new.known new.worn) (caller_of old)
      (caller_of new)

-- ---- all of it

-- All callers served, each over its end, and left: as many as they were to or not, with the passes
-- of all in the piles of their locks. What they were refused was refused as worn as these passes
-- met the locks.
pub record HaveCalled (shared : Shared) (limit : ℕ) (ends : List EndpointTold) (piles : PassPiles)
    (whole : Bool) : Type 0 where
  pub callers : List Caller
  pub ends_are : ends ≡ ends_of callers
  pub kinds_are : map kind_of ends ≡ kinds shared.config.now
  pub served : (mounts : List ℕ) (book : ℕ) → AreWornWithin mounts book piles
      → AreServed shared.config.now limit (mounts ++ book ∷ []) 0 callers
  pub whole_is : whole ≡ list_all (is_whole limit) callers
  pub piles_are : ArePiles (seen_of callers) piles shared.rings.items shared.book
  pub legal : All (λ (row : Histories). IsLegal (fits (caps shared.config.now)) row.book)
      (seen_of callers)
  pub passes : length piles.book.items ≡ length callers
