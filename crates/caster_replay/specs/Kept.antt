-- What a run that is played event by event stands for.
use Rattle.std.specs.Prelude.{◌≡◌, ℕ, List, ◌++◌, ◌∷◌}
use base.Stored.{Gv}
use Rattle.session_script.specs.declared.Event.{Event}
use Rattle.cast_config.specs.declared.config.Config.{Config}
use Rattle.session_core.specs.Places.{AtRing}
use Rattle.session_model.specs.Run.{Histories}
use Rattle.session_model.specs.Setting as setting
use Rattle.caster_replay.specs.declared.run.Run.{Run}
use Rattle.caster_replay.specs.Caster.{AreRings, SameBook}
use Rattle.caster_replay.specs.Lives.{Live, lives_in}
use Rattle.caster_replay.specs.Scripts.{IsScriptFor, Stands}
use Rattle.caster_replay.specs.Sends.{sent_in}

-- these events were played, with this configuration
pub record StandsFor {P : Type 0} (c : Config) (script : List Event) (run : Run P) : Type 0 where
  pub table : run.table.items ≡ setting.table c
  pub stands : Stands c script run.entries.items run.desks

-- the event may come next: with it, and some events more, there is a script
abbrev pub MayCome : Config → List Event → Event → Type 0
MayCome c script event = (later : List Event) × IsScriptFor c (script ++ event ∷ later)

-- what is kept of its connections
abbrev pub lives_of : {P : Type 0} → Run P → List Live
lives_of run = lives_in run.entries.items

-- all bytes that the connection of this number was sent
abbrev pub sent_by_run : {P : Type 0} → Run P → ℕ → List ℕ
sent_by_run run n = sent_in n (lives_of run)

-- ---- its places at the rings

-- all calls so far
abbrev pub seen_of : {P : Type 0} → Run P → Histories
seen_of run = run.desks.seen

-- which object each of the places is at
abbrev pub homes_of : {P : Type 0} → Run P → List Gv
homes_of run = run.desks.homes

-- these are the places, in the order of their mountpoints
abbrev pub HasRings : {P : Type 0} → AtRing P → Run P → List P → Type 0
HasRings ring run places = AreRings ring run.desks places

-- nothing but the places changed
pub record SameButRings {P : Type 0} (old now : Run P) : Type 0 where
  pub table : now.table.items ≡ old.table.items
  pub lives : lives_of now ≡ lives_of old
  pub book : SameBook old.desks now.desks
