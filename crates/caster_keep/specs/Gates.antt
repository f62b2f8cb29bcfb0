-- What a caster that keeps serving asks of its yard, and what it gives back.
use Rattle.std.specs.Prelude.{◌≡◌, ℕ, ◌+◌, ◌≤◌, nat_lt, Bool, IsTrue, List, [], ◌∷◌, ◌++◌, map, replicate}
use Rattle.std.specs.List.{list_any}
use Rattle.cast_io.specs.declared.yard_asked.YardAsked.{YardAsked}
use Rattle.cast_io.specs.declared.yard_asked.YardAsked.TheVariants as asked
use Rattle.cast_io.specs.Causes.{Rose}
use Rattle.cast_io.specs.Told.{DoorTold, Grew}
use Rattle.cast_io.specs.Yards.{GateTold, YardTold}
use Rattle.cast_config.specs.declared.config.Config.{Config}
use Rattle.cast_config.specs.declared.config.Relay.{Relay}
use Rattle.caster_link.specs.declared.role.Role.{Role}
use Rattle.caster_link.specs.declared.role.Role.TheVariants as roles
use Rattle.caster_keep.specs.declared.keeper.Keeper.{Keeper}

-- ---- what is asked

abbrev pub reach_of : ℕ → Relay → YardAsked
reach_of quiet relay = asked.Reach relay.address quiet

-- the gates of all workers at one address, and then a gate to the peer of each relay, in order
abbrev pub gates_asked : Config → List ℕ → ℕ → List YardAsked
gates_asked c addr quiet =
    asked.OpenGates addr c.workers quiet ∷ map (reach_of quiet) c.relay

-- and then a place for the lines
abbrev pub asked_of : Config → List ℕ → ℕ → List YardAsked
asked_of c addr quiet = gates_asked c addr quiet ++ asked.Notes ∷ []

-- what the gates of all keepers were made for, in the order of their keepers: those of the workers
-- to be opened at the address, and that of each relay to reach the relay's peer
abbrev pub made_of : Config → List ℕ → ℕ → List YardAsked
made_of c addr quiet =
    replicate c.workers (asked.OpenGates addr c.workers quiet) ++ map (reach_of quiet) c.relay

-- The yard was asked for these, in order, and nothing came back to it.
pub record HasAsked (wanted : List YardAsked) (old new : YardTold) : Type 0 where
  pub asked : Grew old.asked new.asked wanted
  pub gates : new.gates ≡ old.gates
  pub notes : new.notes ≡ old.notes
  pub later : old.faults ≤ new.faults
  pub note_faults : new.note_faults ≡ old.note_faults

-- ---- who serves

abbrev pub relays_from : ℕ → List Relay → List Role
relays_from n [] = []
relays_from n (relay ∷ more) = roles.Relay n ∷ relays_from (n + 1) more

-- the roles of all keepers, in the order of their numbers: first the workers, and then the relays
abbrev pub roles_of : Config → List Role
roles_of c = replicate c.workers roles.Caller ++ relays_from 0 c.relay

-- ---- what is given back

-- a gate as it is told when it is shut
abbrev pub gate_told : {G : Type 0} → (G → DoorTold) → (G → Bool) → G → GateTold
gate_told told over gate = record { door = told gate; over = over gate }

-- the gates of these keepers, in order
abbrev pub gates_of : {G : Type 0} → (G → DoorTold) → (G → Bool) → List (Keeper G) → List GateTold
gates_of {G} told over keepers =
    map (λ (keeper : Keeper G). gate_told told over keeper.gate) keepers

abbrev pub gate_failed : GateTold → Bool
gate_failed gate = nat_lt 0 gate.door.faults

-- The yard took these gates back, in order, as they are told. Where one of them failed, its count
-- of faults rose.
pub record HasTakenBack (given : List GateTold) (old new : YardTold) : Type 0 where
  pub asked : new.asked ≡ old.asked
  pub gates : Grew old.gates new.gates given
  pub notes : new.notes ≡ old.notes
  pub later : old.faults ≤ new.faults
  pub rose : IsTrue (list_any gate_failed given) → Rose old.faults new.faults
  pub note_faults : new.note_faults ≡ old.note_faults
