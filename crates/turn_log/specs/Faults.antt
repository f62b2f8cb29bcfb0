-- When a turn may be refused.
use Rattle.std.specs.Prelude.{◌≡◌, ℕ, ◌^◌, ◌<◌, ◌≤◌, nat_le, if◌then◌else◌, Bool, IsTrue, Result, Ok, Err}
use Rattle.turn_log.specs.declared.place.TurnFault.{TurnFault}
use Rattle.turn_log.specs.declared.place.TurnFault.TheVariants.{Worn, Memory}

-- What a refused turn shows, of a place that may lack memory or not and is worn by so many
-- turns: Worn names that number, which is at least 2 ^ 62.
abbrev pub IsFault : (may_lack : Bool) → ℕ → TurnFault → Type 0
IsFault may_lack worn (Worn turns) = (worn ≡ turns) × (2 ^ 62 ≤ turns)
IsFault may_lack worn Memory = IsTrue may_lack

-- What a call shows that hands on the refusal of a turn: the place may have worn further since.
abbrev pub IsHandedOn : (may_lack : Bool) → ℕ → TurnFault → Type 0
IsHandedOn may_lack worn (Worn turns) = (turns ≤ worn) × (2 ^ 62 ≤ turns)
IsHandedOn may_lack worn Memory = IsTrue may_lack

-- by how many turns a desk is worn: all that it gave from 2 ^ 62 on, and 0 before
abbrev pub worn_of : ℕ → ℕ
worn_of turns = if nat_le (2 ^ 62) turns then turns else 0

-- Worn comes exactly from 2 ^ 62 turns on, and with their number; Memory never comes.
abbrev pub IsWornAt : {A : Type 0} → ℕ → Result A TurnFault → Type 0
IsWornAt given (Ok reply) = given < 2 ^ 62
IsWornAt given (Err (Worn turns)) = (turns ≡ given) × (2 ^ 62 ≤ given)
IsWornAt given (Err Memory) = ⊥
