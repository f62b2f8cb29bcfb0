-- When a join or a read of a segment may be refused.
use Rattle.std.specs.Prelude.{◌≡◌, ℕ, ◌^◌, ◌≤◌, Bool, IsTrue}
use Rattle.turn_log.specs.declared.TurnFault.{TurnFault}
use Rattle.turn_log.specs.declared.TurnFault.TheVariants as turns
use Rattle.rover_cursor.specs.declared.fault.SegFault.{SegFault}
use Rattle.rover_cursor.specs.declared.fault.SegFault.TheVariants.{Worn, Memory}

-- the refusal of a turn, handed on
abbrev pub handed_on : TurnFault → SegFault
handed_on (turns.Worn given) = Worn given
handed_on turns.Memory = Memory

-- What a refusal shows, by whether memory may lack and by how many turns the place is worn after
-- it: Worn tells exactly that number, which is at least 2 ^ 62.
abbrev pub IsRefusal : (may_lack : Bool) → ℕ → SegFault → Type 0
IsRefusal may_lack worn (Worn given) = (given ≡ worn) × (2 ^ 62 ≤ given)
IsRefusal may_lack worn Memory = IsTrue may_lack
