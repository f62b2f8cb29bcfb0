-- What a refused turn tells: Worn tells by how many turns one of these places is worn; Memory comes
-- only where a place may lack it.
use Rattle.std.specs.Prelude.{ℕ, ◌^◌, ◌≤◌, Bool, true, List, Contains}
use Rattle.turn_log.specs.declared.place.TurnFault.{TurnFault}
use Rattle.turn_log.specs.declared.place.TurnFault.TheVariants as turns

abbrev pub IsTurnRefused : (lacks : List Bool) → List ℕ → TurnFault → Type 0
IsTurnRefused lacks worn (turns.Worn given) = Contains worn given × (2 ^ 62 ≤ given)
IsTurnRefused lacks worn turns.Memory = Contains lacks true

-- a turn may be refused at one of these places
abbrev pub MayRefuse : (lacks : List Bool) → List ℕ → Type 0
MayRefuse lacks worn = (fault : TurnFault) × IsTurnRefused lacks worn fault
