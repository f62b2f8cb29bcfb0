-- Why the places of a caller refused turns: some place was worn, or may lack memory.
use Rattle.std.specs.Prelude.{◌≡◌, ℕ, ◌^◌, ◌≤◌, ◌⊎◌, ◌||◌, ⊤, Bool, false, IsTrue, List, get_or}
use Rattle.std.specs.List.{list_any}
use Rattle.session_model.specs.declared.ending.Ending.{Ending}
use Rattle.session_model.specs.declared.ending.Ending.TheVariants.{Worn}
use Rattle.session_model.specs.declared.report.Receipt.{Receipt}
use Rattle.caster_places.specs.Known.{Known}

-- Whether one of the places may lack memory, and by how many turns each is worn, that at the book
-- the last: the last number, 2^62 or more, that it met of turns asked of its lock, or 0.
pub record Wear : Type 0 where
  pub may_lack : Bool
  pub turns : List ℕ

-- one of these places may lack memory
abbrev pub lacks_in : Known → Bool
lacks_in known = list_any (λ (lacks : Bool). lacks) known.may_lack || known.book_may_lack

-- of places of which this is known, and that are worn so
abbrev pub wear_of : Known → List ℕ → Wear
wear_of known turns = record { may_lack = lacks_in known; turns = turns }

-- of places that never lack memory, as those at locks are, and that are worn so
abbrev pub only_worn : List ℕ → Wear
only_worn turns = record { may_lack = false; turns = turns }

-- one of the places was asked for 2^62 turns or more
abbrev pub IsWorn : List ℕ → Type 0
IsWorn worn = (place : ℕ) × (2 ^ 62 ≤ get_or worn place 0)

-- Worn is told only where one of these places was worn by at least as many turns as it tells.
abbrev pub IsWornBy : List ℕ → Ending → Type 0
IsWornBy worn (Worn turns) = (2 ^ 62 ≤ turns) × (place : ℕ) × (turns ≤ get_or worn place 0)
IsWornBy worn _ = ⊤

-- one of the places may refuse a turn
abbrev pub MayRefuse : Wear → Type 0
MayRefuse wear = IsWorn wear.turns ⊎ IsTrue wear.may_lack

-- The receipt tells Worn only where a place was worn, and that what was held was not given back
-- only where a place may refuse a turn.
pub record IsRefusedBy (wear : Wear) (receipt : Receipt) : Type 0 where
  pub ending : IsWornBy wear.turns receipt.ending
  pub unsettled : receipt.settled ≡ false → MayRefuse wear
