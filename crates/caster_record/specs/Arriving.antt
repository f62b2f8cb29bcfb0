-- What a door gave, and took back, while a session was recorded.
use Rattle.std.specs.Prelude.{◌≡◌, ◌≤◌, List, [], ◌∷◌, ◌++◌, map, Option, None, Some}
use Rattle.std.specs.List.{All}
use Rattle.cast_io.specs.declared.steps.LinkStep.{LinkStep}
use Rattle.cast_io.specs.Links.{IsNewLink}
use Rattle.cast_io.specs.Told.{LinkTold, DoorTold, StillTold, Grew}

-- the links among these arrivals
abbrev pub links_among : List (Option LinkTold) → List LinkTold
links_among [] = []
links_among (None ∷ more) = links_among more
links_among (Some told ∷ more) = told ∷ links_among more

-- these arrivals were taken, of which these are links
abbrev pub HasTaken : List LinkTold → List (Option LinkTold) → List (Option LinkTold) → Type 0
HasTaken came old new =
    (front : List (Option LinkTold)) × (old ≡ front ++ new) × (links_among front ≡ came)

-- the steps that each of these links was to take at first
abbrev pub given_in : List LinkTold → List (Option (List LinkStep))
given_in links = map (λ (link : LinkTold). link.given) links

-- These links stood there before, and these now: those and, behind them, the links of the arrivals
-- that the door gave meanwhile, in order, which were new then. None came back.
pub record HaveCome (before now : DoorTold) (old new : List LinkTold) : Type 0 where
  pub came : List LinkTold
  pub left : StillTold (HasTaken came) before.left now.left
  pub fresh : All IsNewLink came
  pub are : given_in new ≡ given_in old ++ given_in came
  pub back : now.back ≡ before.back
  pub later : before.faults ≤ now.faults

-- the door took these links back, in order
pub record HasTakenBack (links : List LinkTold) (before now : DoorTold) : Type 0 where
  pub left : now.left ≡ before.left
  pub back : Grew before.back now.back links
  pub faults : now.faults ≡ before.faults

-- the links of the arrivals that the door gave came back to it, in order, as they were then
pub record HaveLeft (before now : DoorTold) : Type 0 where
  pub came : List LinkTold
  pub left : StillTold (HasTaken came) before.left now.left
  pub links : List LinkTold
  pub are : given_in links ≡ given_in came
  pub back : Grew before.back now.back links
  pub later : before.faults ≤ now.faults
