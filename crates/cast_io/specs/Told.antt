-- What a link, a door, a street and a store tell of themselves, as plain data: `None` where they do
-- not.
use Rattle.std.specs.Prelude.{ℕ, ◌≡◌, ◌++◌, List, Option, None, Some}
use Rattle.cast_io.specs.declared.steps.LinkStep.{LinkStep}
use Rattle.cast_io.specs.declared.steps.Step.{Step}
use Rattle.cast_io.specs.declared.steps.Asked.{Asked}

-- a link: the steps that it was to take at first, those still to come, those that it took,
-- the bytes that it was given by writes, and its count of faults
pub record LinkTold : Type 0 where
  pub given : Option (List LinkStep)
  pub left : Option (List LinkStep)
  pub taken : Option (List Step)
  pub bytes : Option (List ℕ)
  pub faults : ℕ

-- a door: the arrivals to come, where `None` is an idle one, the links that came back as they
-- were then, and its count of faults
pub record DoorTold : Type 0 where
  pub left : Option (List (Option LinkTold))
  pub back : Option (List LinkTold)
  pub faults : ℕ

-- a street: what it was asked, the doors and the links that came back as they were then,
-- its count of faults, and its count of links that came back with faults
pub record StreetTold : Type 0 where
  pub asked : Option (List Asked)
  pub doors : Option (List DoorTold)
  pub links : Option (List LinkTold)
  pub faults : ℕ
  pub link_faults : ℕ

-- a store: the paths that it was asked for, and its files as pairs of path and content, of which
-- the first of a path counts
pub record StoreTold : Type 0 where
  pub asked : Option (List (List ℕ))
  pub files : Option (List (List ℕ × List ℕ))

-- nothing is told of a store
abbrev pub no_store : StoreTold
no_store = record { asked = None; files = None }

-- where this is still told after a call, it was told before, and went from there to here so
abbrev pub StillTold : {X : Type 0} → (X → X → Type 0) → Option X → Option X → Type 0
StillTold {X} GoesTo old new = (now : X) → new ≡ Some now
    → (before : X) × (old ≡ Some before) × GoesTo before now

-- a list that is still told has these items more at its end
abbrev pub Grew : {X : Type 0} → Option (List X) → Option (List X) → List X → Type 0
Grew old new items = StillTold (λ before now. now ≡ before ++ items) old new
