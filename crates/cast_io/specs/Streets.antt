-- What the calls of a street do to what it tells.
use Rattle.std.specs.Prelude.{ℕ, ◌≡◌, ◌≤◌, ◌<◌, [], ◌∷◌, Result, IsErrOf, IsSome}
use Rattle.cast_io.specs.declared.steps.Asked.{Asked}
use Rattle.cast_io.specs.declared.street.StreetFault.{StreetFault}
use Rattle.cast_io.specs.declared.street.StreetFault.TheVariants as faults
use Rattle.cast_io.specs.Causes.{Rose}
use Rattle.cast_io.specs.Told.{LinkTold, DoorTold, StreetTold, Grew}

-- the street was asked for this, and told so, also where it refused
pub record HasAsked (wanted : Asked) (old new : StreetTold) : Type 0 where
  pub asked : Grew old.asked new.asked (wanted ∷ [])
  pub doors : new.doors ≡ old.doors
  pub links : new.links ≡ old.links
  pub later : old.faults ≤ new.faults
  pub link_faults : new.link_faults ≡ old.link_faults

-- A call that did not fail leaves the count as it was, where the street still tells what it was
-- asked: it may have lost that for want of memory, which counts as a fault.
abbrev pub IsUnharmed : {T : Type 0} → Result T StreetFault → StreetTold → StreetTold → Type 0
IsUnharmed result old new = IsSome new.asked → (IsErrOf result faults.Failed → ⊥)
    → new.faults ≡ old.faults

-- a count never falls, and it rises exactly where this other one is above 0
pub record RisesWith (count old new : ℕ) : Type 0 where
  pub later : old ≤ new
  pub rose : 0 < count → Rose old new
  pub same : count ≡ 0 → new ≡ old

-- the street took a link back, which is told as it is then; its faults are counted apart
pub record HasLeft (link : LinkTold) (old new : StreetTold) : Type 0 where
  pub asked : new.asked ≡ old.asked
  pub doors : new.doors ≡ old.doors
  pub links : Grew old.links new.links (link ∷ [])
  pub faults : new.faults ≡ old.faults
  pub link_faults : RisesWith link.faults old.link_faults new.link_faults

-- the street took a door back, which is told as it is then; a door with faults is a fault of the
-- street
pub record HasShut (door : DoorTold) (old new : StreetTold) : Type 0 where
  pub asked : new.asked ≡ old.asked
  pub doors : Grew old.doors new.doors (door ∷ [])
  pub links : new.links ≡ old.links
  pub faults : RisesWith door.faults old.faults new.faults
  pub link_faults : new.link_faults ≡ old.link_faults
