-- What links, doors and streets tell that log all that they did, and nothing of what is to come.
use Rattle.std.specs.Prelude.{ℕ, List, map, None, Some}
use Rattle.cast_io.specs.declared.steps.Asked.{Asked}
use Rattle.cast_io.specs.declared.steps.Step.{Step}
use Rattle.cast_io.specs.Told.{LinkTold, DoorTold, StreetTold}

-- a link: the steps that it took, the bytes that it was given by writes, and its count of faults
pub record LinkLog : Type 0 where
  pub taken : List Step
  pub bytes : List ℕ
  pub faults : ℕ

-- a door: the links that came back as they were then, and its count of faults
pub record DoorLog : Type 0 where
  pub back : List LinkLog
  pub faults : ℕ

-- a street: what it was asked, the doors and the links that came back as they were then, its count
-- of faults, and its count of links that came back with faults
pub record StreetLog : Type 0 where
  pub asked : List Asked
  pub doors : List DoorLog
  pub links : List LinkLog
  pub faults : ℕ
  pub link_faults : ℕ

abbrev pub link_logged : LinkLog → LinkTold
link_logged log = record {
  given = None;
  left = None;
  taken = Some log.taken;
  bytes = Some log.bytes;
  faults = log.faults;
}

abbrev pub door_logged : DoorLog → DoorTold
door_logged log =
    record { left = None; back = Some (map link_logged log.back); faults = log.faults }

abbrev pub street_logged : StreetLog → StreetTold
street_logged log = record {
  asked = Some log.asked;
  doors = Some (map door_logged log.doors);
  links = Some (map link_logged log.links);
  faults = log.faults;
  link_faults = log.link_faults;
}
