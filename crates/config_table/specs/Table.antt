-- The sourcetable of a configuration (NTRIP 1.0, RTCM 10410.0; NTRIP 2.0, RTCM 10410.1).
use Rattle.std.specs.Prelude.{ℕ, ◌+◌, Bool, true, false, codes, List, [], ◌∷◌, ◌++◌, length, slice_get, Option, Some, None}
use Rattle.std.specs.Fmt.{decimal}
use Rattle.sourcetable.specs.declared.record.Kind.TheVariants.{Str}
use Rattle.sourcetable.specs.declared.record.Record.{Record}
use Rattle.cast_config.specs.Served.{lists}
use Rattle.cast_config.specs.declared.config.Anonymous.{Anonymous}
use Rattle.cast_config.specs.declared.config.Config.{Config}
use Rattle.cast_config.specs.declared.config.Group.{Group}
use Rattle.cast_config.specs.declared.config.Mount.{Mount}
use Rattle.cast_config.specs.declared.config.Near.{Near}
use Rattle.config_table.specs.Degrees.{degrees}

-- the mountpoint or near mountpoint of this number needs no credentials
abbrev pub is_open : List Group → Option Anonymous → ℕ → Bool
is_open groups None n = false
is_open groups (Some a) n = lists (slice_get groups a.group) n

-- none needed (`N`), or those of the scheme Basic (`B`)
abbrev pub authentication : (is_open : Bool) → List ℕ
authentication true = codes "N"
authentication false = codes "B"

-- whether a rover has to send its position, and the frames are of several bases
abbrev pub flag : (near : Bool) → List ℕ
flag true = codes "1"
flag false = codes "0"

-- what differs between a mountpoint and a near one that has it as its first base
pub record Line : Type 0 where
  pub name : List ℕ
  pub identifier : List ℕ
  pub near : Bool
  pub is_open : Bool

-- the 18 fields of a record STR: up to the country, and from the position on
abbrev pub front_fields : List ℕ → List ℕ → Mount → List (List ℕ)
front_fields name identifier m =
    name ∷ identifier ∷ codes "RTCM 3.3" ∷ m.details ∷ m.carrier ∷ m.navigation ∷ m.network
    ∷ m.country ∷ []

abbrev pub back_fields : (near : Bool) → (is_open : Bool) → Mount → List (List ℕ)
back_fields near is_open m =
    degrees m.at.lat ∷ degrees m.at.lon ∷ flag near ∷ flag near ∷ m.generator ∷ codes "none"
    ∷ authentication is_open ∷ codes "N" ∷ decimal m.bitrate ∷ m.misc ∷ []

abbrev pub str_fields : Line → Mount → List (List ℕ)
str_fields line m =
    front_fields line.name line.identifier m ++ back_fields line.near line.is_open m

abbrev pub str_record : Line → Mount → Record
str_record line m = record { kind = Str; fields = str_fields line m }

-- the mountpoint of this number
abbrev pub mount_record : Config → ℕ → Mount → Record
mount_record c n m =
    str_record (record {
      name = m.name;
      identifier = m.identifier;
      near = false;
      is_open = is_open c.group c.anonymous n;
    }) m

-- the mountpoints, numbered from this one on
abbrev pub mount_records : Config → ℕ → List Mount → List Record
mount_records c n [] = []
mount_records c n (m ∷ more) = mount_record c n m ∷ mount_records c (n + 1) more

-- the mountpoint of a number, if it is one
abbrev pub mount_at : List Mount → Option ℕ → Option Mount
mount_at mounts None = None
mount_at mounts (Some n) = slice_get mounts n

-- the near mountpoint of this number, with all but the name of its first base
abbrev pub near_record : Config → ℕ → Near → Option Mount → List Record
near_record c n near None = []
near_record c n near (Some m) =
    str_record (record {
      name = near.name;
      identifier = near.name;
      near = true;
      is_open = is_open c.group c.anonymous n;
    }) m ∷ []

-- the near mountpoints, numbered from this one on
abbrev pub near_records : Config → ℕ → List Near → List Record
near_records c n [] = []
near_records c n (near ∷ more) =
    near_record c n near (mount_at c.mount (slice_get near.bases 0)) ++ near_records c (n + 1) more

-- the given records, then the mountpoints, then the near mountpoints
unfoldable pub table_records : Config → List Record
table_records c =
    c.records ++ mount_records c 0 c.mount ++ near_records c (length c.mount) c.near
