-- The entries of a configuration: one line a key, in the order in which they are tested. Each line
-- has the key's rule, and the value of an optional key that is not there.
use Rattle.std.specs.Prelude.{ℕ, pos, negsuc, ◌==◌, if◌then◌else◌, codes, List, [], Option, None, Ok, Err}
use Rattle.gga_read.specs.declared.Position.{Position}
use Rattle.toml.specs.Data.{Data, table, Members, get_member}
use Rattle.config_keys.specs.declared.key.Key.{Key}
use Rattle.config_keys.specs.declared.strings.TextKind.TheVariants.{Plain, Secret, Address}
use Rattle.config_keys.specs.declared.fault.KeyFault.TheVariants.{Wrong}
use Rattle.config_keys.specs.Answers.{Read, ◌>>=◌}
use Rattle.config_keys.specs.Rules.{Rule, required, optional, whole, count}
use Rattle.config_keys.specs.Texts.{text, name}
use Rattle.config_keys.specs.Types.{types}
use Rattle.cast_config.specs.declared.config.Mount.{Mount}
use Rattle.cast_config.specs.declared.config.Near.{Near}
use Rattle.cast_config.specs.declared.config.Group.{Group}
use Rattle.cast_config.specs.declared.config.GroupFilter.{GroupFilter}
use Rattle.cast_config.specs.declared.config.Account.{Account}
use Rattle.cast_config.specs.declared.config.Relay.{Relay}
use Rattle.cast_config.specs.declared.config.Anonymous.{Anonymous}
use Rattle.cast_config.specs.declared.entries.Credentials.{Credentials}
use Rattle.cast_config.specs.declared.entries.Given.{Given}
use Rattle.cast_config.specs.declared.entries.Hearing.{Hearing}
use Rattle.cast_config.specs.declared.entries.Membership.{Membership}
use Rattle.cast_config.specs.declared.entries.Pull.{Pull}
use Rattle.cast_config.specs.declared.mountpoint.Station.{Station}
use Rattle.cast_config.specs.declared.mountpoint.Signals.{Signals}
use Rattle.cast_config.specs.declared.mountpoint.Origin.{Origin}
use Rattle.cast_config.specs.Names.{mount_names, group_names, user_names, heard_names, new_name, named, all_named, filters_at, some_of}

-- ---- where a key stands: the top key, the entry from 1, the entry's key

abbrev pub place : ℕ → ℕ → ℕ → Key
place list entry key = record { list = list; entry = entry; key = key }

abbrev pub top : ℕ → Key
top list = place list 0 0

-- ---- mountpoints

-- the position of a mountpoint, in units of 10^-7 degree: within 90 and 180 degrees
unfoldable pub position_of : ℕ → Members → Read Position
position_of n ms = do
  lat ← required (whole (negsuc 899999999) (pos 900000000)) (place 5 n 4)
      (get_member (codes "latitude") ms)
  lon ← required (whole (negsuc 1799999999) (pos 1800000000)) (place 5 n 5)
      (get_member (codes "longitude") ms)
  Ok (record { lat = lat; lon = lon })

-- what the source and the rovers of the n-th mountpoint need, behind these
unfoldable pub station_of : ℕ → List Mount → Members → Read Station
station_of n before ms = do
  name ← required (new_name (mount_names before)) (place 5 n 1) (get_member (codes "name") ms)
  password ← required (text Plain) (place 5 n 2) (get_member (codes "password") ms)
  ring ← required (count 1 4096) (place 5 n 3) (get_member (codes "ring") ms)
  at ← position_of n ms
  Ok (record { name = name; password = password; ring = ring; at = at })

-- what the sourcetable says of the mountpoint of this name: its place and its frames
unfoldable pub signals_of : ℕ → List ℕ → Members → Read Signals
signals_of n name ms = do
  identifier ← optional name (text Plain) (place 5 n 6) (get_member (codes "identifier") ms)
  details ← optional [] (text Plain) (place 5 n 7) (get_member (codes "details") ms)
  carrier ← optional (codes "2") (text Plain) (place 5 n 8) (get_member (codes "carrier") ms)
  navigation ← optional (codes "GPS") (text Plain) (place 5 n 9)
      (get_member (codes "navigation") ms)
  Ok (record {
    identifier = identifier;
    details = details;
    carrier = carrier;
    navigation = navigation;
  })

-- and where the frames come from
unfoldable pub origin_of : ℕ → Members → Read Origin
origin_of n ms = do
  network ← optional [] (text Plain) (place 5 n 10) (get_member (codes "network") ms)
  country ← optional [] (text Plain) (place 5 n 11) (get_member (codes "country") ms)
  generator ← optional [] (text Plain) (place 5 n 12) (get_member (codes "generator") ms)
  bitrate ← optional 0 (count 0 1000000000) (place 5 n 13) (get_member (codes "bitrate") ms)
  misc ← optional [] (text Plain) (place 5 n 14) (get_member (codes "misc") ms)
  Ok (record {
    network = network;
    country = country;
    generator = generator;
    bitrate = bitrate;
    misc = misc;
  })

-- the mountpoint of these parts
abbrev pub mount_from : Station → Signals → Origin → Mount
mount_from station signals origin = record {
  name = station.name;
  password = station.password;
  ring = station.ring;
  at = station.at;
  identifier = signals.identifier;
  details = signals.details;
  carrier = signals.carrier;
  navigation = signals.navigation;
  network = origin.network;
  country = origin.country;
  generator = origin.generator;
  bitrate = origin.bitrate;
  misc = origin.misc;
}

-- the n-th mountpoint, behind these
unfoldable pub mount_of : ℕ → List Mount → Members → Read Mount
mount_of n before ms = do
  station ← station_of n before ms
  signals ← signals_of n station.name ms
  origin ← origin_of n ms
  Ok (mount_from station signals origin)

-- ---- near mountpoints

-- the n-th near mountpoint, behind these
unfoldable pub near_of : List Mount → ℕ → List Near → Members → Read Near
near_of mounts n before ms = do
  name ← required (new_name (heard_names mounts before)) (place 6 n 1)
      (get_member (codes "name") ms)
  bases ← required (all_named (mount_names mounts) 1 16) (place 6 n 2)
      (get_member (codes "bases") ms)
  Ok (record { name = name; bases = bases })

-- ---- groups

-- filters for single mountpoints are a key of version 2
abbrev pub filters_by : ℕ → List Mount → Key → Option Data → Read (List GroupFilter)
filters_by version mounts key found =
    if version == 1 then Ok [] else optional [] (filters_at (mount_names mounts)) key found

-- the name of the n-th group, behind these, and what it lists
unfoldable pub hearing_of : List Mount → List Near → ℕ → List Group → Members → Read Hearing
hearing_of mounts nears n before ms = do
  name ← required (new_name (group_names before)) (place 7 n 1) (get_member (codes "name") ms)
  heard ← required (all_named (heard_names mounts nears) 0 64) (place 7 n 2)
      (get_member (codes "mounts") ms)
  Ok (record { name = name; mounts = heard })

-- and which frames it is given
unfoldable pub given_of : ℕ → List Mount → ℕ → Members → Read Given
given_of version mounts n ms = do
  types ← required types (place 7 n 3) (get_member (codes "types") ms)
  filter ← filters_by version mounts (place 7 n 4) (get_member (codes "filter") ms)
  Ok (record { types = types; filter = filter })

-- the n-th group, behind these
unfoldable pub group_of : ℕ → List Mount → List Near → ℕ → List Group → Members → Read Group
group_of version mounts nears n before ms = do
  hearing ← hearing_of mounts nears n before ms
  given ← given_of version mounts n ms
  Ok (record {
    name = hearing.name;
    mounts = hearing.mounts;
    types = given.types;
    filter = given.filter;
  })

-- ---- accounts

-- the user and the password of the n-th account, behind these
unfoldable pub credentials_of : ℕ → List Account → Members → Read Credentials
credentials_of n before ms = do
  user ← required (new_name (user_names before)) (place 8 n 1) (get_member (codes "user") ms)
  password ← required (text Secret) (place 8 n 2) (get_member (codes "password") ms)
  Ok (record { user = user; password = password })

-- its group, and how many of its sessions may be open
unfoldable pub membership_of : List Group → ℕ → Members → Read Membership
membership_of groups n ms = do
  group ← required (named (group_names groups)) (place 8 n 3) (get_member (codes "group") ms)
  cap ← required (count 1 1000000) (place 8 n 4) (get_member (codes "cap") ms)
  Ok (record { group = group; cap = cap })

-- the n-th account, behind these
unfoldable pub account_of : List Group → ℕ → List Account → Members → Read Account
account_of groups n before ms = do
  credentials ← credentials_of n before ms
  membership ← membership_of groups n ms
  Ok (record {
    user = credentials.user;
    password = credentials.password;
    group = membership.group;
    cap = membership.cap;
  })

-- ---- relays

-- what the n-th relay pulls, and for which mountpoint
unfoldable pub pull_of : List Mount → ℕ → Members → Read Pull
pull_of mounts n ms = do
  mount ← required (named (mount_names mounts)) (place 9 n 1) (get_member (codes "mount") ms)
  address ← required (text Address) (place 9 n 2) (get_member (codes "address") ms)
  upstream ← required name (place 9 n 3) (get_member (codes "upstream") ms)
  Ok (record { mount = mount; address = address; upstream = upstream })

-- the n-th relay
unfoldable pub relay_of : List Mount → ℕ → Members → Read Relay
relay_of mounts n ms = do
  pull ← pull_of mounts n ms
  protocol ← required (count 1 2) (place 9 n 4) (get_member (codes "protocol") ms)
  user ← optional None (some_of name) (place 9 n 5) (get_member (codes "user") ms)
  password ← optional [] (text Secret) (place 9 n 6) (get_member (codes "password") ms)
  Ok (record {
    mount = pull.mount;
    address = pull.address;
    upstream = pull.upstream;
    protocol = protocol;
    user = user;
    password = password;
  })

-- ---- who has no account

unfoldable pub anonymous_in : List Group → Members → Read Anonymous
anonymous_in groups ms = do
  group ← required (named (group_names groups)) (place 10 0 1) (get_member (codes "group") ms)
  cap ← required (count 1 1000000) (place 10 0 2) (get_member (codes "cap") ms)
  Ok (record { group = group; cap = cap })

-- a table
abbrev pub anonymous_of : List Group → Rule Anonymous
anonymous_of groups key (table ms) = anonymous_in groups ms
anonymous_of groups key _ = Err (Wrong key)
