-- What is written of each entry of a configuration: its keys, in the order of the file's
-- description. Every key is written, also one whose value is its default; only a user that a relay
-- has not is left out.
use Rattle.std.specs.Prelude.{ℕ, codes, List, [], ◌∷◌, ◌++◌, get_or, Option, Some, None}
use Rattle.toml.specs.Data.{Data, string, integer, table, Members, no_members}
use Rattle.type_filter.specs.Permitted.{FilterValue, All, Listed}
use Rattle.cast_config.specs.declared.config.Mount.{Mount}
use Rattle.cast_config.specs.declared.config.Near.{Near}
use Rattle.cast_config.specs.declared.config.Group.{Group}
use Rattle.cast_config.specs.declared.config.GroupFilter.{GroupFilter}
use Rattle.cast_config.specs.declared.config.Account.{Account}
use Rattle.cast_config.specs.declared.config.Relay.{Relay}
use Rattle.cast_config.specs.declared.config.Anonymous.{Anonymous}
use Rattle.cast_config.specs.Names.{mount_names, group_names, heard_names}
use Rattle.config_write.specs.Members.{Keys, put, put_keys, list_data, number}

-- ---- references

-- the name of this number
abbrev pub name_at : List (List ℕ) → ℕ → List ℕ
name_at names n = get_or names n []

abbrev pub name_data : List (List ℕ) → ℕ → Data
name_data names n = string (name_at names n)

-- ---- filters

-- the text `all`, or the message numbers, which a filter has in increasing order and each once
abbrev pub types_data : FilterValue → Data
types_data All = string (codes "all")
types_data (Listed numbers) = list_data number numbers

abbrev pub filter_keys : List (List ℕ) → GroupFilter → Keys
filter_keys names f =
    (codes "mount", name_data names f.mount) ∷ (codes "types", types_data f.types) ∷ []

abbrev pub filter_tree : List (List ℕ) → GroupFilter → Members
filter_tree names f = put_keys (filter_keys names f) no_members

-- ---- entries

-- a mountpoint: what its source and its rovers need, and what the sourcetable says of it
abbrev pub station_keys : Mount → Keys
station_keys m =
    (codes "name", string m.name)
    ∷ (codes "password", string m.password)
    ∷ (codes "ring", number m.ring)
    ∷ (codes "latitude", integer m.at.lat)
    ∷ (codes "longitude", integer m.at.lon)
    ∷ []

abbrev pub signal_keys : Mount → Keys
signal_keys m =
    (codes "identifier", string m.identifier)
    ∷ (codes "details", string m.details)
    ∷ (codes "carrier", string m.carrier)
    ∷ (codes "navigation", string m.navigation)
    ∷ []

abbrev pub origin_keys : Mount → Keys
origin_keys m =
    (codes "network", string m.network)
    ∷ (codes "country", string m.country)
    ∷ (codes "generator", string m.generator)
    ∷ (codes "bitrate", number m.bitrate)
    ∷ (codes "misc", string m.misc)
    ∷ []

abbrev pub record_keys : Mount → Keys
record_keys m = signal_keys m ++ origin_keys m

unfoldable pub mount_tree : Mount → Members
mount_tree m = put_keys (record_keys m) (put_keys (station_keys m) no_members)

abbrev pub near_keys : List Mount → Near → Keys
near_keys mounts n =
    (codes "name", string n.name)
    ∷ (codes "bases", list_data (name_data (mount_names mounts)) n.bases)
    ∷ []

unfoldable pub near_tree : List Mount → Near → Members
near_tree mounts n = put_keys (near_keys mounts n) no_members

-- a group: what it lists, and which frames it is given
abbrev pub heard_keys : List Mount → List Near → Group → Keys
heard_keys mounts nears g =
    (codes "name", string g.name)
    ∷ (codes "mounts", list_data (name_data (heard_names mounts nears)) g.mounts)
    ∷ []

abbrev pub filters_keys : List Mount → Group → Keys
filters_keys mounts g =
    (codes "types", types_data g.types)
    ∷ (codes "filter", list_data (λ f. table (filter_tree (mount_names mounts) f)) g.filter)
    ∷ []

unfoldable pub group_tree : List Mount → List Near → Group → Members
group_tree mounts nears g = put_keys (filters_keys mounts g)
    (put_keys (heard_keys mounts nears g) no_members)

abbrev pub credential_keys : Account → Keys
credential_keys a = (codes "user", string a.user) ∷ (codes "password", string a.password) ∷ []

abbrev pub member_keys : List Group → Account → Keys
member_keys groups a =
    (codes "group", name_data (group_names groups) a.group) ∷ (codes "cap", number a.cap) ∷ []

abbrev pub account_keys : List Group → Account → Keys
account_keys groups a = credential_keys a ++ member_keys groups a

unfoldable pub account_tree : List Group → Account → Members
account_tree groups a = put_keys (account_keys groups a) no_members

abbrev pub relay_keys : List Mount → Relay → Keys
relay_keys mounts r =
    (codes "mount", name_data (mount_names mounts) r.mount)
    ∷ (codes "address", string r.address)
    ∷ (codes "upstream", string r.upstream)
    ∷ (codes "protocol", number r.protocol)
    ∷ (codes "password", string r.password)
    ∷ []

-- and its user, if it has one
abbrev pub with_user : Option (List ℕ) → Members → Members
with_user None ms = ms
with_user (Some user) ms = put (codes "user") (string user) ms

unfoldable pub relay_tree : List Mount → Relay → Members
relay_tree mounts r = with_user r.user (put_keys (relay_keys mounts r) no_members)

-- ---- lists of entries

unfoldable pub mounts_data : List Mount → Data
mounts_data mounts = list_data (λ m. table (mount_tree m)) mounts

unfoldable pub nears_data : List Mount → List Near → Data
nears_data mounts nears = list_data (λ n. table (near_tree mounts n)) nears

unfoldable pub groups_data : List Mount → List Near → List Group → Data
groups_data mounts nears groups = list_data (λ g. table (group_tree mounts nears g)) groups

unfoldable pub accounts_data : List Group → List Account → Data
accounts_data groups accounts = list_data (λ a. table (account_tree groups a)) accounts

unfoldable pub relays_data : List Mount → List Relay → Data
relays_data mounts relays = list_data (λ r. table (relay_tree mounts r)) relays

-- ---- who has no account

abbrev pub anonymous_keys : List Group → Anonymous → Keys
anonymous_keys groups a =
    (codes "group", name_data (group_names groups) a.group) ∷ (codes "cap", number a.cap) ∷ []

unfoldable pub anonymous_tree : List Group → Anonymous → Members
anonymous_tree groups a = put_keys (anonymous_keys groups a) no_members
