-- The rules that every configuration keeps that was read, with the greatest cap that is allowed:
-- what a caller may rely on without looking at a document.
use Rattle.std.specs.Prelude.{◌≡◌, ℕ, ◌+◌, ◌≤◌, ◌<◌, not, ◌&&◌, ◌==◌, Bool, true, IsTrue, IfSome, unsigned_abs, List, [], ◌∷◌, length, map, Some}
use Rattle.std.specs.List.{All, list_any}
use Rattle.cast_text.specs.Name.{is_name}
use Rattle.sourcetable.specs.Record.{line_of}
use Rattle.config_keys.specs.declared.strings.TextKind.TheVariants.{Plain, Secret, Address}
use Rattle.config_keys.specs.Lists.{each_once}
use Rattle.config_keys.specs.Records.{record_line}
use Rattle.config_keys.specs.Rules.{is_within}
use Rattle.config_keys.specs.Texts.{is_fit}
use Rattle.cast_config.specs.declared.config.Config.{Config}
use Rattle.cast_config.specs.declared.config.Mount.{Mount}
use Rattle.cast_config.specs.declared.config.Near.{Near}
use Rattle.cast_config.specs.declared.config.Group.{Group}
use Rattle.cast_config.specs.declared.config.GroupFilter.{GroupFilter}
use Rattle.cast_config.specs.declared.config.Account.{Account}
use Rattle.cast_config.specs.declared.config.Relay.{Relay}
use Rattle.cast_config.specs.declared.config.Anonymous.{Anonymous}
use Rattle.cast_config.specs.Names.{group_names, heard_names, user_names}
use Rattle.cast_config.specs.Served.{GivesItsFilters}

-- each number stands there once
abbrev pub once : List ℕ → Bool
once [] = true
once (n ∷ more) = not (list_any (λ m. m == n) more) && once more

-- numbers below this one, each there once
pub record AreNumbers (below : ℕ) (numbers : List ℕ) : Type 0 where
  pub within : All (λ n. n < below) numbers
  pub once : IsTrue (once numbers)

-- names and texts fit their fields, numbers are in range
pub record KeepsMount (m : Mount) : Type 0 where
  pub name : IsTrue (is_name m.name)
  pub password : IsTrue (is_fit Plain m.password)
  pub ring : IsTrue (is_within 1 4096 m.ring)
  pub lat : unsigned_abs m.at.lat ≤ 900000000
  pub lon : unsigned_abs m.at.lon ≤ 1800000000
  pub identifier : IsTrue (is_fit Plain m.identifier)
  pub details : IsTrue (is_fit Plain m.details)
  pub carrier : IsTrue (is_fit Plain m.carrier)
  pub navigation : IsTrue (is_fit Plain m.navigation)
  pub network : IsTrue (is_fit Plain m.network)
  pub country : IsTrue (is_fit Plain m.country)
  pub generator : IsTrue (is_fit Plain m.generator)
  pub bitrate : m.bitrate ≤ 1000000000
  pub misc : IsTrue (is_fit Plain m.misc)

-- 1 to 16 bases, each one of so many mountpoints
pub record KeepsNear (mounts : ℕ) (n : Near) : Type 0 where
  pub name : IsTrue (is_name n.name)
  pub count : IsTrue (is_within 1 16 (length n.bases))
  pub bases : AreNumbers mounts n.bases

abbrev pub filtered : List GroupFilter → List ℕ
filtered filters = map (λ (f : GroupFilter). f.mount) filters

-- what it lists is a mountpoint or a near mountpoint, and its filters are for mountpoints
pub record KeepsGroup (bases nears : ℕ) (g : Group) : Type 0 where
  pub name : IsTrue (is_name g.name)
  pub few : length g.mounts ≤ 64
  pub mounts : AreNumbers (bases + nears) g.mounts
  pub few_filters : length g.filter ≤ 64
  pub filters : AreNumbers bases (filtered g.filter)

pub record KeepsAccount (most_cap groups : ℕ) (a : Account) : Type 0 where
  pub user : IsTrue (is_name a.user)
  pub password : IsTrue (is_fit Secret a.password)
  pub group : a.group < groups
  pub cap : IsTrue (is_within 1 most_cap a.cap)

pub record KeepsRelay (mounts : ℕ) (r : Relay) : Type 0 where
  pub mount : r.mount < mounts
  pub address : IsTrue (is_fit Address r.address)
  pub upstream : IsTrue (is_name r.upstream)
  pub protocol : IsTrue (is_within 1 2 r.protocol)
  pub user : IfSome r.user (λ user. IsTrue (is_name user))
  pub password : IsTrue (is_fit Secret r.password)

pub record KeepsAnonymous (most_cap groups : ℕ) (a : Anonymous) : Type 0 where
  pub group : a.group < groups
  pub cap : IsTrue (is_within 1 most_cap a.cap)

pub record KeepsRules (most_cap : ℕ) (c : Config) : Type 0 where
  pub workers : IsTrue (is_within 1 256 c.workers)
  pub hysteresis : c.hysteresis ≤ 50
  pub few_records : length c.records ≤ 64
  pub records : All (λ r. record_line (line_of r) ≡ Some r) c.records
  pub some_mounts : 1 ≤ length c.mount
  pub few_mounts : length c.mount + length c.near ≤ 64
  pub mount : All KeepsMount c.mount
  pub near : All (KeepsNear (length c.mount)) c.near
  pub names : IsTrue (each_once (heard_names c.mount c.near))
  pub count_groups : IsTrue (is_within 1 64 (length c.group))
  pub group : All (KeepsGroup (length c.mount) (length c.near)) c.group
  pub groups : IsTrue (each_once (group_names c.group))
  pub few_accounts : length c.account ≤ 1024
  pub account : All (KeepsAccount most_cap (length c.group)) c.account
  pub users : IsTrue (each_once (user_names c.account))
  pub few_relays : length c.relay ≤ 16
  pub relay : All (KeepsRelay (length c.mount)) c.relay
  pub anonymous : IfSome c.anonymous (KeepsAnonymous most_cap (length c.group))
  pub filters : GivesItsFilters c
