-- What a document says: its configuration, or the first rule that it breaks.
--
-- The order of the tests is that of the lines: the keys in this order, the entries of a list one by
-- one, and the keys of an entry in its order. For one key the tests come as Missing (it is required
-- and not there), Wrong (another TOML type, of an element too), Range, Twice, Unknown. A key that
-- has no line is not looked at.
use Rattle.std.specs.Prelude.{◌≡◌, ℕ, ◌+◌, ◌-◌, ◌==◌, if◌then◌else◌, codes, List, [], ◌∷◌, ◌++◌, length, Option, Some, None, Result, Ok, Err}
use Rattle.std.specs.Str.{IsUtf8}
use Rattle.toml.specs.Data.{Data, table, Items, no_items, item, Members, get_member}
use Rattle.toml.specs.Parse.{parse_document}
use Rattle.sourcetable.specs.declared.record.Record.{Record}
use Rattle.config_keys.specs.declared.key.Key.{Key}
use Rattle.config_keys.specs.declared.fault.KeyFault.TheVariants as keys
use Rattle.config_keys.specs.Answers.{Read, ◌>>=◌}
use Rattle.config_keys.specs.Rules.{required, optional, count}
use Rattle.config_keys.specs.Lists.{tables}
use Rattle.config_keys.specs.Records.{records}
use Rattle.cast_config.specs.declared.config.Config.{Config}
use Rattle.cast_config.specs.declared.config.Mount.{Mount}
use Rattle.cast_config.specs.declared.config.Group.{Group}
use Rattle.cast_config.specs.declared.document.RoverOffer.{RoverOffer}
use Rattle.cast_config.specs.declared.document.Parties.{Parties}
use Rattle.cast_config.specs.declared.document.Places.{Places}
use Rattle.cast_config.specs.declared.document.Settings.{Settings}
use Rattle.cast_config.specs.declared.fault.ConfigFault.{ConfigFault}
use Rattle.cast_config.specs.declared.fault.ConfigFault.TheVariants.{Toml, Missing, Wrong, Range, Twice, Unknown, Memory}
use Rattle.cast_config.specs.Names.{some_of}
use Rattle.cast_config.specs.Entries.{top, mount_of, near_of, group_of, account_of, relay_of, anonymous_of}
use Rattle.cast_config.specs.Served.{all_filters}

-- the entries of a list of tables, numbered from this number on, behind those before
abbrev pub entries : {A : Type 0} → Key → (ℕ → List A → Members → Read A) → ℕ → List A → Items
    → Read (List A)
entries key one n before no_items = Ok before
entries key one n before (item (table ms) ds) =
    one n before ms >>= (λ a. entries key one (n + 1) (before ++ a ∷ []) ds)
entries key one n before (item _ ds) = Err (keys.Wrong key)

-- a list of so many tables that has to be there, and one that may be left out
abbrev pub listed : {A : Type 0} → (ℕ → List A → Members → Read A) → ℕ → ℕ → Key → Option Data
    → Read (List A)
listed one least most key found =
    required (tables least most) key found >>= entries key one 1 []

abbrev pub listed_or_none : {A : Type 0} → (ℕ → List A → Members → Read A) → ℕ → Key
    → Option Data → Read (List A)
listed_or_none one most key found =
    optional no_items (tables 0 most) key found >>= entries key one 1 []

-- how many groups a file of this version may have
abbrev pub most_groups : ℕ → ℕ
most_groups version = if version == 1 then 16 else 64

-- the mountpoints and the near mountpoints
unfoldable pub places_of : Members → Read Places
places_of ms = do
  mount ← listed mount_of 1 64 (top 5) (get_member (codes "mount") ms)
  near ← listed_or_none (near_of mount) (64 - length mount) (top 6) (get_member (codes "near") ms)
  Ok (record { mount = mount; near = near })

-- the same and the groups that list them
unfoldable pub heard_of : ℕ → Members → Read RoverOffer
heard_of version ms = do
  places ← places_of ms
  group ← listed (group_of version places.mount places.near) 1 (most_groups version) (top 7)
      (get_member (codes "group") ms)
  Ok (record {
    mount = places.mount;
    near = places.near;
    group = group;
    permits = all_filters places.mount group;
  })

-- the accounts, the relays and who has no account
unfoldable pub parties_of : List Mount → List Group → Members → Read Parties
parties_of mount group ms = do
  account ← listed_or_none (account_of group) 1024 (top 8) (get_member (codes "account") ms)
  relay ← listed_or_none (λ n before. relay_of mount n) 16 (top 9) (get_member (codes "relay") ms)
  anonymous ← optional None (some_of (anonymous_of group)) (top 10)
      (get_member (codes "anonymous") ms)
  Ok (record { account = account; relay = relay; anonymous = anonymous })

-- the keys that are numbers
unfoldable pub settings_of : Members → Read Settings
settings_of ms = do
  version ← required (count 1 2) (top 1) (get_member (codes "version") ms)
  workers ← optional 4 (count 1 256) (top 2) (get_member (codes "workers") ms)
  hysteresis ← optional 10 (count 0 50) (top 3) (get_member (codes "hysteresis") ms)
  Ok (record { version = version; workers = workers; hysteresis = hysteresis })

-- the configuration of these parts
abbrev pub config_from : Settings → List Record → RoverOffer → Parties → Config
config_from settings records heard parties = record {
  workers = settings.workers;
  hysteresis = settings.hysteresis;
  records = records;
  mount = heard.mount;
  near = heard.near;
  group = heard.group;
  account = parties.account;
  relay = parties.relay;
  anonymous = parties.anonymous;
  permits = heard.permits;
}

-- all keys, in their order
unfoldable pub config_of : Members → Read Config
config_of ms = do
  settings ← settings_of ms
  records ← optional [] records (top 4) (get_member (codes "records") ms)
  heard ← heard_of settings.version ms
  parties ← parties_of heard.mount heard.group ms
  Ok (config_from settings records heard parties)

-- ---- bytes

-- the bytes are a document of TOML 1.0 with these members
pub record IsDocument (bytes : List ℕ) (ms : Members) : Type 0 where
  pub utf8 : IsUtf8 bytes
  pub parsed : parse_document bytes ≡ Some ms

abbrev pub ReadsAs : List ℕ → Read Config → Type 0
ReadsAs bytes read = (ms : Members) × IsDocument bytes ms × (config_of ms ≡ read)

-- what reading these bytes answers: a document has one answer, since its members are a function of
-- it, and its answer one of them
abbrev pub IsRead : List ℕ → Result Config ConfigFault → Type 0
IsRead bytes (Ok c) = ReadsAs bytes (Ok c)
IsRead bytes (Err Toml) = (ms : Members) → IsDocument bytes ms → ⊥
IsRead bytes (Err (Missing key)) = ReadsAs bytes (Err (keys.Missing key))
IsRead bytes (Err (Wrong key)) = ReadsAs bytes (Err (keys.Wrong key))
IsRead bytes (Err (Range key)) = ReadsAs bytes (Err (keys.Range key))
IsRead bytes (Err (Twice key)) = ReadsAs bytes (Err (keys.Twice key))
IsRead bytes (Err (Unknown key)) = ReadsAs bytes (Err (keys.Unknown key))
IsRead bytes (Err Memory) = Unit {0}
