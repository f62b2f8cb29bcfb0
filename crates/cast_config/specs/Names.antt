-- Names among others: new ones, and references to mountpoints and groups.
use Rattle.std.specs.Prelude.{ℕ, not, ◌&&◌, List, [], ◌++◌, length, map, Option, Some, Ok}
use Rattle.std.specs.List.{list_all, position_from}
use Rattle.std.specs.Str.{bytes_eq}
use Rattle.cast_text.specs.Name.{is_name}
use Rattle.config_keys.specs.declared.key.Key.{Key}
use Rattle.config_keys.specs.declared.filters.FilterEntry.{FilterEntry}
use Rattle.config_keys.specs.declared.fault.KeyFault.TheVariants.{Range, Twice, Unknown}
use Rattle.config_keys.specs.Answers.{Read, ◌>>=◌, given, holds}
use Rattle.config_keys.specs.Lists.{texts, is_among, each_once, each_of}
use Rattle.config_keys.specs.Rules.{Rule, is_within}
use Rattle.config_keys.specs.Texts.{name}
use Rattle.config_keys.specs.Types.{filters}
use Rattle.cast_config.specs.declared.config.GroupFilter.{GroupFilter}
use Rattle.cast_config.specs.declared.config.Mount.{Mount}
use Rattle.cast_config.specs.declared.config.Near.{Near}
use Rattle.cast_config.specs.declared.config.Group.{Group}
use Rattle.cast_config.specs.declared.config.Account.{Account}

-- the names of entries, in their order
abbrev pub mount_names : List Mount → List (List ℕ)
mount_names mounts = map (λ (m : Mount). m.name) mounts

abbrev pub near_names : List Near → List (List ℕ)
near_names nears = map (λ (n : Near). n.name) nears

abbrev pub group_names : List Group → List (List ℕ)
group_names groups = map (λ (g : Group). g.name) groups

abbrev pub user_names : List Account → List (List ℕ)
user_names accounts = map (λ (a : Account). a.user) accounts

-- the names that a group may list: those of mountpoints, and behind them those of near mountpoints
abbrev pub heard_names : List Mount → List Near → List (List ℕ)
heard_names mounts nears = mount_names mounts ++ near_names nears

-- the number of a name among names, from 0
abbrev pub place_of : List (List ℕ) → List ℕ → Option ℕ
place_of names s = position_from (λ n. bytes_eq n s) 0 names

abbrev pub place_at : Key → List (List ℕ) → List ℕ → Read ℕ
place_at key names s = given (Unknown key) (place_of names s)

-- a name that is none of these
unfoldable pub new_name : List (List ℕ) → Rule (List ℕ)
new_name names key found = do
  s ← name key found
  _ ← holds (Twice key) (not (is_among names s))
  Ok s

-- a name that is one of these, as its number
unfoldable pub named : List (List ℕ) → Rule ℕ
named names key found = do
  s ← name key found
  place_at key names s

-- so many names, each there once
unfoldable pub names_once : ℕ → ℕ → Rule (List (List ℕ))
names_once least most key found = do
  all ← texts key found
  _ ← holds (Range key) (is_within least most (length all) && list_all is_name all)
  _ ← holds (Twice key) (each_once all)
  Ok all

-- so many names, each one of these and there once, as their numbers
abbrev pub all_named : List (List ℕ) → ℕ → ℕ → Rule (List ℕ)
all_named names least most key found =
    names_once least most key found >>= each_of (place_at key names) []

-- filters for single mountpoints, each one of these and there once, as their numbers
abbrev pub filter_at : Key → List (List ℕ) → FilterEntry → Read GroupFilter
filter_at key names entry =
    place_at key names entry.mount >>= (λ m. Ok (record { mount = m; types = entry.types }))

abbrev pub entry_names : List FilterEntry → List (List ℕ)
entry_names entries = map (λ (e : FilterEntry). e.mount) entries

unfoldable pub entries_once : Rule (List FilterEntry)
entries_once key found = do
  all ← filters key found
  _ ← holds (Twice key) (each_once (entry_names all))
  Ok all

abbrev pub filters_at : List (List ℕ) → Rule (List GroupFilter)
filters_at names key found = entries_once key found >>= each_of (filter_at key names) []

-- a rule of a key that may be left out, and has no default
abbrev pub some_of : {A : Type 0} → Rule A → Rule (Option A)
some_of rule key found = rule key found >>= (λ x. Ok (Some x))
