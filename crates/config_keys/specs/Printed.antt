-- What is printed where a key breaks its rule.
use Rattle.std.specs.Prelude.{ℕ, ◌-◌, ◌==◌, if◌then◌else◌, codes, List, [], ◌∷◌, ◌++◌, slice_index_or}
use Rattle.std.specs.Fmt.{decimal}
use Rattle.config_keys.specs.declared.key.Key.{Key}
use Rattle.config_keys.specs.declared.fault.KeyFault.{KeyFault}
use Rattle.config_keys.specs.declared.fault.KeyFault.TheVariants.{Missing, Wrong, Range, Twice, Unknown, Memory}

-- the name of this number, counted from 1; nothing where there is none
abbrev pub name_at : List (List ℕ) → ℕ → List ℕ
name_at names n = if n == 0 then [] else slice_index_or names (n - 1) []

-- the top keys, in their order
abbrev pub top_keys : List (List ℕ)
top_keys =
    codes "version" ∷ codes "workers" ∷ codes "hysteresis" ∷ codes "records" ∷ codes "mount"
    ∷ codes "near" ∷ codes "group" ∷ codes "account" ∷ codes "relay" ∷ codes "anonymous" ∷ []

-- the keys of an entry, in their order
abbrev pub mount_keys : List (List ℕ)
mount_keys =
    codes "name" ∷ codes "password" ∷ codes "ring" ∷ codes "latitude" ∷ codes "longitude"
    ∷ codes "identifier" ∷ codes "details" ∷ codes "carrier" ∷ codes "navigation"
    ∷ codes "network" ∷ codes "country" ∷ codes "generator" ∷ codes "bitrate" ∷ codes "misc" ∷ []

abbrev pub near_keys : List (List ℕ)
near_keys = codes "name" ∷ codes "bases" ∷ []

abbrev pub group_keys : List (List ℕ)
group_keys = codes "name" ∷ codes "mounts" ∷ codes "types" ∷ codes "filter" ∷ []

abbrev pub account_keys : List (List ℕ)
account_keys = codes "user" ∷ codes "password" ∷ codes "group" ∷ codes "cap" ∷ []

abbrev pub relay_keys : List (List ℕ)
relay_keys =
    codes "mount" ∷ codes "address" ∷ codes "upstream" ∷ codes "protocol" ∷ codes "user"
    ∷ codes "password" ∷ []

abbrev pub anonymous_keys : List (List ℕ)
anonymous_keys = codes "group" ∷ codes "cap" ∷ []

-- the keys of the entries of the top key of this number
abbrev pub keys_of : ℕ → List (List ℕ)
keys_of list =
    if list == 5 then mount_keys
    else if list == 6 then near_keys
    else if list == 7 then group_keys
    else if list == 8 then account_keys
    else if list == 9 then relay_keys
    else if list == 10 then anonymous_keys
    else []

-- a part behind a space (32), and nothing for the number 0
abbrev pub behind_space : ℕ → List ℕ → List ℕ
behind_space n text = if n == 0 then [] else 32 ∷ text

-- the top key, the number of the entry and the entry's key, as far as there are such
abbrev pub place_text : Key → List ℕ
place_text key =
    name_at top_keys key.list ++ behind_space key.entry (decimal key.entry)
    ++ behind_space key.key (name_at (keys_of key.list) key.key)

-- the test that was failed, and the place
abbrev pub fault_text : KeyFault → List ℕ
fault_text (Missing key) = codes "missing " ++ place_text key
fault_text (Wrong key) = codes "wrong " ++ place_text key
fault_text (Range key) = codes "range " ++ place_text key
fault_text (Twice key) = codes "twice " ++ place_text key
fault_text (Unknown key) = codes "unknown " ++ place_text key
fault_text Memory = codes "memory"
