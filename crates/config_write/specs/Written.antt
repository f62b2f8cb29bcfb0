-- What is written of a configuration: a document of version 2 that says it.
use Rattle.std.specs.Prelude.{◌≡◌, ℕ, pos, codes, List, [], ◌∷◌, ◌++◌, Option, Some, None, Ok}
use Rattle.sourcetable.specs.Record.{line_of}
use Rattle.toml.specs.Data.{string, integer, table, Members, no_members, get_member}
use Rattle.cast_config.specs.declared.config.Config.{Config}
use Rattle.cast_config.specs.declared.config.Mount.{Mount}
use Rattle.cast_config.specs.declared.config.Near.{Near}
use Rattle.cast_config.specs.declared.config.Group.{Group}
use Rattle.cast_config.specs.declared.config.Anonymous.{Anonymous}
use Rattle.cast_config.specs.Document.{IsDocument, IsRead}
use Rattle.config_write.specs.Members.{Keys, put, put_keys, list_data, number}
use Rattle.config_write.specs.Entries.{mounts_data, nears_data, groups_data, accounts_data, relays_data, anonymous_tree}

-- some bytes are read as the configuration: what `read_config` says of each that it answers
abbrev pub WasRead : Config → Type 0
WasRead c = (bytes : List ℕ) × IsRead bytes (Ok c)

-- the bytes are a document of this version
abbrev pub HasVersion : ℕ → List ℕ → Type 0
HasVersion version bytes =
    (ms : Members) × IsDocument bytes ms
    × (get_member (codes "version") ms ≡ Some (integer (pos version)))

-- ---- its keys

abbrev pub setting_keys : Config → Keys
setting_keys c =
    (codes "version", number 2)
    ∷ (codes "workers", number c.workers)
    ∷ (codes "hysteresis", number c.hysteresis)
    ∷ []

abbrev pub top_keys : Config → Keys
top_keys c =
    setting_keys c ++ (codes "records", list_data (λ r. string (line_of r)) c.records) ∷ []

abbrev pub place_keys : List Mount → List Near → Keys
place_keys mounts nears =
    (codes "mount", mounts_data mounts) ∷ (codes "near", nears_data mounts nears) ∷ []

abbrev pub group_keys : List Mount → List Near → List Group → Keys
group_keys mounts nears groups = (codes "group", groups_data mounts nears groups) ∷ []

abbrev pub party_keys : Config → Keys
party_keys c =
    (codes "account", accounts_data c.group c.account)
    ∷ (codes "relay", relays_data c.mount c.relay)
    ∷ []

abbrev pub list_keys : Config → Keys
list_keys c =
    place_keys c.mount c.near ++ group_keys c.mount c.near c.group ++ party_keys c

-- and who has no account, if there may be such
abbrev pub with_anonymous : List Group → Option Anonymous → Members → Members
with_anonymous groups None ms = ms
with_anonymous groups (Some a) ms = put (codes "anonymous") (table (anonymous_tree groups a)) ms

unfoldable pub config_tree : Config → Members
config_tree c =
    with_anonymous c.group c.anonymous (put_keys (list_keys c) (put_keys (top_keys c) no_members))
