-- What the places of a caster are, as its configuration says: a ring for each mountpoint, in the
-- order of their numbers, and one book of accounts.
use Rattle.std.specs.Prelude.{ℕ, ◌+◌, List, [], ◌∷◌, ◌++◌, map, slice_get, Option, None, Some}
use Rattle.mount_ring.specs.declared.shape.RingShape.{RingShape}
use Rattle.base_select.specs.declared.Base.{Base}
use Rattle.sourcetable.specs.Table as sourcetable
use Rattle.cast_config.specs.declared.config.Config.{Config}
use Rattle.cast_config.specs.declared.config.Mount.{Mount}
use Rattle.cast_config.specs.declared.config.Group.{Group}
use Rattle.cast_config.specs.declared.config.Account.{Account}
use Rattle.cast_config.specs.declared.config.Anonymous.{Anonymous}
use Rattle.cast_config.specs.Served.{filters_of}
use Rattle.config_table.specs.Table.{table_records}

-- the rings: each keeps as many frames as its mountpoint's entry says, and has a filter for each
-- group. Mountpoints are numbered from this number on
abbrev pub shapes_from : List Group → ℕ → List Mount → List RingShape
shapes_from groups n [] = []
shapes_from groups n (mount ∷ more) =
    record { capacity = mount.ring; filters = filters_of groups n } ∷ shapes_from groups
    (n + 1) more

abbrev pub shapes : Config → List RingShape
shapes c = shapes_from c.group 0 c.mount

-- how many sessions may be open at a time: of rovers without credentials, which are account 0, and
-- of each named account
abbrev pub anonymous_cap : Option Anonymous → ℕ
anonymous_cap None = 0
anonymous_cap (Some anonymous) = anonymous.cap

abbrev pub caps : Config → List ℕ
caps c = anonymous_cap c.anonymous ∷ map (λ (account : Account). account.cap) c.account

-- the mountpoint of this number as a base; each number that is listed in a configuration is one
abbrev pub base_at : ℕ → Option Mount → List Base
base_at n None = []
base_at n (Some mount) = record { mount = n; at = mount.at } ∷ []

abbrev pub bases_at : Config → List ℕ → List Base
bases_at c [] = []
bases_at c (n ∷ more) = base_at n (slice_get c.mount n) ++ bases_at c more

-- the sourcetable that clients are sent
abbrev pub table : Config → List ℕ
table c = sourcetable.table_text (table_records c)
