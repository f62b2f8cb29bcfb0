-- Which frames the rovers of each group are given at each mountpoint.
use Rattle.std.specs.Prelude.{◌≡◌, ℕ, ◌==◌, if◌then◌else◌, Bool, false, List, [], ◌∷◌, length, map, Option, None, Some}
use Rattle.std.specs.List.{list_any, range_with_len}
use Rattle.type_filter.specs.Permitted.{FilterValue}
use Rattle.cast_config.specs.declared.config.Config.{Config}
use Rattle.cast_config.specs.declared.config.Mount.{Mount}
use Rattle.cast_config.specs.declared.config.Group.{Group}
use Rattle.cast_config.specs.declared.config.GroupFilter.{GroupFilter}

-- the filter that a list gives for the mountpoint, else this one
abbrev pub filter_for : ℕ → FilterValue → List GroupFilter → FilterValue
filter_for mount types [] = types
filter_for mount types (f ∷ more) =
    if f.mount == mount then f.types else filter_for mount types more

-- the filters at a mountpoint, one a group: the one for this mountpoint, else the group's own
abbrev pub filters_of : List Group → ℕ → List FilterValue
filters_of groups mount = map (λ (g : Group). filter_for mount g.types g.filter) groups

-- the same for each mountpoint
abbrev pub all_filters : List Mount → List Group → List (List FilterValue)
all_filters mounts groups = map (filters_of groups) (range_with_len 0 (length mounts))

-- the configuration gives the filters of its own groups, as each does that was read or made
abbrev pub GivesItsFilters : Config → Type 0
GivesItsFilters c = c.permits ≡ all_filters c.mount c.group

-- whether a group lists the mountpoint or near mountpoint of this number
abbrev pub lists : Option Group → ℕ → Bool
lists None n = false
lists (Some g) n = list_any (λ m. m == n) g.mounts
