use Rattle.std.proofs.Common.{◌≡◌, map, take, Ok, All}
use Rattle.toml.specs.Data.{Data}
use Rattle.toml.specs.View.{view}
use Rattle.config_write.proofs.lists.values_of.Given as goal

abbrev pub invariant-loop-item : goal.invariant-loop-item
invariant-loop-item g l =
    (data_of : g.row.T.Denot → Data)
    → All (λ item. (shown value : _) → shown.now ≡ item → goal.F-post g l.one shown (Ok value)
    → view value ≡ data_of item) l.items
    → map view l.values.items ≡ map data_of (take l.item-index l.items)
