use Rattle.std.proofs.Common.{◌≡◌, map, drop, []}
use Rattle.toml.specs.Data.{as_str}
use Rattle.toml.specs.View.{items_view}
use Rattle.config_keys.specs.Lists.{all_of}
use Rattle.config_keys.proofs.lists.texts.Given as goal

abbrev pub invariant-loop-value : goal.invariant-loop-value
invariant-loop-value l =
    all_of as_str (map (λ t. t.now) l.texts.items) (items_view (drop l.value-index l.value-items)) ≡ all_of as_str []
    (items_view l.value-items)
