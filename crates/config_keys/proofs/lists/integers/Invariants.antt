use Rattle.std.proofs.Common.{◌≡◌, drop, []}
use Rattle.toml.specs.Data.{as_integer}
use Rattle.toml.specs.View.{items_view}
use Rattle.config_keys.specs.Lists.{all_of}
use Rattle.config_keys.proofs.lists.integers.Given as goal

abbrev pub invariant-loop-value : goal.invariant-loop-value
invariant-loop-value l =
    all_of as_integer l.numbers.items (items_view (drop l.value-index l.value-items)) ≡ all_of as_integer []
    (items_view l.value-items)
