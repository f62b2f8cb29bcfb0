-- Items of a list of values.
use Rattle.std.proofs.Common.{◌≡◌, List, [], ◌∷◌, length, refl, arith}
use Rattle.toml.specs.View.{items_view}
use Rattle.toml.specs.declared.value.Value.{Value}
use Rattle.config_keys.specs.Lists.{item_count}

pub count_is : (values : List Value) → item_count (items_view values) ≡ length values
count_is [] = refl
count_is (value ∷ values) = omega (arith, count_is values)
