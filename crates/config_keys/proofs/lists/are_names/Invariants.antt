use Rattle.std.proofs.Common.{◌≡◌, map, drop}
use Rattle.std.specs.List.{list_all}
use Rattle.cast_text.specs.Name.{is_name}
use Rattle.config_keys.proofs.lists.are_names.Given as goal

abbrev pub invariant-loop-text : goal.invariant-loop-text
invariant-loop-text l = list_all is_name (map (λ t. t.now) (drop l.text-index l.texts)) ≡ list_all is_name
    (map (λ t. t.now) l.texts)
