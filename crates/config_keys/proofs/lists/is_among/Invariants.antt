use Rattle.std.proofs.Common.{◌≡◌, map, drop}
use Rattle.config_keys.specs.Lists.{is_among}
use Rattle.config_keys.proofs.lists.is_among.Given as goal

abbrev pub invariant-loop-text : goal.invariant-loop-text
invariant-loop-text l = is_among (map (λ t. t.now) (drop l.text-index l.texts)) l.name ≡ is_among
    (map (λ t. t.now) l.texts) l.name
