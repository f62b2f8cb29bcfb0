use Rattle.std.proofs.Common.{◌≡◌, map, drop}
use Rattle.config_keys.specs.Lists.{each_once}
use Rattle.config_keys.proofs.lists.each_once.Given as goal

abbrev pub invariant-loop-i : goal.invariant-loop-i
invariant-loop-i l = each_once (map (λ t. t.now) (drop l.i l.texts)) ≡ each_once (map (λ t. t.now) l.texts)
