use Rattle.std.proofs.Common.{◌≡◌, map, drop}
use Rattle.config_keys.specs.Lists.{each_once}
use Rattle.cast_config.proofs.known.differ.Given as goal

abbrev pub invariant-loop-i : goal.invariant-loop-i
invariant-loop-i g l = each_once (map g.T.Named.title (drop l.i l.items)) ≡ each_once (map g.T.Named.title l.items)
