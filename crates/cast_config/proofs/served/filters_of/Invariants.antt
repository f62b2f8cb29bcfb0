use Rattle.std.proofs.Common.{◌≡◌, take}
use Rattle.cast_config.specs.Served.{filters_of}
use Rattle.cast_config.proofs.served.filters_of.Given as goal

abbrev pub invariant-loop-group : goal.invariant-loop-group
invariant-loop-group l = l.list.items ≡ filters_of (take l.group-index l.groups) l.mount
