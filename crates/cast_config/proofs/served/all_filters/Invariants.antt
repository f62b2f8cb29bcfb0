use Rattle.std.proofs.Common.{◌≡◌, map}
use Rattle.std.specs.List.{range_with_len}
use Rattle.cast_config.specs.Served.{filters_of}
use Rattle.cast_config.proofs.served.all_filters.Given as goal

abbrev pub invariant-loop-m : goal.invariant-loop-m
invariant-loop-m l = l.table.items ≡ map (filters_of l.groups) (range_with_len 0 l.m)
