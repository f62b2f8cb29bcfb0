use Rattle.std.proofs.Common.{◌≡◌, take}
use Rattle.type_filter.proofs.choices.Filters.copy.Given as goal

abbrev pub invariant-loop-filter : goal.invariant-loop-filter
invariant-loop-filter l = l.list.items ≡ take l.filter-index l.filter-items
