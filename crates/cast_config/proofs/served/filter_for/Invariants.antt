use Rattle.std.proofs.Common.{◌≡◌, drop}
use Rattle.cast_config.specs.Served.{filter_for}
use Rattle.cast_config.proofs.served.filter_for.Given as goal

abbrev pub invariant-loop-filter : goal.invariant-loop-filter
invariant-loop-filter l = filter_for l.mount l.types (drop l.filter-index l.filters) ≡ filter_for l.mount l.types
    l.filters
