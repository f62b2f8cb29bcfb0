use Rattle.std.proofs.Common.{◌≡◌, List, drop}
use Rattle.toml.specs.View.{items_view}
use Rattle.config_keys.specs.Answers.{Read, GivesBy}
use Rattle.config_keys.specs.Types.{at_most, each_filter}
use Rattle.config_keys.specs.declared.filters.FilterEntry.{FilterEntry}
use Rattle.config_keys.proofs.filters.each_filter.Given as goal

abbrev pub invariant-loop-value : goal.invariant-loop-value
invariant-loop-value l =
    (read : Read (List FilterEntry)) × GivesBy (λ v. v.items) l.all read
    × (each_filter l.key read (items_view (drop l.value-index l.values)) ≡ each_filter l.key
    (at_most 64 l.key (items_view l.values)) (items_view l.values))
