use Rattle.std.proofs.Common.{◌≡◌, drop, length, []}
use Rattle.config_keys.specs.Lists.{each_of}
use Rattle.cast_config.specs.Names.{filter_at, mount_names}
use Rattle.cast_config.proofs.entries.numbered_filters.Given as goal

abbrev pub invariant-loop-entry : goal.invariant-loop-entry
invariant-loop-entry l =
    each_of (filter_at l.key (mount_names l.mounts)) l.filters.items (drop (length l.yielded) l.fn.entries.items)
    ≡ each_of (filter_at l.key (mount_names l.mounts)) [] l.fn.entries.items
