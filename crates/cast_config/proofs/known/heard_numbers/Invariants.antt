use Rattle.std.proofs.Common.{◌≡◌, map, drop, []}
use Rattle.config_keys.specs.Lists.{each_of}
use Rattle.cast_config.specs.Names.{place_at, heard_names}
use Rattle.cast_config.proofs.known.heard_numbers.Given as goal

abbrev pub invariant-loop-name : goal.invariant-loop-name
invariant-loop-name l =
    each_of (place_at l.key (heard_names l.mounts l.nears)) l.numbers.items
    (map (λ t. t.now) (drop l.name-index l.names))
    ≡ each_of (place_at l.key (heard_names l.mounts l.nears)) [] (map (λ t. t.now) l.names)
