use Rattle.std.proofs.Common.{◌≡◌, map, drop, []}
use Rattle.config_keys.specs.Lists.{each_of}
use Rattle.cast_config.specs.Names.{place_at}
use Rattle.cast_config.proofs.known.numbers_of.Given as goal

abbrev pub invariant-loop-name : goal.invariant-loop-name
invariant-loop-name g l =
    each_of (place_at l.key (map g.T.Named.title l.items)) l.numbers.items
    (map (λ t. t.now) (drop l.name-index l.names))
    ≡ each_of (place_at l.key (map g.T.Named.title l.items)) [] (map (λ t. t.now) l.names)
