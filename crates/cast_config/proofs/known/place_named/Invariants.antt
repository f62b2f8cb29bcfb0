use Rattle.std.proofs.Common.{◌≡◌, map, drop}
use Rattle.std.specs.List.{position_from}
use Rattle.std.specs.Str.{bytes_eq}
use Rattle.cast_config.specs.Names.{place_of}
use Rattle.cast_config.proofs.known.place_named.Given as goal

abbrev pub invariant-loop-i : goal.invariant-loop-i
invariant-loop-i g l = position_from (λ n. bytes_eq n l.name) l.i (map g.T.Named.title (drop l.i l.items)) ≡ place_of
    (map g.T.Named.title l.items) l.name
