-- The gates of the keepers so far were over.
use Rattle.std.proofs.Common.{◌≡◌, map, drop}
use Rattle.caster_keep.specs.Keeping.{first_stop}
use Rattle.caster_keep.specs.Together.{stop_at}
use Rattle.caster_keep.proofs.totals.first_stop.Given as goal

abbrev pub invariant-loop-keeper : goal.invariant-loop-keeper
invariant-loop-keeper g l = first_stop (map stop_at (drop l.keeper-index l.keepers)) ≡ first_stop (map stop_at l.keepers)
