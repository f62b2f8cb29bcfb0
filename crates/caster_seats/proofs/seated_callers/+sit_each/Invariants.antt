use Rattle.std.proofs.Common.{length}
use Rattle.caster_seats.proofs.seated_callers.+sit_each.Given as goal

abbrev pub decreases-sit_each : goal.decreases-sit_each
decreases-sit_each g l = length l.passes.items
