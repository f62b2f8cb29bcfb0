use Rattle.std.proofs.Common.{length}
use Rattle.caster_seats.proofs.seats.+sit_down.Given as goal

abbrev pub decreases-sit_down : goal.decreases-sit_down
decreases-sit_down g l = length l.passes.items
