use Rattle.std.proofs.Common.{length}
use Rattle.caster_places.proofs.leaving.+leave_each.Given as goal

abbrev pub decreases-leave_each : goal.decreases-leave_each
decreases-leave_each g l = length l.places.items
