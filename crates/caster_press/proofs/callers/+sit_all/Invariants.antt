-- One pass less.
use Rattle.caster_press.proofs.callers.+sit_all.Given as goal
use Rattle.std.proofs.Common.{length}

abbrev pub decreases-sit_all : goal.decreases-sit_all
decreases-sit_all g l = length l.passes.items
