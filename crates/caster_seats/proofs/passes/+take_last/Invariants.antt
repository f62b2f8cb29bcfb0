use Rattle.std.proofs.Common.{length}
use Rattle.caster_seats.proofs.passes.+take_last.Given as goal

abbrev pub decreases-take_last : goal.decreases-take_last
decreases-take_last l = length l.piles.now.items
