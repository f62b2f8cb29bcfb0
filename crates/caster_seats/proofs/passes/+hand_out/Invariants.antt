use Rattle.std.proofs.Common.{length}
use Rattle.caster_seats.proofs.passes.+hand_out.Given as goal

abbrev pub decreases-hand_out : goal.decreases-hand_out
decreases-hand_out l = length l.of_book.now.items
