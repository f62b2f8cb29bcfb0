-- The piece up to `at` was taken, no write failed, the stop and QUIET are heeded as
-- before, and the room was told of all that was taken.
use Rattle.std.proofs.Common.{◌≡◌, ◌≤◌, ◌-◌, length, take}
use Rattle.caster_net.specs.Rooms.{AreTold}
use Rattle.caster_net.specs.Told.{Took}
use Rattle.caster_net.proofs.wire.Wire.write_heeding.Given as goal

abbrev pub invariant-loop-at : goal.invariant-loop-at
invariant-loop-at g l = record {
  within : l.at ≤ length l.piece;
  took : Took g.S.Write.contents l.fn.self l.self (take l.at l.piece);
  keep : l.heed.keep ≡ l.fn.heed.keep;
  told : AreTold l.at l.fn.heed.room l.heed.room;
}

abbrev pub decreases-loop-at : goal.decreases-loop-at
decreases-loop-at g l = length l.piece - l.at
