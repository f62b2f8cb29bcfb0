-- The piece up to `at` was written, and no write failed.
use Rattle.std.proofs.Common.{◌≡◌, ◌≤◌, ◌-◌, length, take}
use Rattle.caster_net.specs.Honest.{BothTake}
use Rattle.caster_net.proofs.adapters.WriterSinkSink.write.Given as goal

abbrev pub invariant-loop-at : goal.invariant-loop-at
invariant-loop-at g l = let writer = g.W.Write in record {
  within : l.at ≤ length l.piece;
  both : BothTake (writer.contents l.fn.self.writer) (writer.contents l.self.writer)
      l.fn.self.taken l.self.taken (take l.at l.piece);
  faults : l.self.faults ≡ l.fn.self.faults;
}

abbrev pub decreases-loop-at : goal.decreases-loop-at
decreases-loop-at g l = length l.piece - l.at
