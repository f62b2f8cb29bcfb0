-- what was written so far, and what the cutter still holds
use Rattle.std.proofs.Common.{◌≡◌, ◌≤◌, ◌+◌, ◌-◌, ℕ, List, length, Option}
use Rattle.ntrip_fetch.specs.Writing.{IsWriting}
use Rattle.ntrip_fetch.proofs.frames.write_ready.Given as goal

abbrev pub invariant-loop-count : goal.invariant-loop-count
invariant-loop-count g l = let sink = g.O.Sink in record {
  few : l.cutter.junk + length l.cutter.bytes ≤ l.fn.cutter.junk + length l.fn.cutter.bytes;
  within : l.count ≤ l.most;
  writing : (start : Option (List ℕ)) (bytes : List ℕ)
      → IsWriting start (sink.taken l.fn.out) bytes l.fn.cutter l.fn.count
      → IsWriting start (sink.taken l.out) bytes l.cutter l.count;
  unharmed : sink.faults l.out ≡ sink.faults l.fn.out;
}

abbrev pub decreases-loop-count : goal.decreases-loop-count
decreases-loop-count g l = l.most - l.count
