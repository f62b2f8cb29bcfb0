-- the bytes so far are cut, and their frames written
use Rattle.std.proofs.Common.{◌≡◌, ◌<◌, ◌≤◌, ◌+◌, ◌-◌, ◌^◌, ℕ, List, ◌++◌, length, take, Option}
use Rattle.rtcm_frame.specs.Cut.{IsWaiting}
use Rattle.ntrip_fetch.specs.Writing.{IsWriting}
use Rattle.ntrip_fetch.proofs.frames.write_plain.Given as goal

abbrev pub invariant-loop-at : goal.invariant-loop-at
invariant-loop-at g l = let sink = g.O.Sink in record {
  reached : l.at ≤ length l.bytes;
  within : l.count ≤ l.most;
  few : l.cutter.junk + length l.cutter.bytes + (length l.bytes - l.at) < 2 ^ 64;
  waits : l.count < l.most → IsWaiting l.cutter.bytes;
  writing : (start : Option (List ℕ)) (body : List ℕ)
      → IsWriting start (sink.taken l.fn.out) body l.fn.cutter l.fn.count
      → IsWriting start (sink.taken l.out) (body ++ take l.at l.bytes) l.cutter l.count;
  unharmed : sink.faults l.out ≡ sink.faults l.fn.out;
}

abbrev pub decreases-loop-at : goal.decreases-loop-at
decreases-loop-at g l = length l.bytes - l.at
