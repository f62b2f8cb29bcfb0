use Rattle.std.proofs.Common.{◌+◌, length, take}
use Rattle.rtcm_frame.specs.Cut.{IsWaiting, cut}
use Rattle.examples.proofs.StreamLemmas.{GaveNumbers}
use Rattle.examples.proofs.streams.numbers_in.Given as goal

abbrev pub invariant-loop-byte : goal.invariant-loop-byte
invariant-loop-byte l = record {
  waits : IsWaiting l.cutter.bytes;
  gave : GaveNumbers (take l.byte-index l.bytes) l.numbers.items l.cutter;
}

abbrev pub invariant-loop-frame : goal.invariant-loop-frame
invariant-loop-frame l = GaveNumbers (take (l.byte-index + 1) l.bytes) l.numbers.items l.cutter

abbrev pub decreases-loop-frame : goal.decreases-loop-frame
decreases-loop-frame l = length (cut l.cutter.bytes).frames
