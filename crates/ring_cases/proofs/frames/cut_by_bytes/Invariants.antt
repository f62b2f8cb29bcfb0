use Rattle.std.proofs.Common.{◌+◌, length, take}
use Rattle.rtcm_frame.specs.Cut.{IsWaiting, cut}
use Rattle.rtcm_frame.specs.Pending.{Gave}
use Rattle.ring_cases.proofs.frames.cut_by_bytes.Given as goal

abbrev pub invariant-loop-byte : goal.invariant-loop-byte
invariant-loop-byte l = record {
  waits : IsWaiting l.cutter.bytes;
  gave : Gave l.frames.items (take l.byte-index l.bytes) l.cutter;
}

abbrev pub invariant-loop-frame : goal.invariant-loop-frame
invariant-loop-frame l = Gave l.frames.items (take (l.byte-index + 1) l.bytes) l.cutter

abbrev pub decreases-loop-frame : goal.decreases-loop-frame
decreases-loop-frame l = length (cut l.cutter.bytes).frames
