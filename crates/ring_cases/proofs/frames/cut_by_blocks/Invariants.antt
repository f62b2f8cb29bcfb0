use Rattle.std.proofs.Common.{◌-◌, ◌≤◌, length, take}
use Rattle.rtcm_frame.specs.Cut.{IsWaiting, cut}
use Rattle.rtcm_frame.specs.Pending.{Gave}
use Rattle.ring_cases.proofs.frames.cut_by_blocks.Given as goal

abbrev pub invariant-loop-at : goal.invariant-loop-at
invariant-loop-at l = record {
  within : l.at ≤ length l.bytes;
  waits : IsWaiting l.cutter.bytes;
  gave : Gave l.frames.items (take l.at l.bytes) l.cutter;
}

abbrev pub decreases-loop-at : goal.decreases-loop-at
decreases-loop-at l = length l.bytes - l.at

abbrev pub invariant-loop-frame : goal.invariant-loop-frame
invariant-loop-frame l = Gave l.frames.items (take l.at l.bytes) l.cutter

abbrev pub decreases-loop-frame : goal.decreases-loop-frame
decreases-loop-frame l = length (cut l.cutter.bytes).frames
