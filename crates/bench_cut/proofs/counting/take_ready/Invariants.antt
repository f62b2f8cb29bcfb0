use Rattle.std.proofs.Common.{ℕ, ◌≤◌, List, length}
use Rattle.rtcm_frame.specs.Cut.{cut}
use Rattle.bench_cut.specs.Counted.{GaveSoMany, size}
use Rattle.bench_cut.proofs.counting.take_ready.Given as goal

abbrev pub invariant-loop-frame : goal.invariant-loop-frame
invariant-loop-frame g l = record {
  room : size l.cutter l.frames ≤ size l.fn.cutter l.before;
  gave : (all : List ℕ) → GaveSoMany all l.before l.fn.cutter → GaveSoMany all l.frames l.cutter;
}

abbrev pub decreases-loop-frame : goal.decreases-loop-frame
decreases-loop-frame g l = length (cut l.cutter.bytes).frames
