use Rattle.std.proofs.Common.{ℕ, ◌+◌, ◌-◌, ◌≤◌, List, ◌++◌, length, take}
use Rattle.rtcm_frame.specs.Cut.{IsWaiting}
use Rattle.bench_cut.specs.Counted.{GaveSoMany, size}
use Rattle.bench_cut.proofs.counting.count_fed.Given as goal

abbrev pub invariant-loop-at : goal.invariant-loop-at
invariant-loop-at g l = record {
  within : l.at ≤ length l.piece;
  waits : IsWaiting l.cutter.bytes;
  room : size l.cutter l.frames ≤ size l.fn.cutter l.before + l.at;
  gave : (all : List ℕ) → GaveSoMany all l.before l.fn.cutter
      → GaveSoMany (all ++ take l.at l.piece) l.frames l.cutter;
}

abbrev pub decreases-loop-at : goal.decreases-loop-at
decreases-loop-at g l = length l.piece - l.at
