use Rattle.std.proofs.Common.{ℕ, ◌+◌, ◌≤◌, List, ◌++◌, take}
use Rattle.rtcm_frame.specs.Cut.{IsWaiting}
use Rattle.bench_cut.specs.Counted.{GaveSoMany, size}
use Rattle.bench_cut.proofs.counting.count_pushed.Given as goal

abbrev pub invariant-loop-byte : goal.invariant-loop-byte
invariant-loop-byte g l = record {
  waits : IsWaiting l.cutter.bytes;
  room : size l.cutter l.frames ≤ size l.fn.cutter l.before + l.byte-index;
  gave : (all : List ℕ) → GaveSoMany all l.before l.fn.cutter
      → GaveSoMany (all ++ take l.byte-index l.piece) l.frames l.cutter;
}
