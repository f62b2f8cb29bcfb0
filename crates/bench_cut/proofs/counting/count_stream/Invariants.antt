use Rattle.std.proofs.Common.{◌-◌, ◌^◌, ◌≤◌}
use Rattle.rtcm_frame.specs.Cut.{IsWaiting}
use Rattle.bench_cut.specs.Counted.{size}
use Rattle.bench_cut.proofs.CountLemmas.{ReadSoFar}
use Rattle.bench_cut.proofs.counting.count_stream.Given as goal

abbrev pub invariant-loop-count : goal.invariant-loop-count
invariant-loop-count g l = record {
  waits : IsWaiting l.cutter.bytes;
  room : size l.cutter l.frames ≤ l.length;
  few : l.length ≤ 2 ^ 62;
  read : ReadSoFar (g.R.Read.remaining l.fn.input) (g.R.Read.remaining l.input) l.frames l.cutter;
}

abbrev pub decreases-loop-count : goal.decreases-loop-count
decreases-loop-count g l = 2 ^ 62 - l.length
