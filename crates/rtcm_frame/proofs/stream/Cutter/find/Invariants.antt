use Rattle.std.proofs.Common.{◌+◌, ◌≡◌, [], length}
use Rattle.rtcm_frame.specs.Pending.{Took, IsBehindJunk}
use Rattle.rtcm_frame.proofs.stream.Cutter.find.Given as goal

abbrev pub invariant-loop-count : goal.invariant-loop-count
invariant-loop-count l = record {
  took : Took l.fn.self l.self [];
  passed : IsBehindJunk l.fn.self l.self [];
  room : l.self.junk + length l.self.bytes ≡ l.fn.self.junk + length l.fn.self.bytes;
}

abbrev pub decreases-loop-count : goal.decreases-loop-count
decreases-loop-count l = length l.self.bytes
