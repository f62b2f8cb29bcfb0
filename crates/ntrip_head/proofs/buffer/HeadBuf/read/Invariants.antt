-- the bytes so far were taken, and the head goes on
use Rattle.std.proofs.Common.{◌≡◌, ◌++◌, take}
use Rattle.ntrip_head.specs.Head.{IsOpen}
use Rattle.ntrip_head.proofs.buffer.HeadBuf.read.Given as goal

abbrev pub invariant-loop-count : goal.invariant-loop-count
invariant-loop-count l = IsOpen l.self × (l.self ≡ l.fn.self ++ take l.count l.bytes)
