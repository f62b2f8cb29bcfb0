-- the bytes so far were taken, and the body goes on
use Rattle.std.proofs.Common.{◌≡◌, ◌<◌, ◌+◌, ◌-◌, ◌^◌, ℕ, List, ◌++◌, length, take, Option, Some}
use Rattle.rtcm_frame.specs.Cut.{IsWaiting}
use Rattle.ntrip_fetch.specs.Stages.{IsAtBody}
use Rattle.ntrip_fetch.proofs.body.take_chunked.Given as goal

abbrev pub invariant-loop-byte : goal.invariant-loop-byte
invariant-loop-byte g l = let sink = g.O.Sink in record {
  few : l.cutter.junk + length l.cutter.bytes + (length l.bytes - l.byte-index) < 2 ^ 64;
  read : l.chunks.taken + (length l.bytes - l.byte-index) < 2 ^ 63;
  fewer : l.count < l.most;
  waits : IsWaiting l.cutter.bytes;
  took : (start : Option (List ℕ)) (text : List ℕ)
      → IsAtBody start (sink.taken l.fn.out) l.most (Some l.fn.chunks) l.fn.cutter text l.fn.count
      → IsAtBody start (sink.taken l.out) l.most (Some l.chunks) l.cutter (text ++ take l.byte-index l.bytes) l.count;
  unharmed : sink.faults l.out ≡ sink.faults l.fn.out;
}
