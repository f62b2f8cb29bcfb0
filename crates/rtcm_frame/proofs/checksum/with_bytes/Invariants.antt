use Rattle.std.proofs.Common.{◌≡◌, ◌^◌, ◌<◌, take}
use Rattle.rtcm_frame.specs.Bytewise.{crc_on}
use Rattle.rtcm_frame.proofs.checksum.with_bytes.Given as goal

abbrev pub invariant-loop-byte : goal.invariant-loop-byte
invariant-loop-byte l = record {
  value : l.crc ≡ crc_on l.front (take l.byte-index l.bytes);
  bound : l.crc < 2 ^ 24;
}
