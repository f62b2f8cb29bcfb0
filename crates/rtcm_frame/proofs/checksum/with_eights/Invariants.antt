use Rattle.std.proofs.Common.{◌≡◌, ◌-◌, ◌*◌, ◌/◌, ◌^◌, ◌≤◌, ◌<◌, length, take}
use Rattle.rtcm_frame.specs.Bytewise.{crc_on}
use Rattle.rtcm_frame.proofs.checksum.with_eights.Given as goal

abbrev pub invariant-loop-at : goal.invariant-loop-at
invariant-loop-at l = record {
  within : l.at ≤ length l.bytes;
  eights : l.at / 8 * 8 ≡ l.at;
  value : l.crc ≡ crc_on 0 (take l.at l.bytes);
  bound : l.crc < 2 ^ 24;
}

abbrev pub decreases-loop-at : goal.decreases-loop-at
decreases-loop-at l = length l.bytes - l.at
