use Rattle.std.proofs.Common.{ℕ, get_or, ap, ◌∙◌, sym}
use Rattle.rtcm_frame.specs.Bytewise.{after_byte}
use Rattle.rtcm_frame.proofs.CrcLemmas.{crc_none, crc_more}
use Rattle.rtcm_frame.proofs.checksum.with_bytes.Goals as goal

pub loop-byte-init : goal.loop-byte-init
loop-byte-init c = record { value = sym (crc_none _); bound = c.requires }

pub loop-byte-preserved : goal.loop-byte-preserved
loop-byte-preserved c = record {
  value = c.with_byte-crc.ensures.value
      ∙ ap (λ (v : ℕ). after_byte v (get_or c.args.bytes.now c.loop-byte.byte-index 0)) c.loop-byte.invariant.value
      ∙ sym (crc_more _ c.args.bytes.now c.loop-byte.byte-index c.loop-byte-test.true);
  bound = c.with_byte-crc.ensures.bound;
}
