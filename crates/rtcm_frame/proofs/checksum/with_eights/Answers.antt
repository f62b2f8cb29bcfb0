use Rattle.std.proofs.Common.{ℕ, ◌+◌, ◌-◌, ◌≡◌, take, drop, ap, ◌∙◌, sym, arith}
use Rattle.rtcm_frame.specs.Bytewise.{crc_on}
use Rattle.rtcm_frame.proofs.CrcLemmas.{crc_none, crc_part}
use Rattle.rtcm_frame.proofs.checksum.with_eights.Goals as goal

pub loop-at-init : goal.loop-at-init
loop-at-init c = record { within = omega arith; eights = omega arith; value = sym (crc_none 0); bound = omega arith }

pub loop-at-preserved : goal.loop-at-preserved
loop-at-preserved c =
    let place = c.loop-at.at in
    let bytes = c.args.bytes.now in
    let eight : place + 8 - place ≡ 8 = omega arith in
    record {
      within = omega (arith, c.loop-at-test.true, c.loop-at.invariant.eights, c.requires);
      eights = omega (arith, c.loop-at.invariant.eights);
      value = c.with_eight-crc.ensures.value
          ∙ ap (λ (v : ℕ). crc_on v (take (place + 8 - place) (drop place bytes))) c.loop-at.invariant.value
          ∙ ap (λ (n : ℕ). crc_on (crc_on 0 (take place bytes)) (take n (drop place bytes))) eight
          ∙ sym (crc_part 0 bytes place 8);
      bound = c.with_eight-crc.ensures.bound;
    }
