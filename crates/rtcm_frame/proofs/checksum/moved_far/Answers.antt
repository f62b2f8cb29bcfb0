use Rattle.std.proofs.Common.{◌*◌, bit_xor, ap₂, ◌∙◌, sym}
use Rattle.std.proofs.lemmas.Nat.{xor_lt}
use Rattle.rtcm_frame.proofs.StepLemmas.{moved_digits}
use Rattle.rtcm_frame.proofs.checksum.moved_far.Goals as goal

pub returns-clause-value : goal.returns-clause-value
returns-clause-value c =
    ap₂ bit_xor c.far_digit-5.ensures.value (
    ap₂ bit_xor c.far_digit-6.ensures.value (
    ap₂ bit_xor c.far_digit-3.ensures.value (
    ap₂ bit_xor c.far_digit-4.ensures.value (
    ap₂ bit_xor c.far_digit.ensures.value c.far_digit-2.ensures.value))))
    ∙ sym (moved_digits (32 * c.args.steps) c.args.crc c.requires.fits)

pub returns-clause-bound : goal.returns-clause-bound
returns-clause-bound c =
    xor_lt 24 _ _ c.far_digit-5.ensures.bound (
    xor_lt 24 _ _ c.far_digit-6.ensures.bound (
    xor_lt 24 _ _ c.far_digit-3.ensures.bound (
    xor_lt 24 _ _ c.far_digit-4.ensures.bound (
    xor_lt 24 _ _ c.far_digit.ensures.bound c.far_digit-2.ensures.bound))))
