use Rattle.std.proofs.Common.{bit_xor, ap₂, ◌∙◌, sym}
use Rattle.std.proofs.lemmas.Nat.{xor_lt}
use Rattle.rtcm_frame.proofs.StepLemmas.{eight_bytes}
use Rattle.rtcm_frame.proofs.checksum.with_eight.Goals as goal

pub returns-clause-value : goal.returns-clause-value
returns-clause-value c =
    ap₂ bit_xor (
    ap₂ bit_xor c.moved_row-high.ensures.value (
    ap₂ bit_xor c.moved_row-middle.ensures.value c.moved_row.ensures.value)) (
    ap₂ bit_xor c.moved_row-9.ensures.value (
    ap₂ bit_xor c.moved_row-7.ensures.value (
    ap₂ bit_xor c.moved_row-8.ensures.value (
    ap₂ bit_xor c.moved_row-5.ensures.value (
    ap₂ bit_xor c.moved_row-6.ensures.value (
    ap₂ bit_xor c.moved_row-2.ensures.value (
    ap₂ bit_xor c.moved_row-3.ensures.value c.moved_row-4.ensures.value)))))))
    ∙ sym (eight_bytes c.args.crc c.args.bytes.now c.requires.fits c.requires.eight)

pub returns-clause-bound : goal.returns-clause-bound
returns-clause-bound c =
    xor_lt 24 _ _ (
    xor_lt 24 _ _ c.moved_row-high.ensures.bound (
    xor_lt 24 _ _ c.moved_row-middle.ensures.bound c.moved_row.ensures.bound)) (
    xor_lt 24 _ _ c.moved_row-9.ensures.bound (
    xor_lt 24 _ _ c.moved_row-7.ensures.bound (
    xor_lt 24 _ _ c.moved_row-8.ensures.bound (
    xor_lt 24 _ _ c.moved_row-5.ensures.bound (
    xor_lt 24 _ _ c.moved_row-6.ensures.bound (
    xor_lt 24 _ _ c.moved_row-2.ensures.bound (
    xor_lt 24 _ _ c.moved_row-3.ensures.bound c.moved_row-4.ensures.bound)))))))
