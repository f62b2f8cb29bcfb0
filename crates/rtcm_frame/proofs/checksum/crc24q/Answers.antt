use Rattle.std.proofs.Common.{ℕ, ◌*◌, ◌/◌, ◌-◌, length, take, drop, ap, ◌∙◌, sym}
use Rattle.rtcm_frame.specs.Bytewise.{crc_on}
use Rattle.rtcm_frame.proofs.CrcLemmas.{crc_whole}
use Rattle.rtcm_frame.proofs.checksum.crc24q.Goals as goal

pub returns-clause-value : goal.returns-clause-value
returns-clause-value c =
    let bytes = c.args.bytes.now in
    let eights = length bytes / 8 * 8 in
    c.with_bytes.ensures.value
    ∙ ap (λ (v : ℕ). crc_on v (take (length bytes - eights) (drop eights bytes))) c.with_eights-front.ensures.value
    ∙ sym (crc_whole bytes eights)
