use Rattle.std.proofs.Common.{◌*◌, ◌%◌, bit_xor, ap, ◌∙◌, sym, arith}
use Rattle.std.proofs.lemmas.Nat.{xor_lt}
use Rattle.rtcm_frame.specs.Bytewise.{moved}
use Rattle.rtcm_frame.proofs.StepLemmas.{byte_by_row}
use Rattle.rtcm_frame.proofs.checksum.with_byte.Goals as goal

pub returns-clause-value : goal.returns-clause-value
unfolding moved
returns-clause-value c =
    ap (bit_xor (c.args.crc % 65536 * 256)) c.moved_row.ensures.value
    ∙ sym (byte_by_row c.args.crc c.args.byte c.requires (omega (arith, c.ranges.byte.fits)))

pub returns-clause-bound : goal.returns-clause-bound
returns-clause-bound c = xor_lt 24 _ _ (omega arith) c.moved_row.ensures.bound
