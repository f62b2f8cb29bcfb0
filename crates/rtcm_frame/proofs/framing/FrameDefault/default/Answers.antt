use Rattle.std.proofs.Common.{refl, [], ◌∷◌}
use Rattle.rtcm_frame.proofs.FrameLemmas.{frame_padded}
use Rattle.rtcm_frame.specs.Crc.{after_bit, bits_of, crc24q_of}
use Rattle.rtcm_frame.specs.Transport.{is_frame}
use Rattle.rtcm_frame.proofs.framing.FrameDefault.default.Goals as goal

pub invariant_of-result : goal.invariant_of-result
unfolding is_frame crc24q_of bits_of after_bit
invariant_of-result c =
    frame_padded (0xD3 ∷ 0 ∷ 0 ∷ 0x47 ∷ 0xEA ∷ 0x4B ∷ []) _ refl c.put_front.ensures
