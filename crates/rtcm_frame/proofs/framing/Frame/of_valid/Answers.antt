use Rattle.rtcm_frame.proofs.FrameLemmas.{frame_most, frame_padded}
use Rattle.rtcm_frame.proofs.framing.Frame.of_valid.Goals as goal

pub put_front-requires : goal.put_front-requires
put_front-requires c = frame_most _ c.requires

pub invariant_of-result : goal.invariant_of-result
invariant_of-result c = frame_padded _ _ c.requires c.put_front.ensures
