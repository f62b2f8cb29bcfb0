use Rattle.rtcm_frame.proofs.CutLemmas.{cut-frames-joined}
use Rattle.rtcm_frame.proofs.laws.cut_of_frames.Goals as goal

pub returns : goal.returns
returns c = cut-frames-joined
