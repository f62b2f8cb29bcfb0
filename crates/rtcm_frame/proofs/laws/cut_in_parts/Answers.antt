use Rattle.rtcm_frame.proofs.CutLemmas.{cut-append}
use Rattle.rtcm_frame.proofs.laws.cut_in_parts.Goals as goal

pub returns : goal.returns
returns c = cut-append
