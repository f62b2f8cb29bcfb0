use Rattle.rtcm_frame.proofs.FramedLemmas.{framed_is_frame, framed_none, framed_of_frame, framed_some}
use Rattle.rtcm_frame.proofs.laws.frame_by_parts.Goals as goal

pub returns-clause-made : goal.returns-clause-made
returns-clause-made c = framed_is_frame

pub returns-clause-every : goal.returns-clause-every
returns-clause-every c = framed_of_frame

pub returns-clause-number : goal.returns-clause-number
returns-clause-number c = framed_some

pub returns-clause-no_number : goal.returns-clause-no_number
returns-clause-no_number c = framed_none
