use Rattle.rtcm_frame.proofs.CutLemmas.{all-frames, cut_counted, cut_order}
use Rattle.rtcm_frame.proofs.laws.cut_loses_none.Goals as goal

pub returns-clause-valid : goal.returns-clause-valid
returns-clause-valid c = all-frames

pub returns-clause-counted : goal.returns-clause-counted
returns-clause-counted c = cut_counted

pub returns-clause-order : goal.returns-clause-order
returns-clause-order c = cut_order
