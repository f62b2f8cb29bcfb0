use Rattle.std.proofs.Common.{refl}
use Rattle.rtcm_frame.proofs.CutLemmas.{cut-frame, cut_junk, cut_waiting, none_begins, none_waits, unfinished_waits}
use Rattle.rtcm_frame.proofs.laws.cut_by_cases.Goals as goal

pub returns-clause-nothing : goal.returns-clause-nothing
returns-clause-nothing c = cut_waiting _ refl

pub returns-clause-frame : goal.returns-clause-frame
returns-clause-frame c = cut-frame

pub returns-clause-unfinished : goal.returns-clause-unfinished
returns-clause-unfinished c = λ bytes begun. cut_waiting bytes (unfinished_waits bytes begun)

pub returns-clause-junk : goal.returns-clause-junk
returns-clause-junk c = λ x behind no_frame finished.
    cut_junk x behind (none_begins _ no_frame) (none_waits x behind finished)
