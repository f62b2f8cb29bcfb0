use Rattle.rtcm_frame.proofs.LinearLemmas.{linear_law, parts_law}
use Rattle.rtcm_frame.proofs.laws.checksum_is_linear.Goals as goal

pub returns-clause-linear : goal.returns-clause-linear
returns-clause-linear c = linear_law

pub returns-clause-parts : goal.returns-clause-parts
returns-clause-parts c = parts_law
