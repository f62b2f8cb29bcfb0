use Rattle.std.proofs.Common.{arith}
use Rattle.rtcm_frame.proofs.TableLemmas.{far_at, far_below}
use Rattle.rtcm_frame.proofs.tables.far_digit.Goals as goal

pub returns-clause-value : goal.returns-clause-value
returns-clause-value c = far_at _ _ _ c.requires.steps c.requires.place (omega arith)

pub returns-clause-bound : goal.returns-clause-bound
returns-clause-bound c = far_below _ _ _ c.requires.steps c.requires.place (omega arith)
