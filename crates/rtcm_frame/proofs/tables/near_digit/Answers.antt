use Rattle.std.proofs.Common.{arith}
use Rattle.rtcm_frame.proofs.TableLemmas.{near_at, near_below}
use Rattle.rtcm_frame.proofs.tables.near_digit.Goals as goal

pub returns-clause-value : goal.returns-clause-value
returns-clause-value c = near_at _ _ _ c.requires.zeros c.requires.place (omega arith)

pub returns-clause-bound : goal.returns-clause-bound
returns-clause-bound c = near_below _ _ _ c.requires.zeros c.requires.place (omega arith)
