use Rattle.std.proofs.Common.{arith}
use Rattle.rtcm_frame.proofs.TableLemmas.{row_at, row_below}
use Rattle.rtcm_frame.proofs.tables.moved_row.Goals as goal

pub returns-clause-value : goal.returns-clause-value
returns-clause-value c = row_at _ _ c.requires (omega (arith, c.ranges.byte.fits))

pub returns-clause-bound : goal.returns-clause-bound
returns-clause-bound c = row_below _ _ c.requires (omega (arith, c.ranges.byte.fits))
