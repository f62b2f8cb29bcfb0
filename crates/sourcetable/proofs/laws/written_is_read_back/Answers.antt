use Rattle.std.proofs.Common.{[], ◌∷◌}
use Rattle.sourcetable.specs.Table.{cr_lf}
use Rattle.sourcetable.proofs.BackLemmas.{cr_lf_ends, lf_ends, reads_back}
use Rattle.sourcetable.proofs.laws.written_is_read_back.Goals as goal

pub returns-clause-cr_lf : goal.returns-clause-cr_lf
returns-clause-cr_lf c = reads_back cr_lf cr_lf_ends

pub returns-clause-lf : goal.returns-clause-lf
returns-clause-lf c = reads_back (10 ∷ []) lf_ends
