use Rattle.sourcetable.proofs.BackLemmas.{one_line}
use Rattle.sourcetable.proofs.laws.a_record_read_may_be_written.Goals as goal

pub returns : goal.returns
returns c line found read = one_line line found read.0 read.1
