use Rattle.sourcetable.proofs.AnswerLemmas.{one_record, one_record_answer}
use Rattle.sourcetable.proofs.BackLemmas.{record_exists}
use Rattle.sourcetable.proofs.KindLemmas.{fault_of_record}
use Rattle.sourcetable.proofs.laws.a_line_is_one_record.Goals as goal

pub returns-clause-unique : goal.returns-clause-unique
returns-clause-unique c = one_record

pub returns-clause-exists : goal.returns-clause-exists
returns-clause-exists c line = (record_exists line, λ found. fault_of_record line found.0 found.1)

pub returns-clause-answer : goal.returns-clause-answer
returns-clause-answer c = one_record_answer
