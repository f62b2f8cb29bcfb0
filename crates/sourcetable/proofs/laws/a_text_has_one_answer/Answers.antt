use Rattle.sourcetable.proofs.AnswerLemmas.{one_table_answer}
use Rattle.sourcetable.proofs.laws.a_text_has_one_answer.Goals as goal

pub returns : goal.returns
returns c = one_table_answer
