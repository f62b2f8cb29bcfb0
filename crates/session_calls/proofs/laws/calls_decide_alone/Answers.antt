use Rattle.session_calls.proofs.WentLemmas.{alone_entries, alone_answers}
use Rattle.session_calls.proofs.laws.calls_decide_alone.Goals as goal

pub returns-clause-history : goal.returns-clause-history
returns-clause-history c = alone_entries

pub returns-clause-answers : goal.returns-clause-answers
returns-clause-answers c = alone_answers
