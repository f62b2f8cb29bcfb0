use Rattle.mount_ring.proofs.HistoryLemmas.{own_answers-append}
use Rattle.mount_ring.proofs.laws.history_by_entries.Goals as goal

pub returns-clause-answers : goal.returns-clause-answers
returns-clause-answers c = own_answers-append
