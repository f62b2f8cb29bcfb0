use Rattle.mount_ring.proofs.HistoryLemmas.{held-append}
use Rattle.mount_ring.proofs.laws.holder_is_one.Goals as goal

pub returns-clause-stays : goal.returns-clause-stays
returns-clause-stays c = held-append
