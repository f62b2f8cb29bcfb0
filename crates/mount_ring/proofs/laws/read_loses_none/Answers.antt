use Rattle.mount_ring.proofs.ReadLemmas.{reading_counted, reading_in_order}
use Rattle.mount_ring.proofs.laws.read_loses_none.Goals as goal

pub returns-clause-in_order : goal.returns-clause-in_order
returns-clause-in_order c = reading_in_order

pub returns-clause-counted : goal.returns-clause-counted
returns-clause-counted c = reading_counted
