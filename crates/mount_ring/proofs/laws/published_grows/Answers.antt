use Rattle.std.proofs.Common.{refl}
use Rattle.mount_ring.proofs.HistoryLemmas.{last_published, published-append, published-entries}
use Rattle.mount_ring.specs.History.{start}
use Rattle.mount_ring.proofs.laws.published_grows.Goals as goal

pub returns-clause-entries : goal.returns-clause-entries
returns-clause-entries c = published-entries start

pub returns-clause-grows : goal.returns-clause-grows
returns-clause-grows c = published-append

pub returns-clause-place : goal.returns-clause-place
returns-clause-place c = λ shape state me claim frame. (refl, last_published state.published frame)
