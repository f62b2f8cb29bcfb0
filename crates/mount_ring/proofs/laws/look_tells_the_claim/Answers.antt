use Rattle.mount_ring.proofs.HistoryLemmas.{look_held, look_free}
use Rattle.mount_ring.proofs.laws.look_tells_the_claim.Goals as goal

pub returns-clause-held : goal.returns-clause-held
returns-clause-held c = look_held

pub returns-clause-free : goal.returns-clause-free
returns-clause-free c = look_free
