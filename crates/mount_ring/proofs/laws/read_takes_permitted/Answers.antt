use Rattle.mount_ring.proofs.ReadLemmas.{reading_takes}
use Rattle.mount_ring.proofs.laws.read_takes_permitted.Goals as goal

pub returns-clause-frames : goal.returns-clause-frames
returns-clause-frames c = reading_takes
