use Rattle.mount_ring.proofs.ReadLemmas.{reading_all, reading_least, reading_ordered}
use Rattle.mount_ring.proofs.laws.read_goes_on.Goals as goal

pub returns-clause-within : goal.returns-clause-within
returns-clause-within c = λ r. (reading_ordered r).2

pub returns-clause-to_the_end : goal.returns-clause-to_the_end
returns-clause-to_the_end c = reading_all

pub returns-clause-no_further : goal.returns-clause-no_further
returns-clause-no_further c = reading_least
