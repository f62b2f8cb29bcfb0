-- The log is told, so it has the step more.
use Rattle.caster_net_tests.proofs.GrewLemmas.{grew}
use Rattle.caster_net_tests.proofs.records.read_of.Goals as goal

pub returns : goal.returns
returns g c = grew _ _ _ c.read.ensures.logged
