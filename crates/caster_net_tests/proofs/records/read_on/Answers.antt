-- The log is told, so it has the step more.
use Rattle.caster_net_tests.proofs.GrewLemmas.{grew}
use Rattle.caster_net_tests.proofs.records.read_on.Goals as goal

pub returns : goal.returns
returns c = grew _ _ _ c.read.ensures.logged
