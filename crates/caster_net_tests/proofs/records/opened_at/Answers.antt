-- The log is told, so it has the step more.
use Rattle.caster_net_tests.proofs.GrewLemmas.{grew}
use Rattle.caster_net_tests.proofs.records.opened_at.Goals as goal

pub returns-clause-log : goal.returns-clause-log
returns-clause-log c = grew _ _ _ c.open.ensures.logged
