-- The gates that are given are as new as they stood in the yard.
use Rattle.cast_io.proofs.GateLemmas.{made_new}
use Rattle.cast_io.proofs.mem_yard.MemYard.open_gates.Goals as goal

pub returns-clause-each : goal.returns-clause-each
returns-clause-each c = made_new _ _ _ c.be_opened.ensures c.in_ok-given.ensures.fresh
