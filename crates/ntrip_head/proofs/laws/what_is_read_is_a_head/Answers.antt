use Rattle.ntrip_head.proofs.WholeLemmas.{request_head, upstream_head}
use Rattle.ntrip_head.proofs.laws.what_is_read_is_a_head.Goals as goal

pub returns-clause-request : goal.returns-clause-request
returns-clause-request c = request_head

pub returns-clause-upstream : goal.returns-clause-upstream
returns-clause-upstream c = upstream_head
