use Rattle.ntrip_head.proofs.EmptyLineLemmas.{one_head}
use Rattle.ntrip_head.proofs.laws.bytes_begin_with_one_head.Goals as goal

pub returns : goal.returns
returns c = one_head
