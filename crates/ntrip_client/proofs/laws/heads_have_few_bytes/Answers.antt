use Rattle.std.proofs.Common.{Ok}
use Rattle.ntrip_client.proofs.OnceLemmas.{head_few}
use Rattle.ntrip_client.proofs.laws.heads_have_few_bytes.Goals as goal

pub returns-clause-few : goal.returns-clause-few
returns-clause-few c = λ bytes at chunked x. head_few bytes at (Ok chunked) x
