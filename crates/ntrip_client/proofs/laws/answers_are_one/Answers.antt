use Rattle.ntrip_client.proofs.OnceLemmas.{one_answer}
use Rattle.ntrip_client.proofs.laws.answers_are_one.Goals as goal

pub returns : goal.returns
returns c = one_answer
