use Rattle.ntrip_client.proofs.OnceLemmas.{answer_stays}
use Rattle.ntrip_client.proofs.laws.answers_stay.Goals as goal

pub returns : goal.returns
returns c = answer_stays
