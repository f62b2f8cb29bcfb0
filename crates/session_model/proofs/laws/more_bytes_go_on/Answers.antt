use Rattle.session_model.proofs.GrowLemmas.{plan_grows}
use Rattle.session_model.proofs.laws.more_bytes_go_on.Goals as goal

pub returns : goal.returns
returns c = plan_grows
