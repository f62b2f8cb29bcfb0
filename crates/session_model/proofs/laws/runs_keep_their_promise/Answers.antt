use Rattle.session_model.proofs.PromiseLemmas.{keeps_all}
use Rattle.session_model.proofs.laws.runs_keep_their_promise.Goals as goal

pub returns : goal.returns
returns c = keeps_all
