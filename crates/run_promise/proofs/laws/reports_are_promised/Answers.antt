use Rattle.run_promise.proofs.PromiseLemmas.{promised}
use Rattle.run_promise.proofs.laws.reports_are_promised.Goals as goal

pub returns : goal.returns
returns c = promised
