use Rattle.warm_promise.proofs.PromiseLemmas.{greeted}
use Rattle.warm_promise.proofs.laws.greeted_reports_are_promised.Goals as goal

pub returns : goal.returns
returns c = greeted
