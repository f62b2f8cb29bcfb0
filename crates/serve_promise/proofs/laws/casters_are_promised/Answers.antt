use Rattle.serve_promise.proofs.CallerLemmas.{all_promised}
use Rattle.serve_promise.proofs.laws.casters_are_promised.Goals as goal

pub returns : goal.returns
returns c = all_promised
