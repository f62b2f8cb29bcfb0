use Rattle.serve_promise.proofs.CallerLemmas.{all_kept}
use Rattle.serve_promise.proofs.laws.served_links_are_promised.Goals as goal

pub returns : goal.returns
returns c = all_kept
