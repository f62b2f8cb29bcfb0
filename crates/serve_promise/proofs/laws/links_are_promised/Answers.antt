use Rattle.serve_promise.proofs.LinkLemmas.{link_kept}
use Rattle.serve_promise.proofs.laws.links_are_promised.Goals as goal

pub returns : goal.returns
returns c = link_kept
