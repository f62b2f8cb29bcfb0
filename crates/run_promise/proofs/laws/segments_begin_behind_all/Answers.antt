use Rattle.run_promise.proofs.BegunLemmas.{segments_begun}
use Rattle.run_promise.proofs.laws.segments_begin_behind_all.Goals as goal

pub returns : goal.returns
returns c = segments_begun
