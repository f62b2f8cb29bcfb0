use Rattle.session_make.proofs.SizeLemmas.{events_count, input_within}
use Rattle.session_make.proofs.laws.sizes_are_known.Goals as goal

pub returns-clause-events : goal.returns-clause-events
returns-clause-events c = events_count

pub returns-clause-input : goal.returns-clause-input
returns-clause-input c = input_within
