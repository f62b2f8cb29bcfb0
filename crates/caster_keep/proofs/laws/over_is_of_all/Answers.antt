-- Each of them is over.
use Rattle.caster_keep.proofs.LawLemmas.{all_over}
use Rattle.caster_keep.proofs.laws.over_is_of_all.Goals as goal

pub returns : goal.returns
returns c = all_over
