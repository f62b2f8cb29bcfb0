use Rattle.caster_press.proofs.SumLemmas.{sum_of_lists}
use Rattle.caster_press.proofs.laws.lists_add_up.Goals as goal

pub returns : goal.returns
returns c = sum_of_lists
