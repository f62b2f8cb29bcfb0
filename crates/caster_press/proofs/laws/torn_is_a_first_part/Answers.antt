use Rattle.caster_press.proofs.WrittenLemmas.{first_part}
use Rattle.caster_press.proofs.laws.torn_is_a_first_part.Goals as goal

pub returns : goal.returns
returns c = λ start taken faults text torn. first_part start.taken taken text torn.0
