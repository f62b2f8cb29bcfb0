use Rattle.caster_press.proofs.WrittenLemmas.{first_lines}
use Rattle.caster_press.proofs.laws.torn_is_whole_lines_and_a_part.Goals as goal

pub returns : goal.returns
returns c = λ start taken faults h torn. first_lines start.taken taken h torn.0
