use Rattle.caster_press.proofs.TextLemmas.{lines_in-text_in}
use Rattle.caster_press.proofs.laws.lines_are_found.Goals as goal

pub returns : goal.returns
returns c = lines_in-text_in
