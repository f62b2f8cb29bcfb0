use Rattle.gga_read.proofs.FieldLemmas.{first_alone, first_front}
use Rattle.gga_read.proofs.sentence.first_field.Goals as goal

pub returns-in-None : goal.returns-in-None
returns-in-None c = first_alone c.args.text.now c.in-None.ensures.none

pub returns-in-Some : goal.returns-in-Some
returns-in-Some c = first_front c.args.text.now _ _ c.in-Some.ensures.found c.in-Some.ensures.free
