use Rattle.session_model.proofs.LawLemmas.{said_same}
use Rattle.session_model.proofs.laws.pieces_do_not_matter.Goals as goal

pub returns : goal.returns
returns c = said_same
