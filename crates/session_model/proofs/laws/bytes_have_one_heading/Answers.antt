use Rattle.std.proofs.Common.{Some}
use Rattle.session_model.proofs.LawLemmas.{one_of, of_stays}
use Rattle.session_model.proofs.laws.bytes_have_one_heading.Goals as goal

pub returns-clause-one : goal.returns-clause-one
returns-clause-one c = λ opening. one_of (Some opening)

pub returns-clause-stays : goal.returns-clause-stays
returns-clause-stays c = of_stays
