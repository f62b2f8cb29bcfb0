use Rattle.session_model.proofs.LawLemmas.{one_report}
use Rattle.session_model.proofs.laws.scripts_have_one_report.Goals as goal

pub returns : goal.returns
returns c = one_report
