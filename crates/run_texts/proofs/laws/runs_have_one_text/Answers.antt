-- One report, and so one text.
use Rattle.run_texts.proofs.BareLemmas.{bare_text, one_text, one_warm_text}
use Rattle.run_texts.proofs.laws.runs_have_one_text.Goals as goal

pub returns-clause-one : goal.returns-clause-one
returns-clause-one c = one_text

pub returns-clause-one_greeted : goal.returns-clause-one_greeted
returns-clause-one_greeted c = one_warm_text

pub returns-clause-bare : goal.returns-clause-bare
returns-clause-bare c = bare_text
