use Rattle.session_calls.proofs.WentLemmas.{went_none, went_both, went_on, went_less}
use Rattle.session_calls.proofs.laws.histories_go_on.Goals as goal

pub returns-clause-none : goal.returns-clause-none
returns-clause-none c = went_none

pub returns-clause-both : goal.returns-clause-both
returns-clause-both c = went_both

pub returns-clause-others : goal.returns-clause-others
returns-clause-others c = went_on

pub returns-clause-less : goal.returns-clause-less
returns-clause-less c = went_less
