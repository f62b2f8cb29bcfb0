use Rattle.session_calls.proofs.PlanLemmas.{made_both, begun_both, made_begun, made_rest, begun_longer}
use Rattle.session_calls.proofs.laws.plans_go_on.Goals as goal

pub returns-clause-made : goal.returns-clause-made
returns-clause-made c = made_both

pub returns-clause-begun : goal.returns-clause-begun
returns-clause-begun c = begun_both

pub returns-clause-whole : goal.returns-clause-whole
returns-clause-whole c = made_begun

pub returns-clause-rest : goal.returns-clause-rest
returns-clause-rest c = made_rest

pub returns-clause-longer : goal.returns-clause-longer
returns-clause-longer c = begun_longer
