use Rattle.caster_top.proofs.CallLemmas.{complete_cast, recorded_call, served_call}
use Rattle.caster_top.proofs.laws.casting_says.Goals as goal

pub returns-clause-served : goal.returns-clause-served
returns-clause-served c = served_call

pub returns-clause-recorded : goal.returns-clause-recorded
returns-clause-recorded c = recorded_call

pub returns-clause-complete_cast : goal.returns-clause-complete_cast
returns-clause-complete_cast c = complete_cast
