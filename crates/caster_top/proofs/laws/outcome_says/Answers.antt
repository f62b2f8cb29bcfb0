use Rattle.caster_top.proofs.CallLemmas.{decided_call}
use Rattle.caster_top.proofs.OutcomeLemmas.{Decided-checked, Decided-migrated, Decided-status, Decided-tabled, Decided-whole}
use Rattle.caster_top.proofs.laws.outcome_says.Goals as goal

pub returns-clause-status : goal.returns-clause-status
returns-clause-status c call meets = Decided-status (decided_call call meets)

pub returns-clause-whole : goal.returns-clause-whole
returns-clause-whole c call meets = Decided-whole (decided_call call meets)

pub returns-clause-checked : goal.returns-clause-checked
returns-clause-checked c call meets = Decided-checked (decided_call call meets)

pub returns-clause-tabled : goal.returns-clause-tabled
returns-clause-tabled c call meets = Decided-tabled (decided_call call meets)

pub returns-clause-migrated : goal.returns-clause-migrated
returns-clause-migrated c call meets = Decided-migrated (decided_call call meets)
