use Rattle.caster_accounts.proofs.CountLemmas.{sessions_counted, inside_counted}
use Rattle.caster_accounts.proofs.laws.sessions_are_counted.Goals as goal

pub returns-clause-inside : goal.returns-clause-inside
returns-clause-inside c = inside_counted

pub returns-clause-chosen : goal.returns-clause-chosen
returns-clause-chosen c = sessions_counted
