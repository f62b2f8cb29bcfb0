use Rattle.caster_accounts.proofs.CountLemmas.{leaver_opened, opener_leaves}
use Rattle.caster_accounts.proofs.laws.leaver_entered_more.Goals as goal

pub returns-clause-may : goal.returns-clause-may
returns-clause-may c = leaver_opened

pub returns-clause-only : goal.returns-clause-only
returns-clause-only c = opener_leaves
