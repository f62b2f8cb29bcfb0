use Rattle.caster_accounts.proofs.LawLemmas.{leaver_inside}
use Rattle.caster_accounts.proofs.laws.leaver_is_inside.Goals as goal

pub returns : goal.returns
returns c = leaver_inside
