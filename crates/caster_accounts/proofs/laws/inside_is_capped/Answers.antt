use Rattle.caster_accounts.proofs.LawLemmas.{inside_capped}
use Rattle.caster_accounts.proofs.laws.inside_is_capped.Goals as goal

pub returns : goal.returns
returns c = inside_capped
