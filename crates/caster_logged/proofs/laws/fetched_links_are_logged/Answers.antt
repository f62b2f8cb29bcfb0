use Rattle.caster_logged.proofs.RunLemmas.{fetched_logged}
use Rattle.caster_logged.proofs.laws.fetched_links_are_logged.Goals as goal

pub returns : goal.returns
returns c = fetched_logged
