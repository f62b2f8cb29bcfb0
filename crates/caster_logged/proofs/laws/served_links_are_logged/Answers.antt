use Rattle.caster_logged.proofs.CallerLemmas.{served_logged}
use Rattle.caster_logged.proofs.laws.served_links_are_logged.Goals as goal

pub returns : goal.returns
returns c = served_logged
