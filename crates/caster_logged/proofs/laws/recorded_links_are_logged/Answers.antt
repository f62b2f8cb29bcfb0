use Rattle.caster_logged.proofs.PeerLemmas.{recorded_logged}
use Rattle.caster_logged.proofs.laws.recorded_links_are_logged.Goals as goal

pub returns : goal.returns
returns c = recorded_logged
