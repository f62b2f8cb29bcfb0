use Rattle.caster_logged.proofs.DoneLemmas.{done_logged}
use Rattle.caster_logged.proofs.laws.what_was_done_is_logged.Goals as goal

pub returns : goal.returns
returns c = done_logged
