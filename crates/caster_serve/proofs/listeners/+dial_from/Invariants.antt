use Rattle.std.proofs.Common.{length}
use Rattle.caster_serve.proofs.listeners.+dial_from.Given as goal

abbrev pub decreases-dial_from : goal.decreases-dial_from
decreases-dial_from g l = length l.relays.now
