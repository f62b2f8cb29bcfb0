use Rattle.caster_press.proofs.PlaceLemmas.{own-put, put_then}
use Rattle.caster_press.proofs.laws.puts_add_up.Goals as goal

pub returns-clause-both : goal.returns-clause-both
returns-clause-both c = put_then

pub returns-clause-own : goal.returns-clause-own
returns-clause-own c = own-put
