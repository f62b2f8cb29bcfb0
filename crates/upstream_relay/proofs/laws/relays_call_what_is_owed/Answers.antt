use Rattle.upstream_relay.proofs.LawLemmas.{called_owed}
use Rattle.upstream_relay.proofs.laws.relays_call_what_is_owed.Goals as goal

pub returns : goal.returns
returns c = λ mount session bytes steps answer x says.
    called_owed mount session.me session.stage bytes steps answer x says
