use Rattle.upstream_relay.proofs.LawLemmas.{claim_first}
use Rattle.upstream_relay.proofs.laws.claims_are_those_given.Goals as goal

pub returns : goal.returns
returns c = λ mount session bytes steps x. claim_first mount session.me session.stage bytes steps x
