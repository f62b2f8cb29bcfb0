use Rattle.upstream_relay.proofs.LawLemmas.{halts_as_answered}
use Rattle.upstream_relay.proofs.laws.answers_halt_a_relay.Goals as goal

pub returns : goal.returns
returns c = λ mount session bytes steps why x. halts_as_answered mount session.me session.stage bytes steps why x
