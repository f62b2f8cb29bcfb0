use Rattle.source_session.proofs.CallLemmas.{held_now}
use Rattle.source_session.proofs.laws.claim_stays_held.Goals as goal

pub returns : goal.returns
returns c = λ shape me claim now legal held. held_now shape me claim now held legal
