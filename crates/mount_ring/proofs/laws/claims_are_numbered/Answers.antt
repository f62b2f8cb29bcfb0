use Rattle.mount_ring.proofs.HistoryLemmas.{claim_given, claim_held, latest-entries}
use Rattle.mount_ring.specs.History.{start}
use Rattle.mount_ring.proofs.laws.claims_are_numbered.Goals as goal

pub returns-clause-given : goal.returns-clause-given
returns-clause-given c = claim_given

pub returns-clause-holds : goal.returns-clause-holds
returns-clause-holds c = claim_held

pub returns-clause-latest : goal.returns-clause-latest
returns-clause-latest c = λ history. latest-entries start history tt
