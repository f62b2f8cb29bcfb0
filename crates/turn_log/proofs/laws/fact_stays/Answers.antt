use Rattle.std.proofs.Common.{IsTrue}
use Rattle.turn_log.proofs.HistoryLaws.{kept_after}
use Rattle.turn_log.proofs.laws.fact_stays.Goals as goal

pub returns : goal.returns
returns g c s me holds = kept_after me (λ h. IsTrue (holds h))
