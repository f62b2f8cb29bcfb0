use Rattle.turn_log.proofs.HistoryLaws.{legal_none}
use Rattle.turn_log.proofs.desk.Desk.new.Goals as goal

-- no call was made yet
pub invariant_of-result-clause-legal : goal.invariant_of-result-clause-legal
invariant_of-result-clause-legal g c = legal_none (g.V.Played.fits (g.V.Played.shape c.args.value))
