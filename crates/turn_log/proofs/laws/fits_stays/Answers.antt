use Rattle.turn_log.proofs.HistoryLaws.{fits_after}
use Rattle.turn_log.proofs.laws.fits_stays.Goals as goal

pub returns : goal.returns
returns g c s h more me call = fits_after (g.met.V.Played.still_fits s) h more me call
