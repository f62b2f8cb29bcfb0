-- Who entered may leave.
use Rattle.std.proofs.Common.{length}
use Rattle.std.proofs.lemmas.Bool.{lt-ltb}
use Rattle.session_tests.proofs.book_lock_tests.visit.Goals as goal

pub turn-requires-clause-fits : goal.turn-requires-clause-fits
turn-requires-clause-fits g c = lt-ltb 0 (length (g.T.Turns.shape c.args.place.now)) c.requires.account
