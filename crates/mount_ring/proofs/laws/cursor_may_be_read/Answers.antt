use Rattle.mount_ring.proofs.HistoryLemmas.{readable-append, readable-read}
use Rattle.mount_ring.proofs.laws.cursor_may_be_read.Goals as goal

pub returns-clause-read : goal.returns-clause-read
returns-clause-read c = readable-read

pub returns-clause-later : goal.returns-clause-later
returns-clause-later c = readable-append
