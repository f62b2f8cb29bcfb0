use Rattle.rover_cursor.proofs.CourseLemmas.{owed, owed_counts}
use Rattle.rover_cursor.proofs.laws.rover_is_sent_what_it_is_owed.Goals as goal

pub returns-clause-sound : goal.returns-clause-sound
returns-clause-sound c = λ shape state mount number rounds. (owed shape state mount number rounds).0

pub returns-clause-from : goal.returns-clause-from
returns-clause-from c = λ shape state mount number rounds. (owed shape state mount number rounds).1

pub returns-clause-taken : goal.returns-clause-taken
returns-clause-taken c = λ shape state mount number rounds. (owed shape state mount number rounds).2

pub returns-clause-counted : goal.returns-clause-counted
returns-clause-counted c = owed_counts
