use Rattle.rover_cursor.proofs.SoundLemmas.{kept-append, kept-begun, kept-read}
use Rattle.rover_cursor.proofs.laws.segment_is_sent_in_order.Goals as goal

pub returns-clause-begun : goal.returns-clause-begun
returns-clause-begun c = kept-begun

pub returns-clause-read : goal.returns-clause-read
returns-clause-read c = kept-read

pub returns-clause-later : goal.returns-clause-later
returns-clause-later c = kept-append

pub returns-clause-sent : goal.returns-clause-sent
returns-clause-sent c = λ permits capacity published segment sound. sound.sent
