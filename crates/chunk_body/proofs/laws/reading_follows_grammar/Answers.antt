use Rattle.chunk_body.proofs.ReadingLemmas.{known, ended_reading, bad_reading, open_taken, taken_most, plain_read}
use Rattle.chunk_body.proofs.laws.reading_follows_grammar.Goals as goal

pub returns-clause-ended : goal.returns-clause-ended
returns-clause-ended c = λ text. ended_reading text _ (known text)

pub returns-clause-bad : goal.returns-clause-bad
returns-clause-bad c = λ text place. bad_reading text _ place (known text)

pub returns-clause-counted : goal.returns-clause-counted
returns-clause-counted c = λ text is. open_taken text _ (known text) is

pub returns-clause-at_most : goal.returns-clause-at_most
returns-clause-at_most c = taken_most

pub returns-clause-plain : goal.returns-clause-plain
returns-clause-plain c = plain_read
