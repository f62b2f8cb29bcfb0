use Rattle.chunk_body.proofs.TextLemmas.{bad_dead, bad_not_ended, bad_on, ended_on}
use Rattle.chunk_body.proofs.ReadingLemmas.{one_fault, one_of_three}
use Rattle.chunk_body.proofs.laws.texts_are_one_of_three.Goals as goal

pub returns-clause-some : goal.returns-clause-some
returns-clause-some c = one_of_three

pub returns-clause-not_bad : goal.returns-clause-not_bad
returns-clause-not_bad c = λ text place live bad. bad_dead text place bad live

pub returns-clause-ended_or_bad : goal.returns-clause-ended_or_bad
returns-clause-ended_or_bad c = λ text place ended bad. bad_not_ended text place bad ended

pub returns-clause-one_place : goal.returns-clause-one_place
returns-clause-one_place c = one_fault

pub returns-clause-ended_stays : goal.returns-clause-ended_stays
returns-clause-ended_stays c = ended_on

pub returns-clause-bad_stays : goal.returns-clause-bad_stays
returns-clause-bad_stays c = λ text more place bad. bad_on text more place bad
