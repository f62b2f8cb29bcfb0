use Rattle.base_select.proofs.LawLemmas.{among, only, without, elsewhere}
use Rattle.base_select.proofs.laws.choice_is_of_the_bases.Goals as goal

pub returns-clause-among : goal.returns-clause-among
returns-clause-among c = among

pub returns-clause-only : goal.returns-clause-only
returns-clause-only c = only

pub returns-clause-without : goal.returns-clause-without
returns-clause-without c = without

pub returns-clause-elsewhere : goal.returns-clause-elsewhere
returns-clause-elsewhere c = elsewhere
