use Rattle.base_select.proofs.NearestLemmas.{nearest_is_of, choice_is_of}
use Rattle.base_select.proofs.laws.choice_is_a_function.Goals as goal

pub returns-clause-nearest : goal.returns-clause-nearest
returns-clause-nearest c = nearest_is_of

pub returns-clause-choice : goal.returns-clause-choice
returns-clause-choice c = choice_is_of
