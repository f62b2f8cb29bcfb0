use Rattle.base_select.proofs.LawLemmas.{leaves, stays}
use Rattle.base_select.proofs.laws.choice_is_kept_unless_beaten.Goals as goal

pub returns-clause-leaves : goal.returns-clause-leaves
returns-clause-leaves c = leaves

pub returns-clause-stays : goal.returns-clause-stays
returns-clause-stays c = stays
