-- It holds what its stage says.
use Rattle.std.proofs.Common.{sym, subst}
use Rattle.session_model.specs.Judged.{judged}
use Rattle.session_model.specs.Owed.{came_to}
use Rattle.session_core.specs.declared.held.Held.{Held}
use Rattle.session_core.specs.Holding.{HoldsAs}
use Rattle.session_core.proofs.HoldingLemmas.{holds_so}
use Rattle.session_core.proofs.session.Session.holds.Goals as goal

pub returns-clause-came : goal.returns-clause-came
returns-clause-came c = λ config opening heading text steps histories sent is stands.
    subst (λ (held : Held). HoldsAs config opening (came_to (judged config opening heading text) steps) held)
    (sym c.held_at.ensures)
    (holds_so config c.args.self.now opening heading text steps histories sent is stands)
