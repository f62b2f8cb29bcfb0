-- Nobody has seen anything yet.
use Rattle.caster_press.proofs.whole.open.Goals as goal

pub returns-clause-passes : goal.returns-clause-passes
returns-clause-passes g c = λ number pass at.
    let new = c.in_ok-press.ensures.each number pass at in record { numbered = new.0; unseen = new.1; here = new.3 }
