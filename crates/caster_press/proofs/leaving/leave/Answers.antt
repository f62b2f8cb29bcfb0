-- The pass of a place came to the pile.
use Rattle.caster_press.proofs.PileLemmas.{pile_more}
use Rattle.caster_press.proofs.leaving.leave.Goals as goal

pub returns-clause-left : goal.returns-clause-left
returns-clause-left g c = λ rows lock at pile.
    let left = c.leave.ensures in
    pile_more rows _ _ _ _ lock c.push_reserved.ensures.items left.number left.seen left.home left.shape at
    pile
