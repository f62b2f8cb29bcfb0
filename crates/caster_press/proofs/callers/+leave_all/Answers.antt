-- The last leaves behind the others.
use Rattle.caster_press.proofs.CallerLemmas.{callers_split, rows-last, works_more}
use Rattle.caster_press.proofs.PileLemmas.{pile_is}
use Rattle.caster_press.proofs.callers.+leave_all.Goals as goal

pub returns-clause-works : goal.returns-clause-works
returns-clause-works g t c =
    works_more (λ (caller : _). caller.work) _ c.pop.new.self.items c.in-Some.last _ _ _ c.in-Some.ensures.items
    c.leave_all.ensures.works c.push_reserved.ensures.items

pub returns-clause-left : goal.returns-clause-left
returns-clause-left g t c = λ lock none callers.
    let split = callers_split _ _ c.pop.new.self.items c.in-Some.last lock c.in-Some.ensures.items callers in
    pile_is _ _ c.leave.new.pile.items lock
    (rows-last _ _ c.pop.new.self.items c.in-Some.last c.in-Some.ensures.items)
    (c.leave.ensures.left _ lock split.1 (c.leave_all.ensures.left lock none split.0))
