-- The list has the passes 0 and 1.
use Rattle.turn_log.proofs.LockLists.{at_two}
use Rattle.ring_tests.proofs.locks.open_two.Goals as goal

pub returns-clause-first : goal.returns-clause-first
returns-clause-first g c =
    let at = at_two _ _ _ c.in-Some-pop.first _ c.in-Some.ensures.items c.in-Some-pop.ensures.items
    c.in_ok-turn.ensures.all in
    let is = c.in_ok-turn.ensures.each 0 c.in-Some-pop.first at.0 in
    (is.3, is.0)

pub returns-clause-second : goal.returns-clause-second
returns-clause-second g c =
    let at = at_two _ _ _ c.in-Some-pop.first _ c.in-Some.ensures.items c.in-Some-pop.ensures.items
    c.in_ok-turn.ensures.all in
    let is = c.in_ok-turn.ensures.each 1 c.in-Some.second at.1 in
    (is.3, is.0)
