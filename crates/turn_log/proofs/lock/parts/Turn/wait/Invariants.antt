use Rattle.std.proofs.Common.{◌≡◌}
use Rattle.turn_log.proofs.lock.parts.Turn.wait.Given as goal

-- while it waits, the token stays as it was
abbrev pub invariant-loop : goal.invariant-loop
invariant-loop g l =
    (goal.iterator-loop g).can_next l.iterator' × (goal.iterator-loop g).is_finite l.iterator'
    × (l.token.table_id ≡ l.fn.token.table_id) × (l.token.id ≡ l.fn.token.id) × (l.token.me ≡ l.fn.token.me)
