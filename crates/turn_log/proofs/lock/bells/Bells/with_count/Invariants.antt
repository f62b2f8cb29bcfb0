-- There are as many bells as the loop has counted to.
use Rattle.std.proofs.Common.{◌≡◌, length}
use Rattle.turn_log.proofs.lock.bells.Bells.with_count.Given as goal

abbrev pub invariant-loop : goal.invariant-loop
invariant-loop l = length l.parkers.items ≡ l.counter
