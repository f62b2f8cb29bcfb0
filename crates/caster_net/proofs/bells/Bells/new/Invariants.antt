-- No more bells are in the list than places were made.
use Rattle.std.proofs.Common.{◌≤◌, length}
use Rattle.caster_net.proofs.bells.Bells.new.Given as goal

abbrev pub invariant-loop : goal.invariant-loop
invariant-loop l = length l.bells.items ≤ l.counter
