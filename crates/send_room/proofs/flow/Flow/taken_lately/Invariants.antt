-- The sum of those before this one, none of which is above 2^32 - 1.
use Rattle.std.proofs.Common.{◌≡◌, ◌*◌, ◌≤◌, sum, take}
use Rattle.send_room.proofs.flow.Flow.taken_lately.Given as goal

abbrev pub invariant-loop-count : goal.invariant-loop-count
invariant-loop-count l = record {
  sum : l.sum ≡ sum (take l.count-index l.count-items);
  bound : l.sum ≤ 4294967295 * l.count-index;
}
