use Rattle.std.proofs.Common.{◌≡◌, length, map, take}
use Rattle.mount_ring.specs.Watches.{unseen}
use Rattle.mount_ring.proofs.ring.Ring.new.Given as goal

abbrev pub invariant-loop-number : goal.invariant-loop-number
invariant-loop-number l = record {
  end : l.number-end ≡ length l.filters;
  made : l.watches.items ≡ map unseen (take l.number l.filters);
}
