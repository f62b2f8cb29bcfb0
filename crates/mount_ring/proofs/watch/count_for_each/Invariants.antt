use Rattle.std.proofs.Common.{◌≡◌, ◌++◌, map, take, drop}
use Rattle.mount_ring.specs.Watches.{counted}
use Rattle.mount_ring.proofs.watch.count_for_each.Given as goal

abbrev pub invariant-loop-watch : goal.invariant-loop-watch
invariant-loop-watch l =
    l.watch-items
    ≡ map (counted l.frame l.fallen) (take l.watch-index l.fn.watches.items) ++ drop l.watch-index l.fn.watches.items
