-- The items up to `at` were noted.
use Rattle.std.proofs.Common.{◌≡◌, ◌≤◌, ◌-◌, ◌++◌, length, take}
use Rattle.cast_io.proofs.journal.Journal.add_all.Given as goal

abbrev pub invariant-loop-at : goal.invariant-loop-at
invariant-loop-at T l = record {
  within : l.at ≤ length l.items;
  added : l.self ≡ l.fn.self ++ take l.at l.items;
}

abbrev pub decreases-loop-at : goal.decreases-loop-at
decreases-loop-at T l = length l.items - l.at
