use Rattle.std.proofs.Common.{take}
use Rattle.bench_lock.specs.Shares.{AreBounds, IsSum}
use Rattle.bench_lock.proofs.race.shares_of.Given as goal

-- the sum of all, and the bounds so far
abbrev pub invariant-loop-count : goal.invariant-loop-count
invariant-loop-count l = record {
  sum : IsSum l.shares l.taken;
  bounds : AreBounds l.shares (take l.count-index l.taken);
}
