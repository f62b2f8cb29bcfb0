use Rattle.std.proofs.Common.{◌≡◌, ℕ, ◌<◌, ◌^◌, ◌+◌, length}
use mathlib.Core.Option.{some}
use lib.ListN.{get_elem?}
use Rattle.turn_log.specs.Lock.{pass_number, IsPassOf}
use Rattle.bench_lock.proofs.race.runners.Given as goal

-- the passes that are left are the first ones, and each runner has one of the others
abbrev pub invariant-loop-pass : goal.invariant-loop-pass
invariant-loop-pass l = record {
  few : length l.passes.items < 2 ^ 32;
  all : length l.list.items + length l.passes.items ≡ length l.fn.passes.items;
  here : (i : ℕ) (pass : _) → get_elem? l.passes.items i ≡ some pass → (pass_number pass ≡ i) × IsPassOf pass l.turn;
  each : (i : ℕ) (runner : _) → get_elem? l.list.items i ≡ some runner → IsPassOf runner.pass l.turn;
}

abbrev pub decreases-loop-pass : goal.decreases-loop-pass
decreases-loop-pass l = length l.passes.items
