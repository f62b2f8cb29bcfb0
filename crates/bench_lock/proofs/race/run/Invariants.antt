use Rattle.std.proofs.Common.{◌≡◌, ◌+◌, ◌==◌, IsTrue}
use Rattle.turn_log.specs.Lock.{turn_home, pass_home, pass_number, pass_seen}
use Rattle.bench_lock.specs.Shares.{share}
use Rattle.bench_lock.proofs.race.run.Given as goal

-- the seat stays one of this lock, for this caller, whose share has grown by the turns that it took
abbrev pub invariant-loop-taken : goal.invariant-loop-taken
invariant-loop-taken g l = record {
  speaks : IsTrue (l.me == pass_number l.seat.pass);
  home : pass_home l.seat.pass ≡ turn_home l.turn;
  counted : share l.me l.turns (pass_seen l.seat.pass) ≡ share l.me l.turns (pass_seen l.fn.runner.pass) + l.taken;
}
