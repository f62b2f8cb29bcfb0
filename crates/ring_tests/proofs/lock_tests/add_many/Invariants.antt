use Rattle.std.proofs.Common.{◌≡◌, ◌==◌, IsTrue}
use Rattle.atomic_table.specs.Seated.{table_id_coded}
use Rattle.turn_log.specs.Lock.{turn_home}
use Rattle.ring_tests.proofs.lock_tests.add_many.Given as goal

-- the seat stays one of this lock, for this caller
abbrev pub invariant-loop : goal.invariant-loop
invariant-loop g l = record {
  speaks : IsTrue (l.me == l.seat.pass.number);
  home : table_id_coded.code l.seat.pass.token.table_id ≡ turn_home l.turn;
}
