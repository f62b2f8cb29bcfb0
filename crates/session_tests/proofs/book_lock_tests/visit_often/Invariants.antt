use Rattle.std.proofs.Common.{◌≡◌, ◌==◌, IsTrue}
use Rattle.turn_log.specs.Lock.{turn_value, turn_home, pass_number, seat_shape, seat_home}
use Rattle.caster_accounts.specs.Kept.{caps_of}
use Rattle.session_tests.proofs.book_lock_tests.visit_often.Given as goal

-- the seat stays one of this lock, for this caller
abbrev pub invariant-loop : goal.invariant-loop
invariant-loop g l = record {
  speaks : IsTrue (l.me == pass_number l.seat.pass);
  home : seat_home l.seat ≡ turn_home l.turn;
  shape : seat_shape l.seat ≡ caps_of (turn_value l.turn);
}
