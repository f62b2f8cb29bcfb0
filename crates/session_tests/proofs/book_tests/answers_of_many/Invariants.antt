use Rattle.std.proofs.Common.{◌≡◌, length}
use Rattle.caster_accounts.specs.Kept.{caps_of}
use Rattle.session_tests.proofs.book_tests.answers_of_many.Given as goal

abbrev pub invariant-loop-account : goal.invariant-loop-account
invariant-loop-account l = length (caps_of l.desk.value) ≡ 1024
