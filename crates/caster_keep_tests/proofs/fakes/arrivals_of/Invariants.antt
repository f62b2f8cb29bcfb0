-- each link so far is new
use Rattle.std.proofs.Common.{IsTrue}
use Rattle.std.specs.List.{list_all}
use Rattle.cast_io.specs.FakeDoors.{is_new_arrival}
use Rattle.caster_keep_tests.proofs.fakes.arrivals_of.Given as goal

abbrev pub invariant-loop-pieces : goal.invariant-loop-pieces
invariant-loop-pieces l = IsTrue (list_all is_new_arrival l.arrivals.items)
