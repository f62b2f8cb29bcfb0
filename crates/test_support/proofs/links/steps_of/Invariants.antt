-- each step so far has bytes where it is one of bytes
use Rattle.std.proofs.Common.{IsTrue}
use Rattle.std.specs.List.{list_all}
use Rattle.cast_io.specs.FakeLinks.{has_bytes}
use Rattle.test_support.proofs.links.steps_of.Given as goal

abbrev pub invariant-loop-piece : goal.invariant-loop-piece
invariant-loop-piece l = IsTrue (list_all has_bytes l.steps.items)
