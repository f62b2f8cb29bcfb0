-- each link so far is new
use Rattle.std.proofs.Common.{IsTrue}
use Rattle.std.specs.List.{list_all}
use Rattle.cast_io.specs.FakeLinks.{is_new_link}
use Rattle.test_support.proofs.links.links_of.Given as goal

abbrev pub invariant-loop-pieces : goal.invariant-loop-pieces
invariant-loop-pieces l = IsTrue (list_all is_new_link l.links.items)
