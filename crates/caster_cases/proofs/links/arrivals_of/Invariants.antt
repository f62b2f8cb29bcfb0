-- Each link that arrives is new.
use Rattle.std.proofs.Common.{IsTrue}
use Rattle.std.specs.List.{list_all}
use Rattle.cast_io.specs.FakeDoors.{is_new_arrival}
use Rattle.caster_cases.proofs.links.arrivals_of.Given as goal

abbrev pub invariant-loop-link : goal.invariant-loop-link
invariant-loop-link l =
    (goal.iterator-loop-link).can_next l.link-iterator × (goal.iterator-loop-link).is_finite l.link-iterator
    × IsTrue (list_all is_new_arrival l.arrivals.items)
