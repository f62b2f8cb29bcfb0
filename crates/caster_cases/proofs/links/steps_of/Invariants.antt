-- Each step of bytes holds some.
use Rattle.std.proofs.Common.{IsTrue}
use Rattle.std.specs.List.{list_all}
use Rattle.cast_io.specs.FakeLinks.{has_bytes}
use Rattle.caster_cases.proofs.links.steps_of.Given as goal

abbrev pub invariant-loop-word : goal.invariant-loop-word
invariant-loop-word l =
    (goal.iterator-loop-word).can_next l.word-iterator × (goal.iterator-loop-word).is_finite l.word-iterator
    × IsTrue (list_all has_bytes l.steps.items)
