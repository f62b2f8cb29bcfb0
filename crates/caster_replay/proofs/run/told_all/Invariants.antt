-- what is told of the first, and the others are left
use Rattle.std.proofs.Common.{◌≡◌, ◌++◌}
use Rattle.caster_replay.specs.Lives.{AreTold, lives_in}
use Rattle.caster_replay.proofs.run.told_all.Given as goal

abbrev pub invariant-loop-entry : goal.invariant-loop-entry
invariant-loop-entry l =
    (goal.iterator-loop-entry).can_next l.entry-iterator × (goal.iterator-loop-entry).is_finite l.entry-iterator
    × AreTold (lives_in l.yielded) l.list.items
    × (l.yielded ++ l.entry-iterator.rest.items ≡ l.fn.entries.items)
