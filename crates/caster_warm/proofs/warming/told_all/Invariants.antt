-- the first are told, and the others are left
use Rattle.std.proofs.Common.{◌≡◌, ◌++◌, map}
use Rattle.caster_warm.specs.Parts.{sent_to}
use Rattle.caster_warm.specs.Warm.{told_with}
use Rattle.caster_warm.proofs.warming.told_all.Given as goal

abbrev pub invariant-loop-connection : goal.invariant-loop-connection
invariant-loop-connection l =
    (goal.iterator-loop-connection).can_next l.connection-iterator
    × (goal.iterator-loop-connection).is_finite l.connection-iterator
    × (l.list.items ≡ map (told_with (λ n. sent_to n l.sent)) l.yielded)
    × (l.yielded ++ l.connection-iterator.rest.items ≡ l.fn.connections.items)
