-- The tasks so far, and then one at each door that is left, are all.
use Rattle.std.proofs.Common.{◌≡◌, ◌≤◌, ◌+◌, ◌++◌, map, vec_len, vec_capacity}
use Rattle.std.specs.Vec.Iter.{into_iter_items, into_iter_len}
use Rattle.caster_serve.specs.Endpoints.{at_new_door}
use Rattle.caster_serve.proofs.listeners.put_doors.Given as goal

abbrev pub invariant-loop-door : goal.invariant-loop-door
invariant-loop-door g l = record {
  put : l.tasks.items ++ map at_new_door (into_iter_items l.doors) ≡ l.fn.tasks.items ++ map at_new_door l.fn.doors.items;
  room : vec_len l.tasks + into_iter_len l.doors ≤ vec_capacity l.tasks;
  space : vec_capacity l.fn.tasks ≤ vec_capacity l.tasks;
}

abbrev pub decreases-loop-door : goal.decreases-loop-door
decreases-loop-door g l = into_iter_len l.doors
