-- The keepers so far, and then one at each gate that is left, are all.
use Rattle.std.proofs.Common.{◌≡◌, ◌≤◌, ◌+◌, ◌++◌, map, vec_len, vec_capacity}
use Rattle.std.specs.Vec.Iter.{into_iter_items, into_iter_len}
use Rattle.caster_link.specs.declared.role.Role.TheVariants as roles
use Rattle.caster_keep.specs.Stations.{new_keeper}
use Rattle.caster_keep.proofs.gates.put_workers.Given as goal

abbrev pub invariant-loop-gate : goal.invariant-loop-gate
invariant-loop-gate g l = record {
  put : l.keepers.items ++ map (new_keeper roles.Caller) (into_iter_items l.gates)
      ≡ l.fn.keepers.items ++ map (new_keeper roles.Caller) l.fn.gates.items;
  room : vec_len l.keepers + into_iter_len l.gates ≤ vec_capacity l.keepers;
  space : vec_capacity l.fn.keepers ≤ vec_capacity l.keepers;
}

abbrev pub decreases-loop-gate : goal.decreases-loop-gate
decreases-loop-gate g l = into_iter_len l.gates
