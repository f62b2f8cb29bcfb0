-- Those given back so far, and those that are left, are all.
use Rattle.std.proofs.Common.{◌≡◌, ◌++◌, List, map}
use Rattle.std.specs.Vec.Iter.{into_iter_items, into_iter_len}
use Rattle.caster_serve.specs.Endpoints.{EndpointTold, HasTakenBack, end_told}
use Rattle.caster_serve.proofs.listeners.give_back.Given as goal

abbrev pub invariant-loop-task : goal.invariant-loop-task
invariant-loop-task g l = record {
  back : (given : List EndpointTold)
      × (map (end_told g.N.Door.Door.told g.N.Link.Link.told) l.fn.tasks.items
      ≡ given ++ map (end_told g.N.Door.Door.told g.N.Link.Link.told) (into_iter_items l.tasks))
      × HasTakenBack given (g.N.Street.told l.fn.street) (g.N.Street.told l.street);
}

abbrev pub decreases-loop-task : goal.decreases-loop-task
decreases-loop-task g l = into_iter_len l.tasks
