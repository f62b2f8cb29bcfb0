-- Those given back so far, and those that are left, are all.
use Rattle.std.proofs.Common.{◌≡◌, ◌++◌, List}
use Rattle.std.specs.Vec.Iter.{into_iter_items, into_iter_len}
use Rattle.cast_io.specs.Yards.{GateTold}
use Rattle.caster_keep.specs.Gates.{HasTakenBack, gates_of}
use Rattle.caster_keep.proofs.gates.give_back.Given as goal

abbrev pub invariant-loop-keeper : goal.invariant-loop-keeper
invariant-loop-keeper g l = record {
  back : (given : List GateTold)
      × (gates_of g.Y.Gate.Door.told g.Y.Gate.Gate.over l.fn.keepers.items
      ≡ given ++ gates_of g.Y.Gate.Door.told g.Y.Gate.Gate.over (into_iter_items l.keepers))
      × HasTakenBack given (g.Y.Yard.kept l.fn.yard) (g.Y.Yard.kept l.yard);
  street : g.Y.Street.told l.yard ≡ g.Y.Street.told l.fn.yard;
}

abbrev pub decreases-loop-keeper : goal.decreases-loop-keeper
decreases-loop-keeper g l = into_iter_len l.keepers
