-- Those hung up so far, and those that are left, are all.
use Rattle.std.proofs.Common.{◌≡◌, ◌++◌, List, map}
use Rattle.std.specs.Vec.Iter.{into_iter_items, into_iter_len}
use Rattle.cast_io.specs.Told.{LinkTold}
use Rattle.caster_record.specs.Arriving.{HasTakenBack}
use Rattle.caster_record.proofs.recording.hang_up_all.Given as goal

abbrev pub invariant-loop-link : goal.invariant-loop-link
invariant-loop-link g l = record {
  back : (given : List LinkTold)
      × (map g.D.Link.Link.told l.fn.links.items ≡ given ++ map g.D.Link.Link.told (into_iter_items l.links))
      × HasTakenBack given (g.D.Door.told l.fn.door) (g.D.Door.told l.door);
}

abbrev pub decreases-loop-link : goal.decreases-loop-link
decreases-loop-link g l = into_iter_len l.links
