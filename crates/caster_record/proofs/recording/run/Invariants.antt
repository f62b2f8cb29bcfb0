-- the recorder and the links rest after rounds, and the links came of the door's arrivals
use Rattle.std.proofs.Common.{map}
use Rattle.caster_record.specs.Arriving.{HaveCome}
use Rattle.caster_record.specs.Keeping.{RestsAfter}
use Rattle.caster_record.proofs.recording.run.Given as goal

abbrev pub invariant-loop : goal.invariant-loop
invariant-loop g l = record {
  can : (goal.iterator-loop g).can_next l.iterator';
  finite : (goal.iterator-loop g).is_finite l.iterator';
  rests : RestsAfter g.D.Link.Link.told l.setup.config.now l.setup.limit (g.D.Door.told l.fn.door) (g.D.Door.told l.door) l.recorder
      l.links.items l.torn.items;
  come : HaveCome (g.D.Door.told l.fn.door) (g.D.Door.told l.door) (map g.D.Link.Link.told l.fn.links.items)
      (map g.D.Link.Link.told l.links.items);
}
