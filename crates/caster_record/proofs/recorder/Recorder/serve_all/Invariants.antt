-- the links up to this place had their places, and they are the same links
use Rattle.std.proofs.Common.{◌≡◌, ◌≤◌, length, map}
use Rattle.cast_io.specs.Told.{DoorTold}
use Rattle.caster_record.specs.Arriving.{given_in}
use Rattle.caster_record.specs.Keeping.{IsWithin}
use Rattle.caster_record.proofs.recorder.Recorder.serve_all.Given as goal

abbrev pub invariant-loop-at : goal.invariant-loop-at
invariant-loop-at g l = record {
  place : (before door : DoorTold)
      → IsWithin g.L.Link.told l.setup.config.now l.setup.limit 0 before door l.fn.self l.fn.links.items l.fn.torn.items
      → IsWithin g.L.Link.told l.setup.config.now l.setup.limit l.at before door l.self l.links.items l.torn.items;
  given : given_in (map g.L.Link.told l.links.items) ≡ given_in (map g.L.Link.told l.fn.links.items);
  count : length l.links.items ≡ length l.fn.links.items;
  most : l.at-end ≤ length l.links.items;
  all : l.at-end ≡ length l.links.items;
}
