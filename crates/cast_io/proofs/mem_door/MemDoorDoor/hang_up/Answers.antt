-- A link that came back is kept as the last one.
use Rattle.std.proofs.Common.{ap, subst, map, option_map, [], ◌∷◌}
use Rattle.cast_io.specs.FakeLinks.{link_told}
use Rattle.cast_io.specs.FakeDoors.{DoorState, door_told}
use Rattle.cast_io.specs.Told.{Grew}
use Rattle.cast_io.proofs.ToldLemmas.{told_grew}
use Rattle.cast_io.proofs.mem_door.MemDoorDoor.hang_up.Goals as goal

pub returns-clause-left : goal.returns-clause-left
returns-clause-left c = record {
  left = ap (λ (door : DoorState). (door_told door).left) c.self.view_is;
  back = subst (λ (door : DoorState). Grew (door_told door).back
      (option_map (map link_told) c.take_back.new.self.items) (link_told c.args.link ∷ []))
      c.self.view_is
      (told_grew link_told _ _ c.args.link c.take_back.ensures.grew);
  faults = ap (λ (door : DoorState). door.faults) c.self.view_is;
}
