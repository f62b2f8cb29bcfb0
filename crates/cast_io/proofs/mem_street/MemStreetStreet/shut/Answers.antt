-- A door that came back is kept as the last one.
use Rattle.std.proofs.Common.{arith, subst, sym, ◌∙◌, map, option_map, [], ◌∷◌}
use Rattle.std.proofs.lemmas.Grind.{common_steps}
use Rattle.cast_io.specs.FakeDoors.{door_told}
use Rattle.cast_io.specs.FakeStreets.{StreetState, street_told}
use Rattle.cast_io.specs.Streets.{RisesWith}
use Rattle.cast_io.specs.Told.{Grew}
use Rattle.cast_io.proofs.ToldLemmas.{told_grew}
use Rattle.cast_io.proofs.mem_street.MemStreetStreet.shut.Goals as goal

pub returns-clause-shut : goal.returns-clause-shut
returns-clause-shut c =
    let counted = c.count_door_faults.ensures in
    record {
      asked = grind (arith, common_steps);
      doors = subst (λ (street : StreetState). Grew (street_told street).doors
          (option_map (map door_told) c.take_back.new.self.items) (door_told c.args.door ∷ []))
          (c.self.view_is ∙ counted.same)
          (told_grew door_told _ _ c.args.door c.take_back.ensures.grew);
      links = grind (arith, common_steps);
      faults = subst (λ (street : StreetState).
          RisesWith c.args.door.faults c.args.self.now.faults street.faults)
          (sym c.self.view_is)
          (subst (λ n. RisesWith n c.args.self.now.faults
          c.count_door_faults.new.self.faults)
          c.faults.ensures counted.rises);
      link_faults = grind (arith, common_steps);
    }
