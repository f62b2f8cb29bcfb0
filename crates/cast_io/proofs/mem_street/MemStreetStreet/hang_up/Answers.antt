-- A link that came back is kept as the last one.
use Rattle.std.proofs.Common.{arith, subst, sym, ◌∙◌, map, option_map, [], ◌∷◌}
use Rattle.std.proofs.lemmas.Grind.{common_steps}
use Rattle.cast_io.specs.FakeLinks.{link_told}
use Rattle.cast_io.specs.FakeStreets.{StreetState, street_told}
use Rattle.cast_io.specs.Streets.{RisesWith}
use Rattle.cast_io.specs.Told.{Grew}
use Rattle.cast_io.proofs.ToldLemmas.{told_grew}
use Rattle.cast_io.proofs.mem_street.MemStreetStreet.hang_up.Goals as goal

pub returns-clause-left : goal.returns-clause-left
returns-clause-left c =
    let counted = c.count_link_faults.ensures in
    record {
      asked = grind (arith, common_steps);
      doors = grind (arith, common_steps);
      links = subst (λ (street : StreetState). Grew (street_told street).links
          (option_map (map link_told) c.take_back.new.self.items) (link_told c.args.link ∷ []))
          (c.self.view_is ∙ counted.same)
          (told_grew link_told _ _ c.args.link c.take_back.ensures.grew);
      faults = grind (arith, common_steps);
      link_faults = subst (λ (street : StreetState).
          RisesWith c.args.link.faults c.args.self.now.link_faults street.link_faults)
          (sym c.self.view_is)
          (subst (λ n. RisesWith n c.args.self.now.link_faults
          c.count_link_faults.new.self.link_faults)
          c.faults.ensures counted.rises);
    }
