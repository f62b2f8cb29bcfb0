-- Notes that came back are kept as the last ones.
use Rattle.std.proofs.Common.{arith, subst, sym, ◌∙◌, map, option_map, [], ◌∷◌}
use Rattle.std.proofs.lemmas.Grind.{common_steps}
use Rattle.cast_io.specs.FakeYards.{YardState, notes_told, yard_told}
use Rattle.cast_io.specs.Streets.{RisesWith}
use Rattle.cast_io.specs.Told.{Grew}
use Rattle.cast_io.proofs.ToldLemmas.{told_grew}
use Rattle.cast_io.proofs.mem_yard.MemYard.take_notes.Goals as goal

pub returns-clause-taken : goal.returns-clause-taken
returns-clause-taken c =
    let counted = c.count_note_faults.ensures in
    record {
      asked = grind (arith, common_steps);
      gates = grind (arith, common_steps);
      taken = subst (λ (yard : YardState). Grew (yard_told yard).notes
          (option_map (map notes_told) c.take_back.new.self.items) (notes_told c.args.notes ∷ []))
          (c.self.view_is ∙ counted.same)
          (told_grew notes_told _ _ c.args.notes c.take_back.ensures.grew);
      faults = grind (arith, common_steps);
      note_faults = subst (λ (yard : YardState).
          RisesWith c.args.notes.faults c.args.self.now.note_faults yard.note_faults)
          (sym c.self.view_is)
          (subst (λ n. RisesWith n c.args.self.now.note_faults
          c.count_note_faults.new.self.note_faults)
          c.faults.ensures counted.rises);
    }
