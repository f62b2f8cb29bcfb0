-- A gate that came back is kept as the last one.
use Rattle.std.proofs.Common.{arith, subst, sym, ◌∙◌, map, option_map, [], ◌∷◌}
use Rattle.std.proofs.lemmas.Grind.{common_steps}
use Rattle.cast_io.specs.FakeGates.{gate_told}
use Rattle.cast_io.specs.FakeYards.{YardState, yard_told}
use Rattle.cast_io.specs.Streets.{RisesWith}
use Rattle.cast_io.specs.Told.{Grew}
use Rattle.cast_io.proofs.ToldLemmas.{told_grew}
use Rattle.cast_io.proofs.mem_yard.MemYard.shut_gate.Goals as goal

pub returns-clause-shut : goal.returns-clause-shut
returns-clause-shut c =
    let counted = c.count_gate_faults.ensures in
    record {
      asked = grind (arith, common_steps);
      gates = subst (λ (yard : YardState). Grew (yard_told yard).gates
          (option_map (map gate_told) c.take_back.new.self.items) (gate_told c.args.gate ∷ []))
          (c.self.view_is ∙ counted.same)
          (told_grew gate_told _ _ c.args.gate c.take_back.ensures.grew);
      notes = grind (arith, common_steps);
      faults = subst (λ (yard : YardState).
          RisesWith c.args.gate.door.faults c.args.self.now.faults yard.faults)
          (sym c.self.view_is)
          (subst (λ n. RisesWith n c.args.self.now.faults
          c.count_gate_faults.new.self.faults)
          c.faults.ensures counted.rises);
      note_faults = grind (arith, common_steps);
    }
