-- A call for notes is noted as such.
use Rattle.std.proofs.Common.{arith, refl, subst, sym, [], ◌∷◌}
use Rattle.std.proofs.lemmas.Grind.{common_steps}
use Rattle.cast_io.specs.declared.yard_asked.YardAsked.TheVariants as asked
use Rattle.cast_io.specs.FakeYards.{YardState}
use Rattle.cast_io.specs.Told.{Grew}
use Rattle.cast_io.proofs.mem_yard.MemYard.make_notes.Goals as goal

pub returns-then-fails_call-clause-wanted : goal.returns-then-fails_call-clause-wanted
returns-then-fails_call-clause-wanted c = record {
  asked = subst (λ (yard : YardState). Grew c.args.self.now.asked yard.asked (asked.Notes ∷ []))
      (sym c.fails_call.ensures.same)
      (c.note.ensures.grew asked.Notes refl);
  gates = grind (arith, common_steps);
  notes = grind (arith, common_steps);
  later = omega (arith, c.note.ensures.later, c.fails_call.ensures.later);
  note_faults = grind (arith, common_steps);
}

pub returns-clause-wanted : goal.returns-clause-wanted
returns-clause-wanted c = record {
  asked = subst (λ (yard : YardState). Grew c.args.self.now.asked yard.asked (asked.Notes ∷ []))
      (sym c.give_notes.ensures.same)
      (subst (λ (yard : YardState). Grew c.args.self.now.asked yard.asked (asked.Notes ∷ []))
      (sym c.fails_call.ensures.same)
      (c.note.ensures.grew asked.Notes refl));
  gates = grind (arith, common_steps);
  notes = grind (arith, common_steps);
  later = omega (
    arith,
    c.note.ensures.later,
    c.fails_call.ensures.later,
    c.give_notes.ensures.later,
  );
  note_faults = grind (arith, common_steps);
}
