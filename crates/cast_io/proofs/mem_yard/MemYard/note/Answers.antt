-- What was asked is noted as the last one.
use Rattle.std.proofs.Common.{[], ◌∷◌, subst}
use Rattle.cast_io.specs.Told.{Grew}
use Rattle.cast_io.specs.FakeYards.{YardState}
use Rattle.cast_io.proofs.mem_yard.MemYard.note.Goals as goal

pub returns-else-note-clause-grew : goal.returns-else-note-clause-grew
returns-else-note-clause-grew c = λ call is.
    subst (λ (yard : YardState). Grew yard.asked c.note.new.self (call ∷ []))
    c.self.view_is (c.note.ensures.grew call is)
