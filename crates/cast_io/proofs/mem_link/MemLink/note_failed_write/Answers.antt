-- A write that failed is noted as such.
use Rattle.std.proofs.Common.{[], ◌∷◌, refl, subst}
use Rattle.cast_io.specs.declared.steps.Step.TheVariants as took
use Rattle.cast_io.specs.Told.{Grew}
use Rattle.cast_io.specs.FakeLinks.{LinkState}
use Rattle.cast_io.proofs.mem_link.MemLink.note_failed_write.Goals as goal

pub returns-clause-grew : goal.returns-clause-grew
returns-clause-grew c =
    subst (λ (link : LinkState). Grew link.taken c.note.new.self.taken (took.WriteFailed ∷ []))
    c.self.view_is (c.note.ensures.grew took.WriteFailed refl)
