-- A line more was written, or not.
use Rattle.std.proofs.Common.{refl}
use Rattle.caster_press.proofs.WrittenLemmas.{written_still, written_line}
use Rattle.caster_press.proofs.press.PressPlayed.play.Goals as goal

pub returns-then-self-clause-played : goal.returns-then-self-clause-played
returns-then-self-clause-played g c = λ h stands few fit. (written_still _ c.if-self.true _ _ _ h _ _ stands, refl, refl)

pub returns-clause-played : goal.returns-clause-played
returns-clause-played g c = λ h stands few fit. (
  written_line c.write.result _ _ c.if-self.false c.is_err-self.ensures.value _ _ _ _ _ h _ _ _ c.bytes.ensures stands
      c.write.ensures.whole c.write.ensures.torn c.write.ensures.cause c.write.ensures.unharmed,
  refl,
  refl,
)
