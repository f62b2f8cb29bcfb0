-- A session that was recorded is told by its script.
use Rattle.std.proofs.Common.{List, refl, subst}
use Rattle.session_script.specs.declared.Event.{Event}
use Rattle.session_script.specs.Writing.{script_text}
use Rattle.caster_top.specs.Outcome.{exactly, whole_exit}
use Rattle.caster_top.specs.Answers.{GivesEnd}
use Rattle.caster_top.specs.Casting.{a_text}
use Rattle.caster_top.proofs.casting_answers.answer_to_recorder.Goals as goal

pub returns-in-Ok-clause-cast : goal.returns-in-Ok-clause-cast
returns-in-Ok-clause-cast g c = (
  a_text (script_text c.in-Ok.events.items),
  (c.in-Ok.events.items, c.in-Ok.ensures.recorded, refl),
  subst (λ (events : List Event). GivesEnd (exactly (whole_exit (script_text events))) c.answer_to_events.result)
      c.deref.ensures.value c.answer_to_events.ensures,
)
