-- What the notes of links and streets stand for, in the words of `cast_io`.
use Rattle.cast_io.specs.declared.steps.Asked.{Asked}
use Rattle.cast_io.specs.declared.steps.Asked.TheVariants as asked
use Rattle.cast_io.specs.declared.steps.Step.{Step}
use Rattle.cast_io.specs.declared.steps.Step.TheVariants as took
use Rattle.caster_net.specs.declared.notes.AskedNote.{AskedNote}
use Rattle.caster_net.specs.declared.notes.AskedNote.TheVariants as asked_notes
use Rattle.caster_net.specs.declared.notes.StepNote.{StepNote}
use Rattle.caster_net.specs.declared.notes.StepNote.TheVariants as step_notes

-- the step that a link took
abbrev pub step_noted : StepNote → Step
step_noted (step_notes.Bytes bytes) = took.Bytes bytes
step_noted step_notes.Idle = took.Idle
step_noted step_notes.End = took.End
step_noted step_notes.ReadFailed = took.ReadFailed
step_noted step_notes.WriteFailed = took.WriteFailed

-- what a street was asked
abbrev pub asked_noted : AskedNote → Asked
asked_noted (asked_notes.Open addr doors) = asked.Open addr doors
asked_noted (asked_notes.Dial addr) = asked.Dial addr
