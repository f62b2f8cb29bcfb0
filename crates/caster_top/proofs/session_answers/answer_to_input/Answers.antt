-- Each answer is the end of a bare session over the bytes that came, or has its cause.
use Rattle.cast_io.specs.Causes.{Rose}
use Rattle.caster_top.specs.Given.{InputCame}
use Rattle.caster_top.proofs.AnswerLemmas.{script_answer, unread_input}
use Rattle.caster_top.proofs.GivenLemmas.{input_all, input_long}
use Rattle.caster_top.proofs.session_answers.answer_to_input.Goals as goal

pub returns-in-Ok-clause-answer : goal.returns-in-Ok-clause-answer
returns-in-Ok-clause-answer g c =
    let source = g.I.Source in
    script_answer (InputCame (source.left c.args.input.now) (source.log c.args.input.now)
    (source.log c.read_all.new.source)) _ c.in-Ok.bytes.items _ _
    (input_all _ _ _ _ _ _ c.in-Ok.ensures.whole)
    (rw c.deref.ensures.value at c.answer_to_bare.ensures)

pub returns-in-Err-clause-answer : goal.returns-in-Err-clause-answer
returns-in-Err-clause-answer g c =
    let source = g.I.Source in
    rw c.of_read_fault.ensures (unread_input (InputCame (source.left c.args.input.now) (source.log c.args.input.now)
    (source.log c.read_all.new.source)) _ (Rose (source.faults c.args.input.now)
    (source.faults c.read_all.new.source)) c.in-Err.fault (λ e. input_long _ _ _ _ (rw e at c.in-Err.ensures.lost))
    (λ e. c.in-Err.ensures.cause (cc)))
