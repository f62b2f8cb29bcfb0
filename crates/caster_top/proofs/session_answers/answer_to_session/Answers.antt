-- What came of a file that could not be read to its end is no session.
use Rattle.cast_io.specs.Causes.{Rose}
use Rattle.caster_top.specs.Given.{FileCame}
use Rattle.caster_top.proofs.AnswerLemmas.{unread_session}
use Rattle.caster_top.proofs.session_answers.answer_to_session.Goals as goal

pub returns-in-Err-clause-answer : goal.returns-in-Err-clause-answer
returns-in-Err-clause-answer g c =
    let source = g.S.Source in
    rw c.of_read_fault.ensures (unread_session c.args.start c.args.config.now _ (FileCame (source.store c.args.store.now).files (source.log c.args.store.now) (source.log c.read_file.new.store))
    (Rose (source.faults c.args.store.now)
    (source.faults c.read_file.new.store)) c.in-Err.fault (λ e. c.in-Err.ensures.long (cc))
    (λ e. c.in-Err.ensures.failed (cc)))
