-- What has a fault is no configuration.
use Rattle.caster_top.proofs.AnswerLemmas.{fault_answer}
use Rattle.caster_top.proofs.config_answers.config_of.Goals as goal

pub returns-in-Err-clause-refused : goal.returns-in-Err-clause-refused
returns-in-Err-clause-refused c =
    fault_answer c.args.bytes.now c.in-Err.fault c.answer_to_fault.result c.requires c.in-Err.ensures.read
    c.answer_to_fault.ensures
