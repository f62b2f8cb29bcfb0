-- Each answer is the end of a command over the configuration in the file, or says why there is
-- none.
use Rattle.caster_top.specs.Given.{FileCame}
use Rattle.caster_top.proofs.AnswerLemmas.{config_answer, refused_file}
use Rattle.caster_top.proofs.config_answers.answer_over.Goals as goal

pub returns-in-Ok-clause-answer : goal.returns-in-Ok-clause-answer
returns-in-Ok-clause-answer g c =
    let source = g.S.Source in
    config_answer c.args.aim c.args.path.now (FileCame (source.store c.args.store.now).files (source.log c.args.store.now) (source.log c.config_at.new.store))
    _ c.in-Ok.config _ c.in-Ok.ensures.config c.answer_to_config.ensures

pub returns-in-Err-clause-answer : goal.returns-in-Err-clause-answer
returns-in-Err-clause-answer g c =
    let source = g.S.Source in
    refused_file c.args.aim c.args.path.now (FileCame (source.store c.args.store.now).files (source.log c.args.store.now) (source.log c.config_at.new.store))
    _ c.in-Err.answer c.in-Err.ensures.refused
