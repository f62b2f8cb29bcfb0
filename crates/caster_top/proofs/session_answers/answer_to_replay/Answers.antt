-- Each answer is the end of a session over the configuration in the file, or says why there is
-- none; and the session was asked for where there is one.
use Rattle.std.proofs.Common.{◌∙◌, arith}
use Rattle.caster_top.specs.Given.{FileCame}
use Rattle.caster_top.proofs.AnswerLemmas.{replay_answer, refused_replay}
use Rattle.cast_io.proofs.ToldLemmas.{rose_since}
use Rattle.caster_top.proofs.AskedLemmas.{config_asked, both_asked}
use Rattle.caster_top.proofs.GivenLemmas.{file_before, file_later, files_same}
use Rattle.caster_top.proofs.session_answers.answer_to_replay.Goals as goal

pub returns-in-Ok-clause-answer : goal.returns-in-Ok-clause-answer
returns-in-Ok-clause-answer g c =
    let source = g.S.Source in
    let files = (source.store c.args.store.now).files in
    let mid = (source.store c.config_at.new.store).files in
    let start = source.log c.args.store.now in
    let between = source.log c.config_at.new.store in
    let end = source.log c.answer_to_session.new.store in
    replay_answer c.args.start c.args.config.now c.args.session.now (FileCame files start between)
    (FileCame mid between end) (FileCame files start end) _ _ c.in-Ok.config c.answer_to_session.result
    c.in-Ok.ensures.config
    (λ bytes came. file_before _ files start between end bytes came c.answer_to_session.ensures.on)
    (λ bytes came. file_later _ files start between end bytes c.in-Ok.ensures.on
    (files_same mid files between end _ bytes c.in-Ok.ensures.kept.files came))
    (λ rose. rose_since _ _ _ c.in-Ok.ensures.kept.faults rose) c.answer_to_session.ensures.answer

pub returns-in-Ok-clause-asked : goal.returns-in-Ok-clause-asked
returns-in-Ok-clause-asked g c =
    let is = c.in-Ok.ensures.config in
    both_asked c.args.start _ _ _ _ _ _ c.in-Ok.config c.in-Ok.ensures.asked c.answer_to_session.ensures.asked
    (is.0, is.1.0, is.2, is.3)

pub returns-in-Ok-clause-kept : goal.returns-in-Ok-clause-kept
returns-in-Ok-clause-kept g c = record {
  files = c.answer_to_session.ensures.kept.files ∙ c.in-Ok.ensures.kept.files;
  few = omega (arith, c.answer_to_session.ensures.kept.few, c.in-Ok.ensures.kept.few);
  faults = omega (arith, c.answer_to_session.ensures.kept.faults, c.in-Ok.ensures.kept.faults);
}

pub returns-in-Err-clause-answer : goal.returns-in-Err-clause-answer
returns-in-Err-clause-answer g c =
    let source = g.S.Source in
    refused_replay c.args.start c.args.config.now c.args.session.now (FileCame (source.store c.args.store.now).files (source.log c.args.store.now) (source.log c.config_at.new.store))
    _ c.in-Err.answer c.in-Err.ensures.refused

pub returns-in-Err-clause-asked : goal.returns-in-Err-clause-asked
returns-in-Err-clause-asked g c = config_asked c.args.start _ _ _ _ _ c.in-Err.ensures.asked

pub returns-in-Err-clause-kept : goal.returns-in-Err-clause-kept
returns-in-Err-clause-kept g c = record {
  files = c.in-Err.ensures.kept.files;
  few = omega (arith, c.in-Err.ensures.kept.few);
  faults = c.in-Err.ensures.kept.faults;
}
