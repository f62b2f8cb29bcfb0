use Rattle.std.proofs.Common.{◌∙◌, sym}
use Rattle.session_model.specs.Run.{after_events}
use Rattle.caster_record.specs.Recording.{events_in}
use Rattle.caster_record.proofs.StepLemmas.{none_behind}
use Rattle.caster_record.proofs.recorder.Recorder.is_behind.Goals as goal

pub returns-else-goes_on-clause-behind : goal.returns-else-goes_on-clause-behind
returns-else-goes_on-clause-behind c headings are =
    let config = c.args.config.now in
    let script = events_in c.args.self.now in
    c.if-goes_on.false
    ∙ sym (none_behind config headings (after_events config headings script) c.args.number
    (sym (c.goes_on.ensures.goes_on config script c.requires.records.stands headings are) ∙ c.if-goes_on.false))

pub returns-then-goes_on-clause-speaks : goal.returns-then-goes_on-clause-speaks
returns-then-goes_on-clause-speaks c =
    λ is. c.goes_on.ensures.speaks c.args.config.now (events_in c.args.self.now) c.requires.records.stands
    c.if-goes_on.true
