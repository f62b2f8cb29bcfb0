use Rattle.caster_record.specs.Recording.{events_in}
use Rattle.caster_record.proofs.EndLemmas.{short_enough}
use Rattle.caster_record.proofs.recording.finish_run.Goals as goal

pub finish-requires-clause-run : goal.finish-requires-clause-run
finish-requires-clause-run c = (
  events_in c.args.recorder,
  short_enough c.args.config.now c.args.recorder c.requires.records c.requires.bound,
  c.requires.records.stands,
)

pub returns-clause-report : goal.returns-clause-report
returns-clause-report c =
    c.in_ok-report.ensures.report (events_in c.args.recorder)
    (short_enough c.args.config.now c.args.recorder c.requires.records c.requires.bound) c.requires.records.stands
