use Rattle.caster_record.specs.Recording.{events_in}
use Rattle.caster_record.proofs.recorder.Recorder.is_due.Goals as goal

pub returns-then-self-le-MAX_TAPE_BYTES-clause-speaks : goal.returns-then-self-le-MAX_TAPE_BYTES-clause-speaks
returns-then-self-le-MAX_TAPE_BYTES-clause-speaks c =
    c.goes_on.ensures.speaks c.args.config.now (events_in c.args.self.now) c.requires.records.stands
