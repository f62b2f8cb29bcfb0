use Rattle.std.proofs.Common.{refl}
use Rattle.caster_record.specs.Recording.{events_in}
use Rattle.caster_record.proofs.recorder.Recorder.break_if_torn.Goals as goal

pub play-requires-clause-next : goal.play-requires-clause-next
play-requires-clause-next c = record {
  own = tt;
  fits = c.requires.number;
  follows = c.if-going.ensures.speaks c.args.config.now (events_in c.args.self.now) c.requires.records.stands refl;
}
