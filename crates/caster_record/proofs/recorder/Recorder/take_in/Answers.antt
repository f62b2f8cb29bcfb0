use Rattle.std.proofs.lemmas.Result.{on_ok_weaker}
use Rattle.caster_replay.specs.Kept.{lives_of}
use Rattle.caster_record.proofs.StepLemmas.{sends_none}
use Rattle.caster_record.proofs.recorder.Recorder.take_in.Goals as goal

pub returns-in-End-clause-sends : goal.returns-in-End-clause-sends
returns-in-End-clause-sends c =
    on_ok_weaker c.play-in-End.result
    (sends_none c.args.number (lives_of c.args.self.now.run) (lives_of c.play-in-End.new.self.run))
    c.play-in-End.ensures.sends

pub returns-in-Failed-clause-sends : goal.returns-in-Failed-clause-sends
returns-in-Failed-clause-sends c =
    on_ok_weaker c.play-in-Failed.result
    (sends_none c.args.number (lives_of c.args.self.now.run) (lives_of c.play-in-Failed.new.self.run))
    c.play-in-Failed.ensures.sends
