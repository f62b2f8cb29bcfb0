use Rattle.caster_replay.proofs.replaying.replay.Goals as goal

pub finish-requires-clause-run : goal.finish-requires-clause-run
finish-requires-clause-run c = (c.args.events.now, c.requires.script.1, c.in_ok-run.ensures)

pub returns : goal.returns
returns c = c.finish.ensures.report c.args.events.now c.requires.script.1 c.in_ok-run.ensures
