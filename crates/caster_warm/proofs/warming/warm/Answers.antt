use Rattle.caster_warm.proofs.warming.warm.Goals as goal

pub report_of-requires-clause-run : goal.report_of-requires-clause-run
report_of-requires-clause-run c = (c.args.events.now, c.requires.script.1, c.in_ok-run.ensures.stands)

pub returns : goal.returns
returns c =
    c.report_of.ensures c.args.events.now c.requires.script.1 c.in_ok-run.ensures.stands c.in_ok-run.ensures.sent
