use Rattle.std.proofs.Common.{◌∙◌}
use Rattle.caster_replay.specs.Lives.{lives_in}
use Rattle.caster_replay.proofs.SendsLemmas.{told_sends}
use Rattle.caster_replay.proofs.run.Run.parts.Goals as goal

pub returns-clause-report : goal.returns-clause-report
returns-clause-report g c = λ script short stands.
    c.in_ok-closed.ensures.report script short stands.stands c.in-Ok.connections.items
    c.in-Ok.ensures

pub returns-clause-sent : goal.returns-clause-sent
returns-clause-sent g c = λ n.
    told_sends n (lives_in c.close_down-ended.new.entries.items) c.in-Ok.connections.items
    c.in-Ok.ensures
    ∙ c.in_ok-closed.ensures.silent n
