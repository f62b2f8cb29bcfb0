use Rattle.std.proofs.Common.{◌∙◌, List, sym, ap, subst}
use Rattle.session_model.specs.declared.report.Connection.{Connection}
use Rattle.session_model.specs.Reports.{IsReport}
use Rattle.caster_replay.specs.Sends.{told_sent}
use Rattle.caster_replay.proofs.run.Run.finish.Goals as goal

pub returns-clause-report : goal.returns-clause-report
returns-clause-report g c = λ script short stands.
    subst (λ (l : List Connection). IsReport c.args.config.now script
    (record { connections = l; closed = c.in_ok-connections.closed }))
    (sym c.new.ensures) (c.in_ok-connections.ensures.report script short stands)

pub returns-clause-sent : goal.returns-clause-sent
returns-clause-sent g c = λ n. ap (told_sent n) c.new.ensures ∙ c.in_ok-connections.ensures.sent n
