use Rattle.std.proofs.Common.{sym, subst}
use Rattle.std.specs.Prelude.{OnOk}
use Rattle.std.proofs.lemmas.Result.{on_ok_weaker}
use Rattle.caster_replay.specs.declared.run_connection.Act.{Act}
use Rattle.caster_replay.specs.RunConnections.{ActedAt}
use Rattle.caster_replay.proofs.run_connection.RunConnection.apply.Goals as goal

pub returns-in-Close-clause-acted : goal.returns-in-Close-clause-acted
returns-in-Close-clause-acted g c =
    subst (λ (a : Act). OnOk c.close.result (ActedAt c.args.config.now c.args.desks.now.seen c.close.new.desks.seen a
    c.args.self.now.state c.close.new.self.state c.args.self.now.bytes.items c.close.new.self.bytes.items))
    (sym c.in-Close.is)
    (on_ok_weaker c.close.result (λ closed. (closed, c.close.ensures.bytes))
    (c.close.ensures.closed c.args.config.now c.requires.places))
