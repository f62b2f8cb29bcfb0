use Rattle.std.proofs.Common.{◌∙◌, sym}
use Rattle.std.proofs.lemmas.Result.{on_ok_weaker}
use Rattle.caster_replay.proofs.PlayLemmas.{settled_closed, settled_same}
use Rattle.caster_replay.proofs.run_connection.RunConnection.settle.Goals as goal

pub returns-then-has_ended-clause-settled : goal.returns-then-has_ended-clause-settled
returns-then-has_ended-clause-settled g c = λ config places.
    on_ok_weaker c.close.result (λ closed.
    settled_closed config c.args.desks.now.seen c.close.new.desks.seen c.args.self.now.state c.close.new.self.state
    (sym c.has_ended.ensures ∙ c.if-has_ended.true) closed) (c.close.ensures.closed config places)

pub returns-else-has_ended-clause-settled : goal.returns-else-has_ended-clause-settled
returns-else-has_ended-clause-settled g c = λ config places.
    settled_same config c.args.desks.now.seen c.args.self.now.state (sym c.has_ended.ensures ∙ c.if-has_ended.false)
