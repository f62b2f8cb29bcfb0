-- The token looks for its ticket, again and again.
use Rattle.std.proofs.Common.{◌∙◌, ap, subst, arith}
use Rattle.turn_log.specs.LockSteps.{Took}
use Rattle.turn_log.proofs.LockSteps.{looks_allowed}
use Rattle.turn_log.proofs.lock.parts.Turn.wait.Goals as goal

pub load-serving-requires : goal.load-serving-requires
load-serving-requires g c =
    let key = c.args.self.now.table.shared.key in (
      c.loop.invariant.2 ∙ c.requires.here,
      omega (arith, c.args.self.now.sized.0),
      looks_allowed key.passes g.V.Played.stands g.V.Played.shape g.V.Played.fits (g.V.Played.shape key.value.value)
          _ _ c.args.ticket _ (ap (λ me. me.0.stage) c.loop.invariant.4 ∙ c.requires.waiting)
          (ap (λ me. me.1) c.loop.invariant.4 ∙ c.requires.empty),
    )

-- the ticket is served
pub returns-then-serving-ticket-clause-took : goal.returns-then-serving-ticket-clause-took
returns-then-serving-ticket-clause-took g c =
    let now = c.load-serving.new.seat.me in
    subst (λ me. Took g.V.Played.stands g.V.Played.shape g.V.Played.fits c.args.ticket me now) c.loop.invariant.4
    ((c.load-serving.ensures.2 c.args.ticket (ap (λ me. me.0.stage) c.loop.invariant.4 ∙ c.requires.waiting)).0
    c.if-serving-ticket.true)
