-- Another seat is taken in, and then the longer history is seen.
use Rattle.std.proofs.Common.{◌∙◌, ap, subst, arith}
use Rattle.turn_log.specs.LockSteps.{settles}
use Rattle.turn_log.proofs.LockSteps.{settles_allowed}
use Rattle.turn_log.proofs.LockSeats.{meets}
use Rattle.turn_log.proofs.lock.parts.Turn.take_in.Goals as goal

pub join_seat-requires : goal.join_seat-requires
join_seat-requires g c =
    let key = c.args.self.now.table.shared.key in (
      c.requires.here.0,
      c.requires.here.1,
      c.requires.rests.2,
      omega (arith, c.args.self.now.sized.0),
      meets key.passes g.V.Played.stands g.V.Played.shape g.V.Played.fits (g.V.Played.shape key.value.value)
          _ _ _ _ c.requires.rests.0 c.requires.rests.1,
    )

pub load-requires : goal.load-requires
load-requires g c =
    let key = c.args.self.now.table.shared.key in (
      c.join_seat.ensures.0 ∙ c.requires.here.0,
      omega (arith, c.args.self.now.sized.0),
      settles_allowed key.passes g.V.Played.stands g.V.Played.shape g.V.Played.fits (g.V.Played.shape key.value.value)
          _ _ _ (ap (λ me. me.0.stage) c.join_seat.ensures.2 ∙ c.requires.rests.0),
    )

pub returns-clause-taken : goal.returns-clause-taken
returns-clause-taken g c =
    subst (λ me. settles g.V.Played.shape g.V.Played.fits me c.load.new.seat.me) c.join_seat.ensures.2 c.load.ensures.2
