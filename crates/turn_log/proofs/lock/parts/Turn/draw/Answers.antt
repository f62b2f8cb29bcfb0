-- A ticket may be drawn where fewer than 2 ^ 62 were.
use Rattle.std.proofs.Common.{◌∙◌, ap, arith}
use Rattle.turn_log.proofs.LockSteps.{clears_allowed, draws_allowed}
use Rattle.turn_log.proofs.lock.parts.Turn.draw.Goals as goal

pub load-drawn-requires : goal.load-drawn-requires
load-drawn-requires g c =
    let key = c.args.self.now.table.shared.key in (
      c.requires.here,
      omega (arith, c.args.self.now.sized.0),
      clears_allowed key.passes g.V.Played.stands g.V.Played.shape g.V.Played.fits (g.V.Played.shape key.value.value)
          _ _ _ c.requires.idle c.requires.speaks,
    )

pub fetch_add-requires : goal.fetch_add-requires
fetch_add-requires g c =
    let key = c.args.self.now.table.shared.key in
    let cleared = c.load-drawn.ensures.2.0 (omega (arith, c.if-drawn-ge-MAX_TURNS.false)) in (
      c.load-drawn.ensures.0 ∙ c.requires.here,
      omega (arith, c.args.self.now.sized.0),
      draws_allowed key.passes g.V.Played.stands g.V.Played.shape g.V.Played.fits (g.V.Played.shape key.value.value)
          _ _ _ (ap (λ view. view.stage) cleared),
    )
