-- A place at a seat gives the seat back, and the seat its pass.
use Rattle.std.proofs.Common.{◌∙◌, ap, subst}
use Rattle.turn_log.specs.Lock.{HasShape, seat_home, seat_shape}
use Rattle.mount_ring.specs.declared.shape.RingShape.{RingShape}
use Rattle.station_tests.proofs.lock_tests.publish_at.Goals as goal

pub returns : goal.returns
returns g c =
    let same = c.publish_first.ensures.same in
    let placed = c.new-place.ensures.inner in (
      c.leave.ensures.home ∙ ap seat_home c.inner.ensures ∙ same.4 ∙ ap seat_home placed ∙ c.seat.ensures.home,
      subst (λ (s : RingShape). HasShape c.leave.result s)
          (ap seat_shape c.inner.ensures ∙ same.0 ∙ ap seat_shape placed ∙ c.seat.ensures.shape)
          c.leave.ensures.shape,
    )
