-- A pass that left its seat, or met a note, is one of the same lock.
use Rattle.std.proofs.Common.{◌∙◌, subst}
use Rattle.turn_log.specs.Lock.{HasShape}
use Rattle.mount_ring.specs.declared.shape.RingShape.{RingShape}
use Rattle.ring_tests.proofs.ring_lock_tests.tell.Goals as goal

pub note-note-requires : goal.note-note-requires
note-note-requires g c =
    let same = c.read_own_back.ensures.same in (
      c.leave-first.ensures.home ∙ same.4 ∙ c.seat-seat.ensures.home,
      subst (λ (s : RingShape). HasShape c.leave-first.result s) (same.0 ∙ c.seat-seat.ensures.shape)
          c.leave-first.ensures.shape,
    )

pub seat-seat-requires-2-after_bounds : goal.seat-seat-requires-2-after_bounds
seat-seat-requires-2-after_bounds g c κs within =
    let same = c.meet.ensures.same in
    let is = c.requires.second.0 in
    (same.2 ∙ is.0, (is.1.0, same.3 ∙ is.1.1, is.1.2))
