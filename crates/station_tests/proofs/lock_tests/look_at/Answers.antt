-- A pass that left its seat is one of the same lock, for the same caller.
use Rattle.std.proofs.Common.{◌∙◌, ap, sym, subst}
use Rattle.turn_log.specs.Lock.{HasShape}
use Rattle.mount_ring.specs.declared.shape.RingShape.{RingShape}
use Rattle.station_tests.proofs.lock_tests.look_at.Goals as goal

pub returns : goal.returns
returns g c =
    let same = c.turn-looked.ensures.same in
    record {
      here = (
        c.leave.ensures.home ∙ same.4 ∙ c.seat-seat.ensures.home,
        subst (λ (s : RingShape). HasShape c.leave.result s) (same.0 ∙ c.seat-seat.ensures.shape)
            c.leave.ensures.shape,
      );
      number = sym (c.leave.ensures.number c.args.me) ∙ ap (λ speaks. speaks c.args.me) same.1
          ∙ c.seat-seat.ensures.speaks c.args.me ∙ c.requires.me;
    }
