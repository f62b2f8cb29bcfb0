use Rattle.turn_log.specs.Desks.{desk_seen}
use Rattle.mount_ring.proofs.RoundLemmas.{IsHeld, MayRead, round_published}
use Rattle.mount_ring.specs.Kept.{ring_shape}
use Rattle.bench_cut.proofs.mountpoint.Mountpoint.publish.Goals as goal

pub invariant_of-self : goal.invariant_of-self
invariant_of-self c =
    let old = c.args.self.now in
    let new = c.turn.new.self in
    let both : IsHeld (desk_seen new) × MayRead (ring_shape new.value) (desk_seen new) old.cursor =
    round_published (ring_shape old.desk.value) (ring_shape new.value) (desk_seen old.desk) (desk_seen new)
    c.args.frame old.cursor c.turn.result old.out c.turn.new.room c.turn.ensures.shape c.turn.ensures.ok
    c.turn.ensures.err
    old.held old.joined
    in
    record { held = both.0; joined = both.1 }
