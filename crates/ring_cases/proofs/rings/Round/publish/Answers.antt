use Rattle.turn_log.specs.Desks.{desk_seen}
use Rattle.mount_ring.proofs.RoundLemmas.{IsHeld, MayRead, round_published}
use Rattle.mount_ring.specs.Kept.{ring_shape}
use Rattle.ring_cases.proofs.rings.Round.publish.Goals as goal

pub invariant_of-self : goal.invariant_of-self
invariant_of-self c =
    let both : IsHeld (desk_seen c.turn.new.self)
    × MayRead (ring_shape c.turn.new.self.value) (desk_seen c.turn.new.self) c.args.self.now.cursor =
    round_published (ring_shape c.args.self.now.desk.value) (ring_shape c.turn.new.self.value)
    (desk_seen c.args.self.now.desk) (desk_seen c.turn.new.self)
    c.args.frame c.args.self.now.cursor c.turn.result c.args.self.now.out c.turn.new.room c.turn.ensures.shape
    c.turn.ensures.ok c.turn.ensures.err
    c.args.self.now.held c.args.self.now.joined in
    record { held = both.0; joined = both.1 }
