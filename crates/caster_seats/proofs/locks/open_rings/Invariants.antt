-- the locks of the first mountpoints are open
use Rattle.std.proofs.Common.{◌≡◌, map, take}
use Rattle.std.specs.List.{All}
use Rattle.mount_ring.specs.Kept.{ring_shape}
use Rattle.turn_log.specs.Lock.{turn_passes, turn_value}
use Rattle.session_model.specs.Setting.{shapes}
use Rattle.caster_places.specs.Piles.{AreMatched}
use Rattle.caster_seats.specs.Sharing.{AreDealt}
use Rattle.caster_seats.proofs.locks.open_rings.Given as goal

abbrev pub invariant-loop-mount : goal.invariant-loop-mount
invariant-loop-mount l = record {
  shapes_so_far : map (λ turn. ring_shape (turn_value turn)) l.rings.items ≡ take l.mount (shapes l.config);
  open_for : All (λ turn. turn_passes turn ≡ l.passes) l.rings.items;
  dealt : AreMatched (λ pile turn. AreDealt l.passes pile.items turn) l.piles.items l.rings.items;
}
