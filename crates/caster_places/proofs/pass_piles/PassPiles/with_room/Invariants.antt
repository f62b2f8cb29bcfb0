-- the piles so far are empty and have the room
use Rattle.std.proofs.Common.{◌≡◌, ◌≤◌, [], vec_len, vec_capacity, All}
use Rattle.caster_places.specs.Piles.{HasRoom}
use Rattle.caster_places.proofs.pass_piles.PassPiles.with_room.Given as goal

abbrev pub invariant-loop : goal.invariant-loop
invariant-loop l = record {
  many : vec_len l.rings ≡ l.counter;
  wide : l.mounts ≤ vec_capacity l.rings;
  empty : All (λ pile. pile.items ≡ []) l.rings.items;
  room : All (HasRoom l.callers) l.rings.items;
}
