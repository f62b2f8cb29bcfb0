-- So many doors are in the list, all of them new, and there is room for the rest.
use Rattle.std.proofs.Common.{◌≡◌, ◌≤◌, length, vec_capacity}
use Rattle.std.specs.List.{All}
use Rattle.caster_net.specs.Told.{new_door}
use Rattle.caster_net.proofs.street.open_all.Given as goal

abbrev pub invariant-loop : goal.invariant-loop
invariant-loop l = record {
  count : length l.opened.items ≡ l.counter;
  room : l.doors ≤ vec_capacity l.opened;
  each : All (λ door. door ≡ new_door) l.opened.items;
}
