-- So many gates are in the list, all of them new and made for this, and there is room for the rest.
use Rattle.std.proofs.Common.{◌≡◌, ◌≤◌, length, vec_capacity}
use Rattle.std.specs.List.{All}
use Rattle.cast_io.specs.declared.yard_asked.YardAsked.TheVariants as asked
use Rattle.caster_net.specs.Gates.{new_gate}
use Rattle.caster_net.proofs.yard.open_all.Given as goal

abbrev pub invariant-loop : goal.invariant-loop
invariant-loop l = record {
  count : length l.opened.items ≡ l.counter;
  room : l.gates ≤ vec_capacity l.opened;
  each : All (λ gate. gate ≡ new_gate (asked.OpenGates l.addr l.gates l.quiet)) l.opened.items;
}
