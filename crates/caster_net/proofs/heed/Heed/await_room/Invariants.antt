-- The stop and QUIET are heeded as before.
use Rattle.std.proofs.Common.{◌≡◌}
use Rattle.caster_net.proofs.heed.Heed.await_room.Given as goal

abbrev pub invariant-loop : goal.invariant-loop
invariant-loop l = l.self.keep ≡ l.fn.self.keep
