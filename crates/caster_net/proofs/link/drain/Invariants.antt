-- Each read that is not the last takes a byte or more of those that are left.
use Rattle.std.proofs.Common.{◌≤◌}
use Rattle.caster_net.proofs.link.drain.Given as goal

abbrev pub invariant-loop-left : goal.invariant-loop-left
invariant-loop-left l = l.left ≤ 65536

abbrev pub decreases-loop-left : goal.decreases-loop-left
decreases-loop-left l = l.left
