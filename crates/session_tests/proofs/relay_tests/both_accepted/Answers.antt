use Rattle.std.proofs.Common.{[], arith}
use Rattle.session_tests.proofs.relay_tests.both_accepted.Goals as goal

pub feed-given-requires-clause-few : goal.feed-given-requires-clause-few
feed-given-requires-clause-few c = (0, [], [], c.in_ok-first.ensures.stands 0, omega arith)

pub feed-taken-requires-clause-few : goal.feed-taken-requires-clause-few
feed-taken-requires-clause-few c = (0, [], [], c.in_ok-second.ensures.stands 0, omega arith)
