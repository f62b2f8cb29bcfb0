-- each call has five words fewer
use Rattle.std.proofs.Common.{length}
use Rattle.caster_top.proofs.fetching.+push_targets.Given as goal

abbrev pub decreases-push_targets : goal.decreases-push_targets
decreases-push_targets l = length l.words.now
