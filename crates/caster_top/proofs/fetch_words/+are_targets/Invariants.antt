-- each call has five words fewer
use Rattle.std.proofs.Common.{length}
use Rattle.caster_top.proofs.fetch_words.+are_targets.Given as goal

abbrev pub decreases-are_targets : goal.decreases-are_targets
decreases-are_targets l = length l.words.now
