-- each call has one target fewer
use Rattle.std.proofs.Common.{length}
use Rattle.ntrip_fetch.proofs.fetching.+fetch_from.Given as goal

abbrev pub decreases-fetch_from : goal.decreases-fetch_from
decreases-fetch_from g l = length l.targets.now
