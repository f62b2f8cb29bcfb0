-- How a fetch ends.
use Rattle.std.proofs.Common.{◌≤◌, length, List}
use Rattle.ntrip_fetch.specs.declared.target.Target.{Target}
use Rattle.caster_top.specs.Command.{texts}
use Rattle.caster_top.proofs.FetchingLemmas.{few_targets, made_so, nothing_fetched, stopped_later, tried_later}
use Rattle.caster_top.proofs.fetching.fetch_frames.Goals as goal

pub returns-in_default-clause-fetching : goal.returns-in_default-clause-fetching
returns-in_default-clause-fetching g c = nothing_fetched _ _ _ _ _

pub push_targets-requires : goal.push_targets-requires
push_targets-requires g c = (few_targets (texts c.args.words.now) c.requires.targets).0

pub fetch-requires-clause-some_target : goal.fetch-requires-clause-some_target
fetch-requires-clause-some_target g c =
    made_so (λ (l : List Target). 1 ≤ length l) c.deref.ensures.value c.in-Ok.ensures.ok c.new-targets.ensures.items
    (few_targets (texts c.args.words.now) c.requires.targets).1

pub fetch-requires-clause-few_targets : goal.fetch-requires-clause-few_targets
fetch-requires-clause-few_targets g c =
    made_so (λ (l : List Target). length l ≤ 8) c.deref.ensures.value c.in-Ok.ensures.ok c.new-targets.ensures.items
    (few_targets (texts c.args.words.now) c.requires.targets).2

pub returns-in-Ok-fetch-clause-street_faults : goal.returns-in-Ok-fetch-clause-street_faults
returns-in-Ok-fetch-clause-street_faults g c = tried_later c.in-Ok-fetch.ensures.tried

pub returns-in-Err-Sink-clause-street_faults : goal.returns-in-Err-Sink-clause-street_faults
returns-in-Err-Sink-clause-street_faults g c = stopped_later c.in-Err-Sink.ensures.stopped

pub returns-clause-street_faults : goal.returns-clause-street_faults
returns-clause-street_faults g c = stopped_later c.in-Err-Memory.ensures.stopped
