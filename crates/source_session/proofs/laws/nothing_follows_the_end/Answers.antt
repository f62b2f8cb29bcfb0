use Rattle.std.proofs.Common.{true}
use Rattle.source_session.proofs.BodyLemmas.{completed_none, plain_ended, plain_bad}
use Rattle.source_session.proofs.laws.nothing_follows_the_end.Goals as goal

pub returns-clause-ended : goal.returns-clause-ended
returns-clause-ended c = λ body more ended. completed_none true body more (plain_ended body more ended)

pub returns-clause-bad : goal.returns-clause-bad
returns-clause-bad c = λ body more place bad. completed_none true body more (plain_bad body more place bad)
