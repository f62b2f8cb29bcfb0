use Rattle.std.proofs.Common.{[]}
use Rattle.session_model.specs.Judged.{sends_head}
use Rattle.session_core_tests.proofs.FollowLemmas.{follows_first}
use Rattle.session_core_tests.proofs.starting.start_head.Goals as goal

pub returns-clause-follows : goal.returns-clause-follows
returns-clause-follows c = λ config now.
    follows_first config c.in_ok-session.session now sends_head [] [] (c.in_ok-session.ensures.stands config now)
