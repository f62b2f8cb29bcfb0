use Rattle.std.proofs.Common.{[]}
use Rattle.session_model.specs.Judged.{relays}
use Rattle.session_model.specs.Replies.{opening_text}
use Rattle.session_core_tests.proofs.FollowLemmas.{follows_first}
use Rattle.session_core_tests.proofs.starting.start_relay.Goals as goal

pub returns-clause-follows : goal.returns-clause-follows
returns-clause-follows c = λ now.
    follows_first c.args.config.now c.in_ok-session.session now (relays 0) []
    (opening_text c.args.config.now (relays 0))
    (c.in_ok-session.ensures.stands now)
