use Rattle.std.proofs.Common.{None, option_to_list}
use Rattle.std.specs.Prelude.{reverse}
use Rattle.rover_session.specs.Made.{present_base}
use Rattle.rover_session.specs.Standing.{terms_of}
use Rattle.rover_session.proofs.FollowedLemmas.{followed_none, heeds_far, heeds_nothing}
use Rattle.rover_session.proofs.follow.heed.Goals as goal

pub returns-else-admitted-clause-followed : goal.returns-else-admitted-clause-followed
returns-else-admitted-clause-followed g c =
    followed_none _ _ _ c.args.admitted.now.me _ None (reverse c.args.segments.now.items)
    (heeds_far c.args.admitted.now.near (terms_of c.args.admitted.now)
    (present_base (reverse c.args.segments.now.items)) (option_to_list c.args.report) c.if-admitted.false)

pub returns-in-None-clause-followed : goal.returns-in-None-clause-followed
returns-in-None-clause-followed g c =
    followed_none _ _ _ c.args.admitted.now.me _ None (reverse c.args.segments.now.items)
    (heeds_nothing c.args.admitted.now.near (terms_of c.args.admitted.now)
    (present_base (reverse c.args.segments.now.items)) c.args.report c.in-None.is)
