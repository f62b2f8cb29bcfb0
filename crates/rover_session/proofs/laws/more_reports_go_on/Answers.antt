use Rattle.rover_session.proofs.FollowLemmas.{reports_more, rover_begins, rover_left}
use Rattle.rover_session.proofs.laws.more_reports_go_on.Goals as goal

pub returns-clause-reports : goal.returns-clause-reports
returns-clause-reports c = reports_more

pub returns-clause-begins : goal.returns-clause-begins
returns-clause-begins c = rover_begins

pub returns-clause-left : goal.returns-clause-left
returns-clause-left c = rover_left
