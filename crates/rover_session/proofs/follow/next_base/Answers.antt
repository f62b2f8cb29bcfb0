use Rattle.std.proofs.Common.{◌∙◌}
use Rattle.rover_session.proofs.BaseLemmas.{none_changes, some_changes, some_within}
use Rattle.rover_session.proofs.follow.next_base.Goals as goal

pub returns-in-Some-clause-choice : goal.returns-in-Some-clause-choice
returns-in-Some-clause-choice c =
    c.unless_present.ensures
    ∙ some_changes c.args.h c.in-Some.mount c.args.present c.args.rover c.args.held.now c.in-Some.ensures.some

pub returns-in-None-clause-choice : goal.returns-in-None-clause-choice
returns-in-None-clause-choice c =
    none_changes c.args.h c.args.present c.args.rover c.args.held.now c.in-None.ensures.none

pub returns-in-Some-clause-within : goal.returns-in-Some-clause-within
returns-in-Some-clause-within c =
    some_within c.args.h c.in-Some.mount c.args.present c.unless_present.result c.args.rover c.args.held.now
    c.unless_present.ensures c.in-Some.ensures.some
