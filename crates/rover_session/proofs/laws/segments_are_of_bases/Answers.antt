use Rattle.rover_session.proofs.LawLemmas.{segments_count, joins_change, one_segment, far_joins}
use Rattle.rover_session.proofs.laws.segments_are_of_bases.Goals as goal

pub returns-clause-count : goal.returns-clause-count
returns-clause-count c = segments_count

pub returns-clause-changes : goal.returns-clause-changes
returns-clause-changes c = joins_change

pub returns-clause-stays : goal.returns-clause-stays
returns-clause-stays c = one_segment

pub returns-clause-far : goal.returns-clause-far
returns-clause-far c = far_joins
