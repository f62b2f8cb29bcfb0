use Rattle.rover_cursor.proofs.ToldLemmas.{goes_resumes, one_segment, segment_fits, segment_stays}
use Rattle.rover_cursor.proofs.laws.segment_resumes.Goals as goal

pub returns-clause-stays : goal.returns-clause-stays
returns-clause-stays c = segment_stays

pub returns-clause-others : goal.returns-clause-others
returns-clause-others c = goes_resumes

pub returns-clause-fits : goal.returns-clause-fits
returns-clause-fits c = λ shape me h segment budget is. segment_fits shape me budget h segment is

pub returns-clause-one : goal.returns-clause-one
returns-clause-one c = one_segment
