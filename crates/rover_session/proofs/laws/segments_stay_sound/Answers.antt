use Rattle.rover_session.proofs.SegmentLemmas.{was_resumable, all_sound}
use Rattle.rover_session.proofs.laws.segments_stay_sound.Goals as goal

pub returns-clause-resumes : goal.returns-clause-resumes
returns-clause-resumes c = was_resumable

pub returns-clause-sound : goal.returns-clause-sound
returns-clause-sound c = all_sound
