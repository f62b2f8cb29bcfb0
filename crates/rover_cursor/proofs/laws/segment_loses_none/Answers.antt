use Rattle.rover_cursor.proofs.SoundLemmas.{LapsBetween-le, sound_counts}
use Rattle.rover_cursor.proofs.laws.segment_loses_none.Goals as goal

pub returns-clause-counted : goal.returns-clause-counted
returns-clause-counted c = sound_counts

pub returns-clause-ordered : goal.returns-clause-ordered
returns-clause-ordered c = λ permits capacity published segment sound.
    (LapsBetween-le _ _ _ _ _ _ sound.laps, sound.within)
