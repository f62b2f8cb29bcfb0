use Rattle.rover_cursor.proofs.CourseLemmas.{laps_ordered, sound_lap}
use Rattle.rover_cursor.proofs.laws.laps_are_overwritten.Goals as goal

pub returns-clause-within : goal.returns-clause-within
returns-clause-within c = λ permits capacity published segment sound k d below. (
  (sound_lap permits capacity published segment sound k d below).0,
  (sound_lap permits capacity published segment sound k d below).5,
)

pub returns-clause-not_empty : goal.returns-clause-not_empty
returns-clause-not_empty c = λ permits capacity published segment sound k d below.
    (sound_lap permits capacity published segment sound k d below).1

pub returns-clause-in_order : goal.returns-clause-in_order
returns-clause-in_order c = λ permits capacity published segment sound.
    laps_ordered permits capacity published segment.from segment.laps segment.to sound.laps

pub returns-clause-overwritten : goal.returns-clause-overwritten
returns-clause-overwritten c = λ permits capacity published segment sound k d below. (
  (sound_lap permits capacity published segment sound k d below).2,
  (sound_lap permits capacity published segment sound k d below).3,
)

pub returns-clause-overrun : goal.returns-clause-overrun
returns-clause-overrun c = λ permits capacity published segment sound k d below.
    (sound_lap permits capacity published segment sound k d below).4
