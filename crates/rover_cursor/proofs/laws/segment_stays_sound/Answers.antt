use Rattle.std.proofs.Common.{refl}
use Rattle.rover_cursor.proofs.SoundLemmas.{IsSound-append, IsSound-begun, IsSound-read, sound_readable}
use Rattle.rover_cursor.proofs.laws.segment_stays_sound.Goals as goal

pub returns-clause-begun : goal.returns-clause-begun
returns-clause-begun c = λ shape state mount number. IsSound-begun _ _ _ mount _ refl refl

pub returns-clause-read : goal.returns-clause-read
returns-clause-read c = IsSound-read

pub returns-clause-later : goal.returns-clause-later
returns-clause-later c = IsSound-append

pub returns-clause-readable : goal.returns-clause-readable
returns-clause-readable c = sound_readable
