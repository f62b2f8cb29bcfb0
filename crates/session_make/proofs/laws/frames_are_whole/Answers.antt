use Rattle.session_make.proofs.FrameLemmas.{frame_is_whole, frame_within, frame_has_number, numbers_within}
use Rattle.session_make.proofs.laws.frames_are_whole.Goals as goal

pub returns-clause-valid : goal.returns-clause-valid
returns-clause-valid c = frame_is_whole

pub returns-clause-least : goal.returns-clause-least
returns-clause-least c = λ state. (frame_within state).0

pub returns-clause-most : goal.returns-clause-most
returns-clause-most c = λ state. (frame_within state).1

pub returns-clause-number : goal.returns-clause-number
returns-clause-number c = frame_has_number

pub returns-clause-range : goal.returns-clause-range
returns-clause-range c = numbers_within
