use Rattle.chunk_body.proofs.ChunkLemmas.{frame_fits, frames_open, frames_plain, frames_whole}
use Rattle.chunk_body.proofs.laws.frames_in_chunks.Goals as goal

pub returns-clause-room : goal.returns-clause-room
returns-clause-room c = frame_fits

pub returns-clause-goes_on : goal.returns-clause-goes_on
returns-clause-goes_on c = frames_open

pub returns-clause-plain : goal.returns-clause-plain
returns-clause-plain c = frames_plain

pub returns-clause-whole : goal.returns-clause-whole
returns-clause-whole c = frames_whole
