-- Nothing of a body came.
use Rattle.std.proofs.Common.{[], arith}
use Rattle.chunk_body.proofs.ChunkLemmas.{frames_open}
use Rattle.ntrip_fetch.proofs.body.chunk_reader.Goals as goal

pub returns-then-chunked-clause-begins : goal.returns-then-chunked-clause-begins
returns-then-chunked-clause-begins c = (c.new.ensures.read, frames_open [] (λ k d below. absurd (omega (arith, below))))
