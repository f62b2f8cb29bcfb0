use Rattle.std.proofs.Common.{length, ap, arith, length-append}
use Rattle.std.proofs.lemmas.Result.{on_ok_weaker}
use Rattle.chunk_body.specs.Written.{chunk_of}
use Rattle.chunk_body.proofs.ChunkLemmas.{chunk_fits}
use Rattle.rover_session.proofs.body.push_frame.Goals as goal

pub returns-in-Two-clause-len : goal.returns-in-Two-clause-len
returns-in-Two-clause-len c =
    on_ok_weaker c.chunk.result (λ written.
    omega (
      arith,
      ap length written,
      length-append c.args.out.now.items (chunk_of c.args.frame.now),
      chunk_fits c.args.frame.now c.bytes-bytes.ensures.most,
      c.chunk.new.out.ok,
      c.args.out.now.ok,
    )) c.chunk.ensures.ok
