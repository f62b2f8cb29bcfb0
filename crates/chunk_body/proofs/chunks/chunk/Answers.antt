-- The room that was reserved suffices for the chunk.
use Rattle.std.proofs.Common.{◌+◌, ◌≤◌, length, vec_len, IsOk, not, ap, ◌∙◌, sym, arith}
use Rattle.std.proofs.lemmas.Bool.{true≢false}
use Rattle.std.specs.Vec.{vec_capacity}
use Rattle.chunk_body.specs.Written.{chunk_of}
use Rattle.chunk_body.proofs.ChunkLemmas.{chunk_fits}
use Rattle.chunk_body.proofs.chunks.chunk.Goals as goal

pub unreachable-requires : goal.unreachable-requires
unreachable-requires c =
    let bytes = c.bytes-bytes.result.now in
    let few : length bytes ≤ 1029 =
    omega (arith, ap length c.bytes-bytes.ensures.value, c.bytes-bytes.ensures.most)
    in
    let fits : vec_len c.reserve.new.self + length (chunk_of bytes) ≤ vec_capacity c.reserve.new.self =
    omega (arith, c.in_ok-reserve.ensures.ok, chunk_fits bytes few)
    in
    let appended : IsOk c.append.result = c.append.ensures.room fits in
    true≢false (sym appended ∙ c.is_err.ensures.negation ∙ ap not c.if-is_err.true)
