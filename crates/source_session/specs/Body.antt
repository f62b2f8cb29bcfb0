-- What a source sends: a body, as it is or in the chunked transfer coding (RFC 9112, section 7.1).
-- The bytes that it carries are cut into frames of RTCM 10403.3's transport layer, and these are
-- what the source publishes.
use Rattle.std.specs.Prelude.{ℕ, Bool, true, false, List, ◌++◌, length, drop}
use Rattle.rtcm_frame.specs.Cut.{cut}
use Rattle.chunk_body.specs.Answer.{plain_of}

-- the bytes that a body carries: all of its own, or the data of its chunks so far
abbrev pub payload : (chunked : Bool) → List ℕ → List ℕ
payload false body = body
payload true body = plain_of body

-- the whole frames that a body holds so far, in order
abbrev pub frames_of : (chunked : Bool) → List ℕ → List (List ℕ)
frames_of chunked body = (cut (payload chunked body)).frames

-- the frames that more of the body completes: those of the longer body behind those of the shorter
abbrev pub completed : (chunked : Bool) → List ℕ → List ℕ → List (List ℕ)
completed chunked before more =
    drop (length (frames_of chunked before)) (frames_of chunked (before ++ more))
