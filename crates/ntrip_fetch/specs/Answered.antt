-- What the bytes that a caster answered hold for a rover. Their head is judged as NTRIP 1.0 (RTCM
-- 10410.0) and NTRIP 2.0 (RTCM 10410.1) have it; the body behind it is plain, or in the chunked
-- transfer coding (RFC 9112, section 7.1), and is cut into frames of RTCM 10403.3.
use Rattle.std.specs.Prelude.{◌<◌, ℕ, ⊤, true, false, List, [], length, drop}
use Rattle.chunk_body.specs.Text.{IsOpen, HasEnded, IsBadAt}
use Rattle.source_session.specs.Body.{frames_of}
use Rattle.ntrip_client.specs.declared.answer.Answer.{Answer}
use Rattle.ntrip_client.specs.declared.answer.Answer.TheVariants.{Open, Accepted, Refused}
use Rattle.ntrip_client.specs.Answer.{IsAnswer}

-- the frames of the body, where one follows; `answer` is what the bytes say by their head
abbrev pub answered : Answer → List ℕ → List (List ℕ)
answered Open bytes = []
answered (Accepted at chunked) bytes = frames_of chunked (drop at bytes)
answered (Refused why) bytes = []

-- the chunked body has ended
abbrev pub IsDone : Answer → List ℕ → Type 0
IsDone Open bytes = ⊥
IsDone (Accepted at false) bytes = ⊥
IsDone (Accepted at true) bytes = HasEnded (drop at bytes)
IsDone (Refused why) bytes = ⊥

-- the byte at this place of the body, from 0, is the fault of its chunked coding
abbrev pub IsFaulty : Answer → List ℕ → ℕ → Type 0
IsFaulty Open bytes place = ⊥
IsFaulty (Accepted at false) bytes place = ⊥
IsFaulty (Accepted at true) bytes place = IsBadAt (drop at bytes) place
IsFaulty (Refused why) bytes place = ⊥

-- more frames may follow: the head goes on, or the body does
abbrev pub MayFollow : Answer → List ℕ → Type 0
MayFollow Open bytes = ⊤
MayFollow (Accepted at false) bytes = ⊤
MayFollow (Accepted at true) bytes = IsOpen (drop at bytes)
MayFollow (Refused why) bytes = ⊥

-- these bytes hold fewer frames than are wanted, and more may follow
pub record IsWanting (most : ℕ) (bytes : List ℕ) : Type 0 where
  pub answer : Answer
  pub says : IsAnswer bytes answer
  pub follows : MayFollow answer bytes
  pub fewer : length (answered answer bytes) < most
