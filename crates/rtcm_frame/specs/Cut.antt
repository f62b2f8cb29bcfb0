-- How a byte stream is cut into frames, always from the front.
use Rattle.std.specs.Prelude.{ℕ, zero, suc, ◌+◌, ◌-◌, Bool, true, false, ◌&&◌, ◌==◌, nat_lt, List, [], ◌∷◌, ◌++◌, length, take, IsTrue}
use Rattle.rtcm_frame.specs.Transport.{preamble, frame_length, is_frame}

-- the frames of a stream in order, the count of its junk bytes, and the bytes at its end that wait
-- for more
pub record Parts : Type 0 where
  pub frames : List (List ℕ)
  pub junk : ℕ
  pub rest : List ℕ

-- the bytes begin with a whole frame
abbrev pub begins_with_frame : List ℕ → Bool
begins_with_frame bytes = is_frame (take (frame_length bytes) bytes)

-- nothing has come, or the bytes begin with the preamble and are shorter than they claim.
-- With fewer than three bytes the claim is at least 6, so these wait too
abbrev pub is_unfinished : List ℕ → Bool
is_unfinished [] = true
is_unfinished (x ∷ t) = (x == preamble) && nat_lt (length (x ∷ t)) (frame_length (x ∷ t))

-- what may wait for more bytes: nothing, or a frame that is not finished
abbrev pub IsWaiting : List ℕ → Type 0
IsWaiting bytes = IsTrue (is_unfinished bytes)

-- no frame and no junk
abbrev pub only_rest : List ℕ → Parts
only_rest bytes = record { frames = []; junk = 0; rest = bytes }

-- a frame, and then these parts
abbrev pub with_frame : List ℕ → Parts → Parts
with_frame frame p = record { frames = frame ∷ p.frames; junk = p.junk; rest = p.rest }

-- a junk byte, and then these parts
abbrev pub with_junk : Parts → Parts
with_junk p = record { frames = p.frames; junk = p.junk + 1; rest = p.rest }

-- the cut of what stands behind this many bytes. A whole frame in front is cut off; an unfinished
-- one waits; else the first byte is junk
unfoldable pub cut_after : ℕ → List ℕ → Parts
cut_after skipped [] = only_rest []
cut_after (suc skipped) (x ∷ t) = cut_after skipped t
cut_after zero (x ∷ t) = elim (begins_with_frame (x ∷ t)) [
  | true ↦
      let count = frame_length (x ∷ t) in
      with_frame (take count (x ∷ t)) (cut_after (count - 1) t)
  | false ↦ elim (is_unfinished (x ∷ t)) [
    | true ↦ only_rest (x ∷ t)
    | false ↦ with_junk (cut_after 0 t)
  ]
]

-- the frames, the junk and the rest of a stream
unfoldable pub cut : List ℕ → Parts
cut bytes = cut_after 0 bytes

-- one stream's parts and then another's: all frames, all junk, and the rest of the second
abbrev pub followed_by : Parts → Parts → Parts
followed_by p q = record { frames = p.frames ++ q.frames; junk = p.junk + q.junk; rest = q.rest }
