-- How a stream is seen to be cut right, in words that do not follow the cut's own steps.
use Rattle.std.specs.Prelude.{◌≡◌, ℕ, ◌+◌, ◌<◌, ◌⊎◌, List, [], ◌∷◌, ◌++◌, length, slice_index}
use Rattle.std.specs.Prelude.{IsTrue}
use Rattle.rtcm_frame.specs.Transport.{preamble, frame_length, is_frame}

-- a frame has begun and not all of it has come: the preamble stands in front, and the three bytes
-- of the header or the whole length that it claims are not there yet
abbrev pub IsUnfinishedFrame : List ℕ → Type 0
IsUnfinishedFrame bytes =
    (slice_index bytes 0 ≡ preamble) × ((length bytes < 3) ⊎ (length bytes < frame_length bytes))

-- no whole frame stands in front, whatever follows it
abbrev pub HasNoFrameInFront : List ℕ → Type 0
HasNoFrameInFront bytes =
    (frame behind : List ℕ) → IsTrue (is_frame frame) → bytes ≡ frame ++ behind → ⊥

-- read from the front, a stream is these frames in this order, with so many junk bytes before,
-- between and behind them, and then the rest
pub data StandIn : List (List ℕ) → ℕ → List ℕ → List ℕ → Type 0 where
  at_rest : (rest : List ℕ) → StandIn [] 0 rest rest
  at_frame : (frame : List ℕ) (frames : List (List ℕ)) (junk : ℕ) (rest bytes : List ℕ)
      → StandIn frames junk rest bytes → StandIn (frame ∷ frames) junk rest (frame ++ bytes)
  at_junk : (x : ℕ) (frames : List (List ℕ)) (junk : ℕ) (rest bytes : List ℕ)
      → StandIn frames junk rest bytes → StandIn frames (junk + 1) rest (x ∷ bytes)
