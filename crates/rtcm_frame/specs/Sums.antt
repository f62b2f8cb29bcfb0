-- Running checksums over a buffer. They may begin at any place with any value, so they are not hurt
-- by bytes that are passed over.
use Rattle.std.specs.Prelude.{◌≡◌, ℕ, ◌+◌, ◌^◌, ◌≤◌, ◌<◌, List, slice_index}
use Rattle.rtcm_frame.specs.Bytewise.{after_byte}

-- from one place to another each sum is the one before it with the buffer's byte there
pub record Chained (buffer sums : List ℕ) (start end : ℕ) : Type 0 where
  pub link : (k : ℕ) → start ≤ k → k < end
      → slice_index sums (k + 1) ≡ after_byte (slice_index sums k) (slice_index buffer k)

-- each is a register of 24 bits
abbrev pub AreSums : List ℕ → Type 0
AreSums sums = (k : ℕ) → slice_index sums k < 2 ^ 24
