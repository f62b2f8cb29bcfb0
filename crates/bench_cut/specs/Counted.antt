-- How many frames of a stream were given.
use Rattle.std.specs.Prelude.{◌≡◌, ℕ, ◌+◌, List, length}
use Rattle.rtcm_frame.specs.Pending.{Pending, Gave}

-- of all bytes pushed, this many frames were given
pub record GaveSoMany (all : List ℕ) (count : ℕ) (pending : Pending) : Type 0 where
  pub given : List (List ℕ)
  pub count_is : length given ≡ count
  pub gave : Gave given all pending

-- what the counts and the bytes that are not yet cut come to: no more than the bytes pushed
abbrev pub size : Pending → ℕ → ℕ
size pending count = pending.junk + length pending.bytes + count
