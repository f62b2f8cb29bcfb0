-- Which frames a filter permits.
use Rattle.std.specs.Prelude.{ℕ, ◌==◌, Bool, true, false, List, Option, Some, None, count_by}
use Rattle.std.specs.List.{list_any}
use Rattle.rtcm_frame.specs.Transport.{number_of}

-- A filter as contracts see it: all frames, or those with a message number of this list.
pub data FilterValue : Type 0 where
  All : FilterValue
  Listed : List ℕ → FilterValue

-- there is a number, and the list holds it
abbrev pub is_listed : List ℕ → Option ℕ → Bool
is_listed numbers None = false
is_listed numbers (Some number) = list_any (λ listed. listed == number) numbers

-- All permits every frame; a list permits the frames whose message number it holds, and so
-- none without a number.
abbrev pub permits : FilterValue → List ℕ → Bool
permits All frame = true
permits (Listed numbers) frame = is_listed numbers (number_of frame)

-- how many of these frames are permitted
abbrev pub count : FilterValue → List (List ℕ) → ℕ
count filter frames = count_by (permits filter) frames
