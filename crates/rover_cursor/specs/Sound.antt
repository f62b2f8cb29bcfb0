-- What a segment owes to the frames that were published at its mountpoint: those sent and those
-- counted as overrun are together the permitted frames from where it began to where its last read
-- ended, each once.
use Rattle.std.specs.Prelude.{ℕ, ◌+◌, ◌<◌, ◌≤◌, ◌≡◌, Bool, List, [], ◌∷◌, ◌++◌, length, take}
use Rattle.std.specs.List.{filter, count_by, sum_by}
use Rattle.mount_ring.specs.declared.Lap.{Lap}
pub use Rattle.mount_ring.specs.Places.{between}
use Rattle.rover_cursor.specs.declared.segment.Segment.{Segment}

-- the frames from one place to another that lie in none of these laps
abbrev pub outside : ℕ → List Lap → ℕ → List (List ℕ) → List (List ℕ)
outside from [] to published = between from to published
outside from (lap ∷ laps) to published =
    between from lap.from published ++ outside lap.to laps to published

-- the frames that a segment was sent: the permitted ones that lie in no lap
abbrev pub kept : (List ℕ → Bool) → List (List ℕ) → Segment → List (List ℕ)
kept permits published segment =
    filter permits (outside segment.from segment.laps segment.to published)

-- the laps lie between two places, in increasing order, none empty, none over another. Each ends at
-- the oldest frame that a ring of this capacity kept when `published` frames were there, and counts
-- the permitted frames in it
abbrev pub LapsBetween : (List ℕ → Bool) → ℕ → List (List ℕ) → ℕ → List Lap → ℕ → Type 0
LapsBetween permits capacity published from [] to = from ≤ to
LapsBetween permits capacity published from (lap ∷ laps) to =
    (from ≤ lap.from)
    × (lap.from < lap.to)
    × (lap.to + capacity ≡ lap.published)
    × (lap.published ≤ length published)
    × (lap.overrun ≡ count_by permits (between lap.from lap.to published))
    × LapsBetween permits capacity published lap.to laps to

-- what holds of a segment at a ring of this capacity where these frames were published, and goes on
-- to hold when more are
pub record IsSound (permits : List ℕ → Bool) (capacity : ℕ) (published : List (List ℕ))
    (segment : Segment) : Type 0 where
  pub within : segment.to ≤ length published
  pub laps : LapsBetween permits capacity published segment.from segment.laps segment.to
  pub sent : segment.sent ≡ length (kept permits published segment)
  pub overrun : segment.overrun ≡ sum_by (λ (lap : Lap). lap.overrun) segment.laps
  pub next : segment.cursor.next ≡ segment.to
  pub passed : segment.cursor.passed ≡ count_by permits (take segment.to published)
