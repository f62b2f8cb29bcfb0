-- What a read of a mountpoint's ring answers, as a function of all frames that were ever published
-- there. Published frames are numbered from 0 by their place in that list, which is never cut. A
-- frame is its list of bytes. `permits` is the test of the reader's filter.
use Rattle.std.specs.Prelude.{ℕ, zero, suc, ◌+◌, ◌-◌, min, max, nat_lt, Bool, cond, true, if◌then◌else◌, List, [], ◌∷◌, length, take, drop, Option, None, Some}
use Rattle.std.specs.List.{filter, count_by}
use Rattle.mount_ring.specs.declared.cursor.Cursor.{Cursor}
use Rattle.mount_ring.specs.declared.cursor.Lap.{Lap}
use Rattle.mount_ring.specs.declared.cursor.ReadReport.{ReadReport}

-- the test of the filter that permits every frame
abbrev pub every_frame : List ℕ → Bool
every_frame frame = true

-- the most frames that one read takes, whatever its budget
abbrev pub most_taken : ℕ
most_taken = 16

-- the place of the oldest frame that a ring of this capacity still keeps
abbrev pub oldest : ℕ → List (List ℕ) → ℕ
oldest capacity published = length published - capacity

-- where a read begins: at the cursor, or at the oldest kept frame where the cursor was lapped
abbrev pub read_start : ℕ → List (List ℕ) → Cursor → ℕ
read_start capacity published cursor = max cursor.next (oldest capacity published)

-- how many frames a read looks at: up to the one that fills its budget, else all of them
abbrev pub looked : (List ℕ → Bool) → ℕ → List (List ℕ) → ℕ
looked permits zero frames = 0
looked permits (suc budget) [] = 0
looked permits (suc budget) (frame ∷ frames) =
    suc (looked permits (cond (permits frame) budget (suc budget)) frames)

-- where a read ends: just after the frame that filled the budget, or at the number of published
-- frames
abbrev pub read_end : (List ℕ → Bool) → ℕ → List (List ℕ) → Cursor → ℕ → ℕ
read_end permits capacity published cursor budget =
    read_start capacity published cursor
    + looked permits (min budget most_taken) (drop (read_start capacity published cursor) published)

-- the frames that a read takes: the first permitted ones from where it begins, as many as the
-- budget allows
abbrev pub read_frames : (List ℕ → Bool) → ℕ → List (List ℕ) → Cursor → ℕ → List (List ℕ)
read_frames permits capacity published cursor budget =
    take (min budget most_taken)
    (filter permits (drop (read_start capacity published cursor) published))

-- the lap of a cursor that stood before the oldest kept frame: from its place to that frame's, with
-- the number of frames published by then, and the permitted ones among those that were overwritten
abbrev pub read_lap : (List ℕ → Bool) → ℕ → List (List ℕ) → Cursor → Option Lap
read_lap permits capacity published cursor =
    if nat_lt cursor.next (oldest capacity published)
    then Some (record {
      from = cursor.next;
      to = oldest capacity published;
      published = length published;
      overrun = count_by permits
          (take (oldest capacity published - cursor.next) (drop cursor.next published));
    })
    else None

-- all that a read answers
abbrev pub read_report : (List ℕ → Bool) → ℕ → List (List ℕ) → Cursor → ℕ → ReadReport
read_report permits capacity published cursor budget = record {
  cursor = record {
    next = read_end permits capacity published cursor budget;
    passed = count_by permits (take (read_end permits capacity published cursor budget) published);
    filter = cursor.filter;
  };
  lapped = read_lap permits capacity published cursor;
  taken = length (read_frames permits capacity published cursor budget);
}
