-- Where a read begins, as a ring finds it from its counts alone.
use Rattle.std.specs.Prelude.{ℕ, ◌-◌, nat_lt, if◌then◌else◌, Option, None, Some}
use Rattle.mount_ring.specs.declared.cursor.Cursor.{Cursor}
use Rattle.mount_ring.specs.declared.cursor.Lap.{Lap}
use Rattle.mount_ring.specs.declared.reading.ReadStart.{ReadStart}

-- the lap to the oldest kept frame, before which so many permitted frames were dropped
abbrev pub lap_found : Cursor → ℕ → ℕ → ℕ → Option Lap
lap_found cursor dropped kept_from published =
    if nat_lt cursor.next kept_from
    then Some (record {
      from = cursor.next;
      to = kept_from;
      published = published;
      overrun = dropped - cursor.passed;
    })
    else None

-- the place, the permitted frames before it, and the lap
abbrev pub start_found : Cursor → ℕ → ℕ → ℕ → ReadStart
start_found cursor dropped kept_from published = record {
  place = if nat_lt cursor.next kept_from then kept_from else cursor.next;
  passed = if nat_lt cursor.next kept_from then dropped else cursor.passed;
  lapped = lap_found cursor dropped kept_from published;
}
