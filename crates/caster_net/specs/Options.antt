-- The values of options of sockets as the system reads them: of 16 bytes it takes the first.
use Rattle.std.specs.Prelude.{ℕ, ◌*◌, ◌/◌, ◌%◌, ◌++◌, List, replicate}
use Rattle.std.specs.Int.{w32, w64, to_le_bytes}

-- a number: four bytes, the lowest first
abbrev pub number_value : ℕ → List ℕ
number_value number = to_le_bytes w32 number ++ replicate 12 0

-- so many milliseconds: the seconds and the microseconds, of eight bytes each
abbrev pub time_value : ℕ → List ℕ
time_value millis = to_le_bytes w64 (millis / 1000) ++ to_le_bytes w64 (millis % 1000 * 1000)
