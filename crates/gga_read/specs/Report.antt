-- Which lines are reports of a position, and the reports of a stream of bytes.
use Rattle.std.specs.Prelude.{ℕ, ℤ, Bool, ◌&&◌, nat_le, ◌==◌, if◌then◌else◌, List, length, slice_index, filter_map, Option, Some, None}
use Rattle.cast_text.specs.Lines.{whole_lines}
use Rattle.gga_read.specs.declared.Position.{Position}
use Rattle.gga_read.specs.Angle.{latitude_of, longitude_of}
use Rattle.gga_read.specs.Sentence.{inner, is_framed, field, is_gga}

-- a kind of fix: one digit that is not 0
abbrev pub is_fix : List ℕ → Bool
is_fix text =
    (length text == 1) && nat_le 49 (slice_index text 0) && nat_le (slice_index text 0) 57

-- the position of two angles
abbrev pub position_of : Option ℤ → Option ℤ → Option Position
position_of None lon = None
position_of (Some lat) None = None
position_of (Some lat) (Some lon) = Some (record { lat = lat; lon = lon })

-- the position that the fields say: latitude in fields 2 and 3, longitude in fields 4 and 5
abbrev pub position_in : List ℕ → Option Position
position_in text =
    position_of (latitude_of (field 2 text) (field 3 text))
    (longitude_of (field 4 text) (field 5 text))

-- the position that the line reports: it is a GGA sentence with a fix in field 6, and with both
-- angles in range
unfoldable pub fix_of : List ℕ → Option Position
fix_of line =
    if is_framed line && is_gga (inner line) && is_fix (field 6 (inner line))
    then position_in (inner line)
    else None

-- the positions of all whole lines of these bytes that are reports
abbrev pub reports : List ℕ → List Position
reports bytes = filter_map fix_of (whole_lines 128 bytes)
