-- How a body is read, byte by byte.
use Rattle.std.specs.Prelude.{ℕ, ◌+◌, ◌-◌, ◌*◌, ◌^◌, Bool, true, false, not, ◌&&◌, ◌||◌, ◌==◌, nat_lt, nat_le, if◌then◌else◌, List}
use Rattle.std.specs.Char.{digit_value, is_digit}
use Rattle.std.specs.List.{fold}
use Rattle.chunk_body.specs.declared.phase.Phase.{Phase}
use Rattle.chunk_body.specs.declared.phase.Phase.TheVariants.{Digits, Extension, SizeLf, Data, DataCr, DataLf, TrailerStart, Trailer, TrailerLf, LastLf, Ended, Broken}

-- the next phase where the byte is the one that must come here
unfoldable pub expected : ℕ → ℕ → Phase → Phase
expected wanted byte next = if byte == wanted then next else Broken

-- a digit, where fewer than 6 have come; behind one digit or more `;` (59), or CR
unfoldable pub in_digits : ℕ → ℕ → ℕ → Phase
in_digits count value byte =
    if is_digit byte 16 && nat_lt count 6 then Digits (count + 1) (value * 16 + digit_value byte)
    else (if nat_lt 0 count && byte == 59 then Extension (count + 1) value
    else (if nat_lt 0 count then expected 13 byte (SizeLf value) else Broken))

-- CR, or a line byte that leaves room for the line's end within 256 bytes
unfoldable pub in_extension : ℕ → ℕ → ℕ → Phase
in_extension count value byte =
    if byte == 13 then SizeLf value
    else (if not (byte == 10) && nat_le (count + 3) 256 then Extension (count + 1) value
    else Broken)

-- behind a size line: the bytes of a chunk, or the trailers
unfoldable pub behind_size : ℕ → Phase
behind_size value = if value == 0 then TrailerStart 0 else Data value

-- behind one more byte of a chunk
unfoldable pub in_data : ℕ → Phase
in_data left = if nat_lt 1 left then Data (left - 1) else DataCr

-- CR, or a line byte that leaves room for the line's end and the empty line within 1,024 bytes
unfoldable pub in_trailers : ℕ → ℕ → Phase → Phase
in_trailers count byte behind =
    if byte == 13 then behind
    else (if not (byte == 10) && nat_le (count + 5) 1024 then Trailer (count + 1) else Broken)

-- the phase after one more byte. A body that has ended takes no further byte
unfoldable pub step : Phase → ℕ → Phase
step (Digits count value) byte = in_digits count value byte
step (Extension count value) byte = in_extension count value byte
step (SizeLf value) byte = expected 10 byte (behind_size value)
step (Data left) byte = in_data left
step DataCr byte = expected 13 byte DataLf
step DataLf byte = expected 10 byte (Digits 0 0)
step (TrailerStart count) byte = in_trailers count byte LastLf
step (Trailer count) byte = in_trailers count byte (TrailerLf (count + 1))
step (TrailerLf count) byte = expected 10 byte (TrailerStart (count + 1))
step LastLf byte = expected 10 byte Ended
step Ended byte = Broken
step Broken byte = Broken

-- the counts of a phase are those that can be reached
unfoldable pub is_within : Phase → Bool
is_within (Digits count value) = nat_le count 6 && nat_lt value (16 ^ count)
is_within (Extension count value) = nat_le count 254 && nat_lt value (16 ^ 6)
is_within (SizeLf value) = nat_lt value (16 ^ 6)
is_within (Data left) = nat_lt 0 left && nat_lt left (16 ^ 6)
is_within DataCr = true
is_within DataLf = true
is_within (TrailerStart count) = nat_le count 1022
is_within (Trailer count) = nat_le count 1020
is_within (TrailerLf count) = nat_le count 1021
is_within LastLf = true
is_within Ended = true
is_within Broken = true

-- the body has ended
abbrev pub is_ended : Phase → Bool
is_ended Ended = true
is_ended _ = false

-- no continuation is a body
abbrev pub is_broken : Phase → Bool
is_broken Broken = true
is_broken _ = false

-- the next byte is one of a chunk's bytes
abbrev pub is_data : Phase → Bool
is_data (Data left) = true
is_data _ = false

-- where a reader stands, and how many bytes came while the body went on
pub record Reading : Type 0 where
  pub phase : Phase
  pub taken : ℕ

-- before the first byte
abbrev pub nothing_read : Reading
nothing_read = record { phase = Digits 0 0; taken = 0 }

-- after one more byte. A body that has ended stays so
unfoldable pub after : Reading → ℕ → Reading
after reading byte =
    let next = step reading.phase byte in
    let over = is_ended next || is_broken next in
    if is_ended reading.phase then reading
    else record { phase = next; taken = if over then reading.taken else reading.taken + 1 }

-- after these bytes
unfoldable pub read : List ℕ → Reading
read text = fold after nothing_read text
