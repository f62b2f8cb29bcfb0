-- What a GGA sentence of NMEA 0183 is: how it is framed, and its fields.
use Rattle.std.specs.Prelude.{ℕ, ◌+◌, ◌-◌, ◌/◌, ◌%◌, Bool, not, ◌&&◌, ◌||◌, nat_le, nat_lt, ◌==◌, if◌then◌else◌, bit_xor, List, [], ◌∷◌, length, slice_index, slice_index_or, slice_range}
use Rattle.std.specs.List.{list_any, slice_split}

-- ---- frame and checksum

-- the exclusive or of n and all these bytes
abbrev pub exclusive_or_after : ℕ → List ℕ → ℕ
exclusive_or_after n [] = n
exclusive_or_after n (b ∷ bytes) = exclusive_or_after (bit_xor n b) bytes

-- the exclusive or of all these bytes
abbrev pub exclusive_or : List ℕ → ℕ
exclusive_or bytes = exclusive_or_after 0 bytes

-- c is the hexadecimal digit of this value, of either case
abbrev pub is_hex_digit_of : ℕ → ℕ → Bool
is_hex_digit_of value c =
    if nat_lt value 10 then c == 48 + value else (c == 55 + value) || (c == 87 + value)

-- what stands between `$` and `*`: all but the first byte and the last three
abbrev pub inner : List ℕ → List ℕ
inner line = slice_range line 1 (length line - 3)

-- the last two bytes are the two hexadecimal digits of the checksum
abbrev pub has_checksum : List ℕ → Bool
has_checksum line =
    is_hex_digit_of (exclusive_or (inner line) / 16) (slice_index line (length line - 2))
    && is_hex_digit_of (exclusive_or (inner line) % 16) (slice_index line (length line - 1))

-- `$` (36), bytes that are no `*` (42), `*` and the checksum of these bytes, and nothing more
abbrev pub is_framed : List ℕ → Bool
is_framed line =
    nat_le 4 (length line) && (slice_index line 0 == 36)
    && (slice_index line (length line - 3) == 42)
    && not (list_any (λ b. b == 42) (inner line)) && has_checksum line

-- ---- fields

-- what stands between commas (44): the sentence's name, and then its fields, numbered from 1
abbrev pub fields : List ℕ → List (List ℕ)
fields text = slice_split (λ b. b == 44) text

-- the field with this number, empty where there is none
abbrev pub field : ℕ → List ℕ → List ℕ
field k text = slice_index_or (fields text) k []

-- `A` to `Z`
abbrev pub is_capital : ℕ → Bool
is_capital c = nat_le 65 c && nat_le c 90

-- two capital letters and `GGA`
abbrev pub is_gga_name : List ℕ → Bool
is_gga_name name =
    (length name == 5) && is_capital (slice_index name 0) && is_capital (slice_index name 1)
    && (slice_index name 2 == 71) && (slice_index name 3 == 71) && (slice_index name 4 == 65)

-- the name of a GGA sentence, and 14 fields
abbrev pub is_gga : List ℕ → Bool
is_gga text = is_gga_name (field 0 text) && (length (fields text) == 15)
