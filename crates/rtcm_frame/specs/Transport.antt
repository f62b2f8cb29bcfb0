-- A frame of RTCM 10403.3's transport layer: the preamble, six reserved bits, the payload's length
-- in ten bits, the payload, and the CRC-24Q of all before it in three bytes, most significant
-- first.
use Rattle.std.specs.Prelude.{ℕ, ◌+◌, ◌-◌, ◌*◌, ◌/◌, ◌%◌, Bool, ◌&&◌, ◌==◌, nat_lt, if◌then◌else◌, List, [], ◌∷◌, ◌++◌, length, take, drop, slice_index, Option, Some, None}
use Rattle.rtcm_frame.specs.Crc.{crc24q_of}

-- the first byte of every frame
abbrev pub preamble : ℕ
preamble = 0xD3

-- the greatest length of a frame: a header of three bytes, 1,023 bytes of payload, and the checksum
abbrev pub longest : ℕ
longest = 1029

-- the ten low bits of the two bytes behind the preamble
abbrev pub payload_length : List ℕ → ℕ
payload_length bytes = (slice_index bytes 1 * 256 + slice_index bytes 2) % 1024

-- the whole length that these bytes claim, 6 to the greatest. A byte that has not come reads as 0
abbrev pub frame_length : List ℕ → ℕ
frame_length bytes = payload_length bytes + 6

-- the number that the last three bytes hold, most significant first
abbrev pub checksum : List ℕ → ℕ
checksum bytes =
    let n = length bytes in
    slice_index bytes (n - 3) * 65536 + slice_index bytes (n - 2) * 256 + slice_index bytes (n - 1)

-- these bytes are one whole frame: preamble, length and checksum are right. The reserved bits are
-- free
unfoldable pub is_frame : List ℕ → Bool
is_frame bytes =
    (slice_index bytes 0 == preamble)
    && (length bytes == frame_length bytes)
    && (crc24q_of (take (length bytes - 3) bytes) == checksum bytes)

-- what stands between the header and the checksum of a frame
abbrev pub payload : List ℕ → List ℕ
payload frame = take (length frame - 6) (drop 3 frame)

-- the first twelve bits of two bytes or more, most significant first
abbrev pub first_twelve_bits : List ℕ → ℕ
first_twelve_bits bytes = slice_index bytes 0 * 16 + slice_index bytes 1 / 16

-- the message number stands first in the payload; a payload of fewer than two bytes has none
unfoldable pub number_of : List ℕ → Option ℕ
number_of frame =
    if nat_lt (length (payload frame)) 2 then None else Some (first_twelve_bits (payload frame))

-- a number of 24 bits as three bytes, most significant first
abbrev pub three_bytes : ℕ → List ℕ
three_bytes n = (n / 65536) ∷ (n / 256 % 256) ∷ (n % 256) ∷ []

-- a frame before its checksum: the preamble, the reserved bits with the payload's length, and the
-- payload
abbrev pub unchecked : ℕ → List ℕ → List ℕ
unchecked reserved content =
    preamble ∷ (reserved * 4 + length content / 256) ∷ (length content % 256) ∷ content

-- the frame of a payload, with these six reserved bits
abbrev pub framed : ℕ → List ℕ → List ℕ
framed reserved content =
    unchecked reserved content ++ three_bytes (crc24q_of (unchecked reserved content))
