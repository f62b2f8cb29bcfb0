-- CRC-24Q, the checksum of RTCM 10403.3's transport layer, bit by bit.
-- Its generator is the 25-bit polynomial 1864CFB; it starts at 0, takes the most significant bit of
-- each byte first, reflects nothing and ends with no exclusive or.
use Rattle.std.specs.Prelude.{ℕ, ◌*◌, ◌/◌, ◌%◌, ◌^◌, ◌==◌, if◌then◌else◌, bit_xor, List, [], ◌∷◌}
use Rattle.std.specs.List.{fold, flat_map}

-- the polynomial, with its leading bit
abbrev pub generator : ℕ
generator = 0x1864CFB

-- one bit of the message moves the register of 24 bits up by one place. Where the bit that falls
-- out at the top is not the message's, the polynomial is added without carry
unfoldable pub after_bit : ℕ → ℕ → ℕ
after_bit value bit =
    (if value / 2 ^ 23 == bit then 2 * value else bit_xor (2 * value) generator) % 2 ^ 24

-- the eight bits of a byte, most significant first
unfoldable pub bits_of : ℕ → List ℕ
bits_of byte =
    byte / 128 % 2
    ∷ byte / 64 % 2
    ∷ byte / 32 % 2
    ∷ byte / 16 % 2
    ∷ byte / 8 % 2
    ∷ byte / 4 % 2
    ∷ byte / 2 % 2
    ∷ byte % 2
    ∷ []

-- the checksum of the whole message
unfoldable pub crc24q_of : List ℕ → ℕ
crc24q_of message = fold after_bit 0 (flat_map bits_of message)

-- two messages of one length, byte by byte
abbrev pub xor_each : List ℕ → List ℕ → List ℕ
xor_each [] ys = []
xor_each (x ∷ xs) [] = []
xor_each (x ∷ xs) (y ∷ ys) = bit_xor x y ∷ xor_each xs ys
