-- Known frames and streams, as the definitions compute them.
use Rattle.std.proofs.Common.{◌≡◌, ℕ, true, false, List, [], ◌∷◌, refl, codes, Some, None}
use Rattle.rtcm_frame.specs.Crc.{after_bit, bits_of, crc24q_of}
use Rattle.rtcm_frame.specs.Transport.{is_frame, number_of}
use Rattle.rtcm_frame.specs.Cut.{cut_after, cut}

-- the shortest frame
abbrev pub frame_z : List ℕ
frame_z = 0xD3 ∷ 0x00 ∷ 0x00 ∷ 0x47 ∷ 0xEA ∷ 0x4B ∷ []

-- a frame whose payload is the number 1005 alone
abbrev pub frame_a : List ℕ
frame_a = 0xD3 ∷ 0x00 ∷ 0x02 ∷ 0x3E ∷ 0xD0 ∷ 0xA4 ∷ 0xE0 ∷ 0x00 ∷ []

-- a frame whose payload is the number 1077 alone
abbrev pub frame_b : List ℕ
frame_b = 0xD3 ∷ 0x00 ∷ 0x02 ∷ 0x43 ∷ 0x50 ∷ 0x06 ∷ 0xA2 ∷ 0x7E ∷ []

-- a whole message 1005, the position of a reference station
abbrev pub frame_s : List ℕ
frame_s =
    0xD3 ∷ 0x00 ∷ 0x13 ∷ 0x3E ∷ 0xD7 ∷ 0xD3 ∷ 0x02 ∷ 0x02 ∷ 0x98 ∷ 0x0E ∷ 0xDE ∷ 0xEF ∷ 0x34
    ∷ 0xB4 ∷ 0xBD ∷ 0x62 ∷ 0xAC ∷ 0x09 ∷ 0x41 ∷ 0x98 ∷ 0x6F ∷ 0x33 ∷ 0x36 ∷ 0x0B ∷ 0x98 ∷ []

-- the checksum's usual test message
check_value : crc24q_of (codes "123456789") ≡ 0xCDE703
unfolding crc24q_of bits_of after_bit
check_value = refl

frame_z_is_frame : is_frame frame_z ≡ true
unfolding is_frame crc24q_of bits_of after_bit
frame_z_is_frame = refl

frame_a_is_frame : is_frame frame_a ≡ true
unfolding is_frame crc24q_of bits_of after_bit
frame_a_is_frame = refl

frame_b_is_frame : is_frame frame_b ≡ true
unfolding is_frame crc24q_of bits_of after_bit
frame_b_is_frame = refl

frame_s_is_frame : is_frame frame_s ≡ true
unfolding is_frame crc24q_of bits_of after_bit
frame_s_is_frame = refl

-- frame A without its last byte
shortened : is_frame (0xD3 ∷ 0x00 ∷ 0x02 ∷ 0x3E ∷ 0xD0 ∷ 0xA4 ∷ 0xE0 ∷ []) ≡ false
unfolding is_frame crc24q_of bits_of after_bit
shortened = refl

number_z : number_of frame_z ≡ None
unfolding number_of
number_z = refl

number_a : number_of frame_a ≡ Some 1005
unfolding number_of
number_a = refl

number_b : number_of frame_b ≡ Some 1077
unfolding number_of
number_b = refl

number_s : number_of frame_s ≡ Some 1005
unfolding number_of
number_s = refl

-- the last byte of A is wrong, so its eight bytes are junk, and B behind them is found
wrong_checksum : cut (0xD3 ∷ 0x00 ∷ 0x02 ∷ 0x3E ∷ 0xD0 ∷ 0xA4 ∷ 0xE0 ∷ 0x01 ∷ frame_b)
    ≡ record { frames = frame_b ∷ []; junk = 8; rest = [] }
unfolding cut cut_after is_frame crc24q_of bits_of after_bit
wrong_checksum = refl

-- a preamble that begins no frame does not hide the frame behind it
false_preamble : cut (0xD3 ∷ 0x00 ∷ 0x01 ∷ frame_a) ≡ record { frames = frame_a ∷ []; junk = 3; rest = [] }
unfolding cut cut_after is_frame crc24q_of bits_of after_bit
false_preamble = refl

-- a long claim keeps all bytes waiting
long_claim : cut (0xD3 ∷ 0xFF ∷ frame_a) ≡ record { frames = []; junk = 0; rest = 0xD3 ∷ 0xFF ∷ frame_a }
unfolding cut cut_after is_frame crc24q_of bits_of after_bit
long_claim = refl
