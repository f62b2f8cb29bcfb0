-- Worked sessions, which the definitions compute. The expected numbers come from a reckoning apart
-- from this crate's code.
use Rattle.std.proofs.Common.{◌≡◌, [], ◌∷◌, refl}
use Rattle.rtcm_frame.specs.Crc.{bits_of, after_bit, crc24q_of}
use Rattle.session_script.specs.declared.Event.TheVariants.{Source, Rover, In, Turn}
use Rattle.session_make.specs.Draws.{next_state, state_after, number_below}
use Rattle.session_make.specs.Rounds.{round, after_round, round_start, events_of}

-- the first states from seed 0 and from seed 1, and from the last one, which wraps
states : state_after 1 0 ≡ 1442695040888963407
unfolding state_after next_state
states = refl

first_of_one : state_after 1 1 ≡ 7806831264735756412
unfolding state_after next_state
first_of_one = refl

wraps : state_after 1 18446744073709551615 ≡ 13525302890751722018
unfolding state_after next_state
wraps = refl

-- one frame with message number 1162 and 25 bytes of payload
one_round : events_of 1 1 1
    ≡ Source 1 (65 ∷ []) ∷ Rover 2 (65 ∷ [])
    ∷ In 1 (0xD3 ∷ 0x00 ∷ 0x19 ∷ 0x48 ∷ 0xA0 ∷ 0xCC ∷ 0xE6 ∷ 0x5A ∷ 0xF3 ∷ 0x9A ∷ 0xF6 ∷ 0x29 ∷ 0xBA
    ∷ 0xFB ∷ 0xF2 ∷ 0x7C ∷ 0x20 ∷ 0xBA ∷ 0x0C ∷ 0x1A ∷ 0x1F ∷ 0xD4 ∷ 0x35 ∷ 0x6B ∷ 0x8D ∷ 0xDE
    ∷ 0x62 ∷ 0x3D ∷ 0x33 ∷ 0x6A ∷ 0x68 ∷ [])
    ∷ Turn 2 5 ∷ Turn 2 16 ∷ []
unfolding events_of round round_start after_round state_after next_state number_below crc24q_of bits_of after_bit
one_round = refl

-- two frames with message numbers 1227 and 1188, of which the second has no bytes behind its number
two_rounds : events_of 17214 2 3
    ≡ Source 1 (65 ∷ []) ∷ Rover 2 (65 ∷ []) ∷ Rover 3 (65 ∷ []) ∷ Rover 4 (65 ∷ [])
    ∷ In 1 (0xD3 ∷ 0x00 ∷ 0x03 ∷ 0x4C ∷ 0xB0 ∷ 0x28 ∷ 0x0E ∷ 0x65 ∷ 0xE1 ∷ []) ∷ Turn 3 11
    ∷ In 1 (0xD3 ∷ 0x00 ∷ 0x02 ∷ 0x4A ∷ 0x40 ∷ 0x9D ∷ 0x80 ∷ 0x09 ∷ []) ∷ Turn 4 6
    ∷ Turn 2 16 ∷ Turn 3 16 ∷ Turn 4 16 ∷ []
unfolding events_of round round_start after_round state_after next_state number_below crc24q_of bits_of after_bit
two_rounds = refl
