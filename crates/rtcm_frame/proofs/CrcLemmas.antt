-- The checksum of a message that grows.
use Rattle.std.proofs.Common.{◌≡◌, ℕ, ◌+◌, ◌-◌, ◌<◌, List, [], ◌∷◌, length, take, drop, get_or, refl, ap, ◌∙◌, sym}
use Rattle.std.proofs.lemmas.List.{take_more, take-append-drop, take_rest}
use Rattle.std.proofs.Math.Seq.{take-add}
use Rattle.rtcm_frame.specs.Crc.{crc24q_of}
use Rattle.rtcm_frame.specs.Bytewise.{after_byte, crc_on}
use Rattle.rtcm_frame.proofs.LinearLemmas.{crc_is, crc_on_append}

-- nothing leaves the register as it is
pub crc_none : (value : ℕ) → crc_on value [] ≡ value
unfolding crc_on
crc_none value = refl

crc_one : (value byte : ℕ) → crc_on value (byte ∷ []) ≡ after_byte value byte
unfolding crc_on
crc_one value byte = refl

-- one more byte
pub crc_more : (value : ℕ) (bytes : List ℕ) (i : ℕ) → i < length bytes
    → crc_on value (take (i + 1) bytes) ≡ after_byte (crc_on value (take i bytes)) (get_or bytes i 0)
crc_more value bytes i below =
    ap (crc_on value) (take_more bytes i 0 below)
    ∙ crc_on_append value (take i bytes) (get_or bytes i 0 ∷ [])
    ∙ crc_one (crc_on value (take i bytes)) (get_or bytes i 0)

-- so many bytes more
pub crc_part : (value : ℕ) (bytes : List ℕ) (i n : ℕ)
    → crc_on value (take (i + n) bytes) ≡ crc_on (crc_on value (take i bytes)) (take n (drop i bytes))
crc_part value bytes i n =
    ap (crc_on value) (take-add i n bytes) ∙ crc_on_append value (take i bytes) (take n (drop i bytes))

-- a front, and then what is behind it
pub crc_whole : (bytes : List ℕ) (n : ℕ)
    → crc24q_of bytes ≡ crc_on (crc_on 0 (take n bytes)) (take (length bytes - n) (drop n bytes))
crc_whole bytes n =
    crc_is bytes
    ∙ ap (crc_on 0) (sym (take-append-drop n bytes))
    ∙ crc_on_append 0 (take n bytes) (drop n bytes)
    ∙ ap (crc_on (crc_on 0 (take n bytes))) (sym (take_rest bytes n))
