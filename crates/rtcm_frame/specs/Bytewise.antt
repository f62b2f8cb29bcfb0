-- CRC-24Q by whole bytes, as a table takes it, and what bytes of zero behind a message do to it.
use Rattle.std.specs.Prelude.{ℕ, zero, suc, List}
use Rattle.std.specs.List.{fold}
use Rattle.rtcm_frame.specs.Crc.{after_bit, bits_of}

-- the register after one more byte of the message
unfoldable pub after_byte : ℕ → ℕ → ℕ
after_byte value byte = fold after_bit value (bits_of byte)

-- the register after these bytes, from any value on
unfoldable pub crc_on : ℕ → List ℕ → ℕ
crc_on value bytes = fold after_byte value bytes

-- the register after so many bytes of zero
unfoldable pub moved : ℕ → ℕ → ℕ
moved zero value = value
moved (suc n) value = moved n (after_byte value 0)

-- the checksum of a message of one byte
unfoldable pub row : ℕ → ℕ
row byte = after_byte 0 byte
