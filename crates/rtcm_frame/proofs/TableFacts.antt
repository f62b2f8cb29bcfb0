-- The tables hold what they are to hold, as the definitions compute it.
use Rattle.std.proofs.Common.{◌≡◌, ℕ, suc, ◌*◌, ◌/◌, ◌%◌, ◌^◌, ◌==◌, Bool, true, false, ◌&&◌, List, [], ◌∷◌, take, drop, refl}
use Rattle.rtcm_frame.specs.Crc.{after_bit, bits_of}
use Rattle.rtcm_frame.specs.Bytewise.{after_byte, moved, row}
use Rattle.rtcm_frame.specs.declared.tables.rows.TheConstants.{ROWS}
use Rattle.rtcm_frame.specs.declared.tables.shifts.TheConstants.{NEAR, FAR}

-- from the value at i on, these are the values of a function
unfoldable pub agree : (ℕ → ℕ) → ℕ → List ℕ → Bool
agree f i [] = true
agree f i (x ∷ xs) = (x == f i) && agree f (suc i) xs

-- each of these is that of the first list moved on by so many bytes of zero
unfoldable pub follow : ℕ → List ℕ → List ℕ → Bool
follow m xs [] = true
follow m [] (y ∷ ys) = false
follow m (x ∷ xs) (y ∷ ys) = (y == moved m x) && follow m xs ys

-- the entries of the table of bytes, 256 for each count of zeros
abbrev pub row_entry : ℕ → ℕ
row_entry i = moved (i / 256) (row (i % 256))

pub rows_agree : agree row_entry 0 ROWS ≡ true
unfolding agree moved row after_byte bits_of after_bit
rows_agree = refl

-- the digit of four bits at its place, by its number: 16 of them for each place
abbrev pub digit_entry : ℕ → ℕ
digit_entry j = j % 16 * 2 ^ (4 * (j / 16))

pub near_digits : agree digit_entry 0 (take 96 NEAR) ≡ true
unfolding agree
near_digits = refl

pub near_follow : follow 1 NEAR (drop 96 NEAR) ≡ true
unfolding follow moved after_byte bits_of after_bit
near_follow = refl

pub far_digits : agree digit_entry 0 (take 96 FAR) ≡ true
unfolding agree
far_digits = refl

pub far_follow : follow 32 FAR (drop 96 FAR) ≡ true
unfolding follow moved after_byte bits_of after_bit
far_follow = refl
