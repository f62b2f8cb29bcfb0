-- The machine's steps, one by one.
use Rattle.std.proofs.Common.{◌≡◌, ℕ, ◌+◌, ◌-◌, ◌*◌, ◌<◌, ◌≤◌, true, ◌&&◌, ltb, refl, arith}
use Rattle.std.specs.Char.{digit_value, is_digit}
use Rattle.std.proofs.lemmas.Bool.{lt-ltb, le-ltb, le-leb, ne_eqb, cond-true, and_from}
use Rattle.chunk_body.specs.declared.phase.Phase.TheVariants.{Digits, Extension, SizeLf, Data, DataCr, DataLf, TrailerStart, Trailer, TrailerLf, LastLf, Ended, Broken}
use Rattle.chunk_body.specs.Body.{IsLineByte}
use Rattle.chunk_body.specs.Machine.{step, expected, in_digits, in_extension, behind_size, in_data, in_trailers}

pub step_digit : (n v b : ℕ) → n < 6 → digit_value b < 16
    → step (Digits n v) b ≡ Digits (n + 1) (v * 16 + digit_value b)
unfolding step in_digits
step_digit n v b few digit =
    cond-true (is_digit b 16 && ltb n 6) _ _ (and_from (is_digit b 16) (ltb n 6) (lt-ltb (digit_value b) 16 digit)
    (lt-ltb n 6 few))

pub step_semicolon : (n v : ℕ) → 0 < n → step (Digits n v) 59 ≡ Extension (n + 1) v
unfolding step in_digits
step_semicolon n v some =
    cond-true (ltb 0 n && true) _ _ (and_from (ltb 0 n) true (lt-ltb 0 n some) refl)

pub step_digits_cr : (n v : ℕ) → 0 < n → step (Digits n v) 13 ≡ SizeLf v
unfolding step in_digits expected
step_digits_cr n v some = rw (lt-ltb 0 n some) refl

pub step_extension : (n v b : ℕ) → IsLineByte b → n + 3 ≤ 256
    → step (Extension n v) b ≡ Extension (n + 1) v
unfolding step in_extension
step_extension n v b line room =
    rw (ne_eqb b 13 line.0, ne_eqb b 10 line.1, le-leb (n + 3) 256 room) refl

pub step_extension_cr : (n v : ℕ) → step (Extension n v) 13 ≡ SizeLf v
unfolding step in_extension
step_extension_cr n v = refl

pub step_size_lf : (v : ℕ) → step (SizeLf v) 10 ≡ behind_size v
unfolding step expected
step_size_lf v = refl

pub behind_some : (v : ℕ) → 0 < v → behind_size v ≡ Data v
unfolding behind_size
behind_some v some = rw (ne_eqb v 0 (omega arith)) refl

pub behind_none : (v : ℕ) → v ≡ 0 → behind_size v ≡ TrailerStart 0
unfolding behind_size
behind_none v none = rw none refl

pub step_data : (n b : ℕ) → 1 < n → step (Data n) b ≡ Data (n - 1)
unfolding step in_data
step_data n b more = rw (lt-ltb 1 n more) refl

pub step_data_last : (n b : ℕ) → n ≤ 1 → step (Data n) b ≡ DataCr
unfolding step in_data
step_data_last n b last = rw (le-ltb 1 n last) refl

pub step_data_cr : step DataCr 13 ≡ DataLf
unfolding step expected
step_data_cr = refl

pub step_data_lf : step DataLf 10 ≡ Digits 0 0
unfolding step expected
step_data_lf = refl

pub step_trailers : (n b : ℕ) → IsLineByte b → n + 5 ≤ 1024
    → step (TrailerStart n) b ≡ Trailer (n + 1)
unfolding step in_trailers
step_trailers n b line room =
    rw (ne_eqb b 13 line.0, ne_eqb b 10 line.1, le-leb (n + 5) 1024 room) refl

pub step_trailers_cr : (n : ℕ) → step (TrailerStart n) 13 ≡ LastLf
unfolding step in_trailers
step_trailers_cr n = refl

pub step_trailer : (n b : ℕ) → IsLineByte b → n + 5 ≤ 1024 → step (Trailer n) b ≡ Trailer (n + 1)
unfolding step in_trailers
step_trailer n b line room =
    rw (ne_eqb b 13 line.0, ne_eqb b 10 line.1, le-leb (n + 5) 1024 room) refl

pub step_trailer_cr : (n : ℕ) → step (Trailer n) 13 ≡ TrailerLf (n + 1)
unfolding step in_trailers
step_trailer_cr n = refl

pub step_trailer_lf : (n : ℕ) → step (TrailerLf n) 10 ≡ TrailerStart (n + 1)
unfolding step expected
step_trailer_lf n = refl

pub step_last_lf : step LastLf 10 ≡ Ended
unfolding step expected
step_last_lf = refl

pub step_ended : (b : ℕ) → step Ended b ≡ Broken
unfolding step
step_ended b = refl

pub step_broken : (b : ℕ) → step Broken b ≡ Broken
unfolding step
step_broken b = refl
