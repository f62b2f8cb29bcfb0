-- The counts of a phase stay those that can be reached.
use Rattle.std.proofs.Common.{◌≡◌, ℕ, ◌+◌, ◌-◌, ◌*◌, ◌^◌, ◌<◌, ◌≤◌, false, not, ◌&&◌, eqb, ltb, leb, IsTrue, zero, suc, refl, arith}
use Rattle.std.specs.Char.{digit_value, is_digit}
use Rattle.std.proofs.lemmas.Bool.{ltb-true, leb-true, lt-ltb, le-leb, and_parts, and_from, cond_both}
use Rattle.std.proofs.lemmas.Grind.{pow_more}
use Rattle.chunk_body.specs.declared.phase.Phase.{Phase}
use Rattle.chunk_body.specs.declared.phase.Phase.TheVariants.{Digits, Extension, SizeLf, Data, DataCr, DataLf, TrailerStart, Trailer, TrailerLf, LastLf, Ended, Broken}
use Rattle.chunk_body.specs.Machine.{step, expected, in_digits, in_extension, behind_size, in_data, in_trailers, is_within}
use Rattle.chunk_body.proofs.SizeLemmas.{six_digits}

-- the counts of the phase can be reached
abbrev pub Within : Phase → Type 0
Within q = IsTrue (is_within q)

broken_within : Within Broken
unfolding is_within
broken_within = refl

expected_within : (wanted b : ℕ) (q : Phase) → Within q → Within (expected wanted b q)
unfolding expected is_within
expected_within wanted b q is =
    cond_both (eqb b wanted) q Broken (λ (p : Phase). Within p) (λ _. is) (λ _. refl)

behind_within : (v : ℕ) → v < 16 ^ 6 → Within (behind_size v)
unfolding behind_size is_within
behind_within v small =
    cond_both (eqb v 0) (TrailerStart 0) (Data v) (λ (p : Phase). Within p) (λ _. refl)
    (λ other. and_from (ltb 0 v) (ltb v (16 ^ 6)) (lt-ltb 0 v (some v other)) (lt-ltb v (16 ^ 6) small))
  where
    some : (n : ℕ) → eqb n 0 ≡ false → 0 < n
    some zero other = absurd cc
    some (suc n) other = omega arith

size_within : (v : ℕ) → v < 16 ^ 6 → Within (SizeLf v)
unfolding is_within
size_within v small = lt-ltb v (16 ^ 6) small

extension_within : (n v : ℕ) → n ≤ 254 → v < 16 ^ 6 → Within (Extension n v)
unfolding is_within
extension_within n v few small =
    and_from (leb n 254) (ltb v (16 ^ 6)) (le-leb n 254 few) (lt-ltb v (16 ^ 6) small)

digits_within : (n v : ℕ) → n ≤ 6 → v < 16 ^ n → Within (Digits n v)
unfolding is_within
digits_within n v few small =
    and_from (leb n 6) (ltb v (16 ^ n)) (le-leb n 6 few) (lt-ltb v (16 ^ n) small)

in_digits_within : (n v b : ℕ) → n ≤ 6 → v < 16 ^ n → Within (in_digits n v b)
unfolding in_digits
in_digits_within n v b few small =
    let sized = six_digits n v few small in
    cond_both (is_digit b 16 && ltb n 6) _ _ (λ (p : Phase). Within p)
    (λ both.
    let parts = and_parts (is_digit b 16) (ltb n 6) both in
    let digit = ltb-true (digit_value b) 16 parts.0 in
    digits_within (n + 1) (v * 16 + digit_value b) (omega (arith, ltb-true n 6 parts.1))
    (omega (arith, pow_more 16 n, digit)))
    (λ _. cond_both (ltb 0 n && eqb b 59) _ _ (λ (p : Phase). Within p)
    (λ _. extension_within (n + 1) v (omega arith) sized)
    (λ _. cond_both (ltb 0 n) _ _ (λ (p : Phase). Within p)
    (λ _. expected_within 13 b (SizeLf v) (size_within v sized))
    (λ _. broken_within)))

in_extension_within : (n v b : ℕ) → v < 16 ^ 6 → Within (in_extension n v b)
unfolding in_extension is_within
in_extension_within n v b small =
    cond_both (eqb b 13) _ _ (λ (p : Phase). Within p) (λ _. size_within v small)
    (λ _. cond_both (not (eqb b 10) && leb (n + 3) 256) _ _ (λ (p : Phase). Within p)
    (λ both. extension_within (n + 1) v
    (omega (arith, leb-true (n + 3) 256 (and_parts (not (eqb b 10)) (leb (n + 3) 256) both).1)) small)
    (λ _. refl))

in_data_within : (n : ℕ) → n < 16 ^ 6 → Within (in_data n)
unfolding in_data is_within
in_data_within n small =
    cond_both (ltb 1 n) _ _ (λ (p : Phase). Within p)
    (λ more. let most = ltb-true 1 n more in
    and_from (ltb 0 (n - 1)) (ltb (n - 1) (16 ^ 6)) (lt-ltb 0 (n - 1) (omega arith))
    (lt-ltb (n - 1) (16 ^ 6) (omega arith)))
    (λ _. refl)

in_trailers_within : (n b : ℕ) (q : Phase) → Within q → Within (in_trailers n b q)
unfolding in_trailers is_within
in_trailers_within n b q is =
    cond_both (eqb b 13) _ _ (λ (p : Phase). Within p) (λ _. is)
    (λ _. cond_both (not (eqb b 10) && leb (n + 5) 1024) _ _ (λ (p : Phase). Within p)
    (λ both. le-leb (n + 1) 1020
    (omega (arith, leb-true (n + 5) 1024 (and_parts (not (eqb b 10)) (leb (n + 5) 1024) both).1)))
    (λ _. refl))

-- what the test says, phase by phase
pub digits_are : (n v : ℕ) → Within (Digits n v) → (n ≤ 6) × (v < 16 ^ n)
unfolding is_within
digits_are n v is =
    let parts = and_parts (leb n 6) (ltb v (16 ^ n)) is in
    (leb-true n 6 parts.0, ltb-true v (16 ^ n) parts.1)

pub extension_are : (n v : ℕ) → Within (Extension n v) → (n ≤ 254) × (v < 16 ^ 6)
unfolding is_within
extension_are n v is =
    let parts = and_parts (leb n 254) (ltb v (16 ^ 6)) is in
    (leb-true n 254 parts.0, ltb-true v (16 ^ 6) parts.1)

size_lf_are : (v : ℕ) → Within (SizeLf v) → v < 16 ^ 6
unfolding is_within
size_lf_are v is = ltb-true v (16 ^ 6) is

pub data_are : (n : ℕ) → Within (Data n) → (0 < n) × (n < 16 ^ 6)
unfolding is_within
data_are n is =
    let parts = and_parts (ltb 0 n) (ltb n (16 ^ 6)) is in
    (ltb-true 0 n parts.0, ltb-true n (16 ^ 6) parts.1)

pub trailers_are : (n : ℕ) → Within (TrailerStart n) → n ≤ 1022
unfolding is_within
trailers_are n is = leb-true n 1022 is

pub trailer_are : (n : ℕ) → Within (Trailer n) → n ≤ 1020
unfolding is_within
trailer_are n is = leb-true n 1020 is

pub trailer_lf_are : (n : ℕ) → Within (TrailerLf n) → n ≤ 1021
unfolding is_within
trailer_lf_are n is = leb-true n 1021 is

trailers_within : (n : ℕ) → n ≤ 1022 → Within (TrailerStart n)
unfolding is_within
trailers_within n few = le-leb n 1022 few

trailer_lf_within : (n : ℕ) → n ≤ 1021 → Within (TrailerLf n)
unfolding is_within
trailer_lf_within n few = le-leb n 1021 few

pub start_within : Within (Digits 0 0)
unfolding is_within
start_within = refl

data_lf_within : Within DataLf
unfolding is_within
data_lf_within = refl

last_lf_within : Within LastLf
unfolding is_within
last_lf_within = refl

ended_within : Within Ended
unfolding is_within
ended_within = refl

pub step_within : (q : Phase) (b : ℕ) → Within q → Within (step q b)
unfolding step
step_within (Digits n v) b is = in_digits_within n v b (digits_are n v is).0 (digits_are n v is).1
step_within (Extension n v) b is = in_extension_within n v b (extension_are n v is).1
step_within (SizeLf v) b is =
    expected_within 10 b (behind_size v) (behind_within v (size_lf_are v is))
step_within (Data n) b is = in_data_within n (data_are n is).1
step_within DataCr b is = expected_within 13 b DataLf data_lf_within
step_within DataLf b is = expected_within 10 b (Digits 0 0) start_within
step_within (TrailerStart n) b is = in_trailers_within n b LastLf last_lf_within
step_within (Trailer n) b is =
    in_trailers_within n b (TrailerLf (n + 1)) (trailer_lf_within (n + 1) (omega (arith, trailer_are n is)))
step_within (TrailerLf n) b is =
    expected_within 10 b (TrailerStart (n + 1)) (trailers_within (n + 1) (omega (arith, trailer_lf_are n is)))
step_within LastLf b is = expected_within 10 b Ended ended_within
step_within Ended b is = broken_within
step_within Broken b is = broken_within
