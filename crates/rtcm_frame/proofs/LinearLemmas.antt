-- CRC-24Q is linear over the exclusive or, and so it goes by bytes and by parts.
use Rattle.std.proofs.Common.{◌≡◌, ℕ, zero, suc, ◌+◌, ◌*◌, ◌/◌, ◌%◌, ◌^◌, ◌<◌, ◌==◌, inl, inr, Bool, if◌then◌else◌, bit_xor, List, [], ◌∷◌, ◌++◌, length, replicate, fold, refl, ap, ap₂, ◌∙◌, sym, arith}
use Rattle.std.proofs.lemmas.Bool.{cases_Bool}
use Rattle.std.proofs.lemmas.Bool.Decides.{nat_tests}
use Rattle.std.proofs.lemmas.Grind.{fold-append}
use Rattle.std.proofs.lemmas.Nat.{xor_comm, xor_block, xor_mod, xor_shr, xor_lt}
use Rattle.std.proofs.Math.Nat.{mod-lt}
use Rattle.std.specs.Int.Bits.{xor_assoc, xor_self, xor_zero_l, xor_zero_r}
use Rattle.std.specs.List.{flat_map}
use Rattle.rtcm_frame.specs.Crc.{generator, after_bit, bits_of, crc24q_of, xor_each}
use Rattle.rtcm_frame.specs.Bytewise.{after_byte, crc_on, moved}

-- ---- exclusive or

-- the middle two of four change places
pub xor_four : (a b c d : ℕ) → bit_xor (bit_xor a b) (bit_xor c d) ≡ bit_xor (bit_xor a c) (bit_xor b d)
xor_four a b c d =
    xor_assoc a b (bit_xor c d)
    ∙ ap (bit_xor a) (sym (xor_assoc b c d) ∙ ap (λ (x : ℕ). bit_xor x d) (xor_comm b c) ∙ xor_assoc c b d)
    ∙ sym (xor_assoc a c (bit_xor b d))

-- what is added twice is gone
pub xor_back : (a b : ℕ) → bit_xor (bit_xor a b) a ≡ b
xor_back a b =
    ap (λ (x : ℕ). bit_xor x a) (xor_comm a b)
    ∙ xor_assoc b a a
    ∙ ap (bit_xor b) (xor_self a)
    ∙ xor_zero_r b

-- numbers with nothing in their lowest k places
xor_shifted : (k a b : ℕ) → 0 < 2 ^ k → bit_xor (a * 2 ^ k) (b * 2 ^ k) ≡ bit_xor a b * 2 ^ k
xor_shifted k a b some =
    let left : a * 2 ^ k ≡ a * 2 ^ k + 0 = omega arith in
    let right : b * 2 ^ k ≡ b * 2 ^ k + 0 = omega arith in
    ap₂ bit_xor left right
    ∙ xor_block k a b 0 0 some some
    ∙ ap (λ (x : ℕ). bit_xor a b * 2 ^ k + x) (xor_self 0)
    ∙ none (bit_xor a b * 2 ^ k)
  where
    none : (n : ℕ) → n + 0 ≡ n
    none n = omega arith

-- a number is its lowest k places and what is above them
pub xor_split : (k high low : ℕ) → low < 2 ^ k → 0 < 2 ^ k → bit_xor low (high * 2 ^ k) ≡ high * 2 ^ k + low
xor_split k high low fits some =
    let left : low ≡ 0 * 2 ^ k + low = omega arith in
    let right : high * 2 ^ k ≡ high * 2 ^ k + 0 = omega arith in
    ap₂ bit_xor left right
    ∙ xor_block k 0 high low 0 fits some
    ∙ ap₂ (λ (x y : ℕ). x * 2 ^ k + y) (xor_zero_l high) (xor_zero_r low)

-- a product of an exclusive or of two bits
bits_times : (p q g : ℕ) → p < 2 → q < 2 → bit_xor p q * g ≡ bit_xor (p * g) (q * g)
bits_times zero q g p_fits q_fits = ap (λ (x : ℕ). x * g) (xor_zero_l q) ∙ sym (zeros (q * g))
  where
    zeros : (x : ℕ) → bit_xor (0 * g) x ≡ x
    zeros x = let none : 0 * g ≡ 0 = omega arith in ap (λ (y : ℕ). bit_xor y x) none ∙ xor_zero_l x
bits_times (suc zero) zero g p_fits q_fits =
    let none : 0 * g ≡ 0 = omega arith in
    sym (ap (bit_xor (1 * g)) none ∙ xor_zero_r (1 * g))
bits_times (suc zero) (suc zero) g p_fits q_fits =
    let none : 0 * g ≡ 0 = omega arith in
    none ∙ sym (xor_self (1 * g))
bits_times (suc zero) (suc (suc q)) g p_fits q_fits = absurd (omega arith)
bits_times (suc (suc p)) q g p_fits q_fits = absurd (omega arith)

-- ---- one bit

-- the polynomial without its leading bit
abbrev low_generator : ℕ
low_generator = 0x864CFB

-- a step without a test: the polynomial is added as often as the bit at the top differs, 0 or 1
step_plain : (value bit : ℕ) → value < 2 ^ 24 → bit < 2
    → after_bit value bit ≡ bit_xor (value * 2 % 2 ^ 24) (bit_xor (value / 2 ^ 23) bit * low_generator)
unfolding after_bit
step_plain value bit fits is_bit = elim (cases_Bool (value / 2 ^ 23 == bit)) [
  | inl same ↦
      let equal : value / 2 ^ 23 ≡ bit = grind (arith, nat_tests) in
      let nothing : bit_xor (value / 2 ^ 23) bit ≡ 0 =
      ap (λ (x : ℕ). bit_xor x bit) equal ∙ xor_self bit
      in
      let twice : 2 * value % 2 ^ 24 ≡ value * 2 % 2 ^ 24 = omega arith in
      ap (λ (test : Bool). (if test then 2 * value else bit_xor (2 * value) generator) % 2 ^ 24) same
      ∙ twice
      ∙ sym (
      ap (λ (x : ℕ). bit_xor (value * 2 % 2 ^ 24) (x * low_generator)) nothing
      ∙ xor_zero_r (value * 2 % 2 ^ 24)
      )
  | inr other ↦
      let differ : (value / 2 ^ 23 ≡ bit) → ⊥ = λ equal. absurd (grind (arith, nat_tests)) in
      let one : bit_xor (value / 2 ^ 23) bit ≡ 1 = two_bits (value / 2 ^ 23) bit (omega arith) is_bit differ in
      let twice : 2 * value % 2 ^ 24 ≡ value * 2 % 2 ^ 24 = omega arith in
      ap (λ (test : Bool). (if test then 2 * value else bit_xor (2 * value) generator) % 2 ^ 24) other
      ∙ xor_mod (2 * value) generator 24
      ∙ ap (λ (x : ℕ). bit_xor x low_generator) twice
      ∙ sym (ap (λ (x : ℕ). bit_xor (value * 2 % 2 ^ 24) (x * low_generator)) one)
]
  where
    two_bits : (p q : ℕ) → p < 2 → q < 2 → (p ≡ q → ⊥) → bit_xor p q ≡ 1
    two_bits zero zero p_fits q_fits differ = absurd (differ refl)
    two_bits zero (suc zero) p_fits q_fits differ = refl
    two_bits (suc zero) zero p_fits q_fits differ = refl
    two_bits (suc zero) (suc zero) p_fits q_fits differ = absurd (differ refl)
    two_bits zero (suc (suc q)) p_fits q_fits differ = absurd (omega arith)
    two_bits (suc zero) (suc (suc q)) p_fits q_fits differ = absurd (omega arith)
    two_bits (suc (suc p)) q p_fits q_fits differ = absurd (omega arith)

-- a register has 24 bits
bit_fits : (value bit : ℕ) → after_bit value bit < 2 ^ 24
unfolding after_bit
bit_fits value bit = mod-lt _ (omega arith)

-- **a step is linear**
step_xor : (a b c d : ℕ) → a < 2 ^ 24 → b < 2 ^ 24 → c < 2 → d < 2
    → after_bit (bit_xor a b) (bit_xor c d) ≡ bit_xor (after_bit a c) (after_bit b d)
step_xor a b c d a_fits b_fits c_fits d_fits =
    let g = low_generator in
    let p = bit_xor (a / 2 ^ 23) c in
    let q = bit_xor (b / 2 ^ 23) d in
    let doubled : bit_xor a b * 2 % 2 ^ 24 ≡ bit_xor (a * 2 % 2 ^ 24) (b * 2 % 2 ^ 24) =
    ap (λ (x : ℕ). x % 2 ^ 24) (sym (xor_shifted 1 a b (omega arith))) ∙ xor_mod (a * 2) (b * 2) 24
    in
    let top : bit_xor (bit_xor a b / 2 ^ 23) (bit_xor c d) ≡ bit_xor p q =
    ap (λ (x : ℕ). bit_xor x (bit_xor c d)) (xor_shr a b 23) ∙ xor_four (a / 2 ^ 23) (b / 2 ^ 23) c d
    in
    let times : bit_xor p q * g ≡ bit_xor (p * g) (q * g) =
    bits_times p q g (xor_lt 1 (a / 2 ^ 23) c (omega arith) c_fits) (xor_lt 1 (b / 2 ^ 23) d (omega arith) d_fits)
    in
    step_plain (bit_xor a b) (bit_xor c d) (xor_lt 24 a b a_fits b_fits) (xor_lt 1 c d c_fits d_fits)
    ∙ ap₂ bit_xor doubled (ap (λ (x : ℕ). x * g) top ∙ times)
    ∙ xor_four (a * 2 % 2 ^ 24) (b * 2 % 2 ^ 24) (p * g) (q * g)
    ∙ ap₂ bit_xor (sym (step_plain a c a_fits c_fits)) (sym (step_plain b d b_fits d_fits))

-- ---- one byte

-- each is 0 or 1
abbrev AreBits : List ℕ → Type 0
AreBits [] = Unit {0}
AreBits (d ∷ ds) = (d < 2) × AreBits ds

bits_xor : (cs ds : List ℕ) (a b : ℕ) → length cs ≡ length ds → AreBits cs → AreBits ds → a < 2 ^ 24 → b < 2 ^ 24
    → fold after_bit (bit_xor a b) (xor_each cs ds) ≡ bit_xor (fold after_bit a cs) (fold after_bit b ds)
bits_xor [] [] a b same c_bits d_bits a_fits b_fits = refl
bits_xor [] (d ∷ ds) a b same c_bits d_bits a_fits b_fits = absurd (omega arith)
bits_xor (c ∷ cs) [] a b same c_bits d_bits a_fits b_fits = absurd (omega arith)
bits_xor (c ∷ cs) (d ∷ ds) a b same c_bits d_bits a_fits b_fits =
    ap (λ (x : ℕ). fold after_bit x (xor_each cs ds)) (step_xor a b c d a_fits b_fits c_bits.0 d_bits.0)
    ∙ bits_xor cs ds (after_bit a c) (after_bit b d) (omega arith) c_bits.1 d_bits.1 (bit_fits a c) (bit_fits b d)

-- the bits of an exclusive or
bits_of_xor : (x y : ℕ) → bits_of (bit_xor x y) ≡ xor_each (bits_of x) (bits_of y)
unfolding bits_of
bits_of_xor x y =
    ap₂ ◌∷◌ (place 7) (
    ap₂ ◌∷◌ (place 6) (
    ap₂ ◌∷◌ (place 5) (
    ap₂ ◌∷◌ (place 4) (
    ap₂ ◌∷◌ (place 3) (
    ap₂ ◌∷◌ (place 2) (
    ap₂ ◌∷◌ (place 1) (
    ap (λ (d : ℕ). d ∷ []) (xor_mod x y 1))))))))
  where
    place : (k : ℕ) → bit_xor x y / 2 ^ k % 2 ≡ bit_xor (x / 2 ^ k % 2) (y / 2 ^ k % 2)
    place k = ap (λ (n : ℕ). n % 2) (xor_shr x y k) ∙ xor_mod (x / 2 ^ k) (y / 2 ^ k) 1

are_bits : (z : ℕ) → AreBits (bits_of z)
unfolding bits_of
are_bits z = (
  low (z / 128),
  (
    low (z / 64),
    (
      low (z / 32),
      (
        low (z / 16),
        (
          low (z / 8),
          (low (z / 4), (low (z / 2), (low z, tt))),
        ),
      ),
    ),
  ),
)
  where
    low : (n : ℕ) → n % 2 < 2
    low n = omega arith

-- a byte is linear
pub byte_xor : (a b x y : ℕ) → a < 2 ^ 24 → b < 2 ^ 24
    → after_byte (bit_xor a b) (bit_xor x y) ≡ bit_xor (after_byte a x) (after_byte b y)
unfolding after_byte bits_of
byte_xor a b x y a_fits b_fits =
    ap (fold after_bit (bit_xor a b)) (bits_of_xor x y)
    ∙ bits_xor (bits_of x) (bits_of y) a b refl (are_bits x) (are_bits y) a_fits b_fits

-- what the register held goes on alone
pub byte_alone : (a b x : ℕ) → a < 2 ^ 24 → b < 2 ^ 24
    → after_byte (bit_xor a b) x ≡ bit_xor (after_byte a 0) (after_byte b x)
byte_alone a b x a_fits b_fits =
    ap (after_byte (bit_xor a b)) (sym (xor_zero_l x)) ∙ byte_xor a b 0 x a_fits b_fits

pub byte_fits : (value x : ℕ) → after_byte value x < 2 ^ 24
unfolding after_byte bits_of
byte_fits value x = bit_fits _ _

-- ---- bytes of zero, and whole messages

pub moved_fits : (n value : ℕ) → value < 2 ^ 24 → moved n value < 2 ^ 24
unfolding moved
moved_fits zero value fits = fits
moved_fits (suc n) value fits = moved_fits n (after_byte value 0) (byte_fits value 0)

pub moved_xor : (n a b : ℕ) → a < 2 ^ 24 → b < 2 ^ 24
    → moved n (bit_xor a b) ≡ bit_xor (moved n a) (moved n b)
unfolding moved
moved_xor zero a b a_fits b_fits = refl
moved_xor (suc n) a b a_fits b_fits =
    ap (moved n) (byte_alone a b 0 a_fits b_fits)
    ∙ moved_xor n (after_byte a 0) (after_byte b 0) (byte_fits a 0) (byte_fits b 0)

pub moved_add : (p q value : ℕ) → moved (p + q) value ≡ moved q (moved p value)
unfolding moved
moved_add zero q value = let none : 0 + q ≡ q = omega arith in ap (λ (n : ℕ). moved n value) none
moved_add (suc p) q value =
    let one_more : suc p + q ≡ suc (p + q) = omega arith in
    ap (λ (n : ℕ). moved n value) one_more ∙ moved_add p q (after_byte value 0)

pub crc_fits : (bytes : List ℕ) (value : ℕ) → value < 2 ^ 24 → crc_on value bytes < 2 ^ 24
unfolding crc_on
crc_fits [] value fits = fits
crc_fits (x ∷ bytes) value fits = crc_fits bytes (after_byte value x) (byte_fits value x)

-- **a message is linear**
pub crc_on_xor : (bytes : List ℕ) (a b : ℕ) → a < 2 ^ 24 → b < 2 ^ 24
    → crc_on (bit_xor a b) bytes ≡ bit_xor (moved (length bytes) a) (crc_on b bytes)
unfolding crc_on moved
crc_on_xor [] a b a_fits b_fits = refl
crc_on_xor (x ∷ bytes) a b a_fits b_fits =
    ap (λ (v : ℕ). crc_on v bytes) (byte_alone a b x a_fits b_fits)
    ∙ crc_on_xor bytes (after_byte a 0) (after_byte b x) (byte_fits a 0) (byte_fits b x)

-- from another value on
pub crc_on_from : (bytes : List ℕ) (value : ℕ) → value < 2 ^ 24
    → crc_on value bytes ≡ bit_xor (moved (length bytes) value) (crc_on 0 bytes)
crc_on_from bytes value fits =
    ap (λ (v : ℕ). crc_on v bytes) (sym (xor_zero_r value)) ∙ crc_on_xor bytes value 0 fits (omega arith)

pub crc_on_append : (value : ℕ) (a b : List ℕ) → crc_on value (a ++ b) ≡ crc_on (crc_on value a) b
unfolding crc_on
crc_on_append value a b = fold-append after_byte value a b

by_bytes : (xs : List ℕ) (value : ℕ) → fold after_bit value (flat_map bits_of xs) ≡ crc_on value xs
unfolding crc_on after_byte
by_bytes [] value = refl
by_bytes (x ∷ xs) value =
    fold-append after_bit value (bits_of x) (flat_map bits_of xs)
    ∙ by_bytes xs (fold after_bit value (bits_of x))

-- **the checksum by bytes is the checksum by bits**
pub crc_is : (bytes : List ℕ) → crc24q_of bytes ≡ crc_on 0 bytes
unfolding crc24q_of
crc_is bytes = by_bytes bytes 0

-- ---- the laws on messages

-- bytes of zero move the register on
zeros_move : (n value : ℕ) → crc_on value (replicate n 0) ≡ moved n value
unfolding crc_on moved
zeros_move zero value = refl
zeros_move (suc n) value = zeros_move n (after_byte value 0)

-- **the law of parts**: what stands in front counts as if zeros followed it
pub crc_joined : (front behind : List ℕ)
    → crc24q_of (front ++ behind) ≡ bit_xor (moved (length behind) (crc24q_of front)) (crc24q_of behind)
crc_joined front behind =
    crc_is (front ++ behind)
    ∙ crc_on_append 0 front behind
    ∙ crc_on_from behind (crc_on 0 front) (crc_fits front 0 (omega arith))
    ∙ ap₂ (λ (x y : ℕ). bit_xor (moved (length behind) x) y) (sym (crc_is front)) (sym (crc_is behind))

pub crc_with_zeros : (n : ℕ) (front : List ℕ) → crc24q_of (front ++ replicate n 0) ≡ moved n (crc24q_of front)
crc_with_zeros n front =
    crc_is (front ++ replicate n 0)
    ∙ crc_on_append 0 front (replicate n 0)
    ∙ zeros_move n (crc_on 0 front)
    ∙ ap (moved n) (sym (crc_is front))

pub parts_law : (front behind : List ℕ)
    → crc24q_of (front ++ behind) ≡ bit_xor (crc24q_of (front ++ replicate (length behind) 0)) (crc24q_of behind)
parts_law front behind =
    crc_joined front behind
    ∙ ap (λ (x : ℕ). bit_xor x (crc24q_of behind)) (sym (crc_with_zeros (length behind) front))

crc_on_both : (xs ys : List ℕ) (v w : ℕ) → length xs ≡ length ys → v < 2 ^ 24 → w < 2 ^ 24
    → crc_on (bit_xor v w) (xor_each xs ys) ≡ bit_xor (crc_on v xs) (crc_on w ys)
unfolding crc_on
crc_on_both [] [] v w even v_fits w_fits = refl
crc_on_both [] (y ∷ ys) v w even v_fits w_fits = absurd (omega arith)
crc_on_both (x ∷ xs) [] v w even v_fits w_fits = absurd (omega arith)
crc_on_both (x ∷ xs) (y ∷ ys) v w even v_fits w_fits =
    ap (λ (u : ℕ). crc_on u (xor_each xs ys)) (byte_xor v w x y v_fits w_fits)
    ∙ crc_on_both xs ys (after_byte v x) (after_byte w y) (omega arith) (byte_fits v x) (byte_fits w y)

-- **the law of linearity**: messages of one length
pub linear_law : (a b : List ℕ) → length a ≡ length b
    → crc24q_of (xor_each a b) ≡ bit_xor (crc24q_of a) (crc24q_of b)
linear_law a b same =
    crc_is (xor_each a b)
    ∙ crc_on_both a b 0 0 same (omega arith) (omega arith)
    ∙ ap₂ bit_xor (sym (crc_is a)) (sym (crc_is b))
