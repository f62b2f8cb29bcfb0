-- How a register takes a byte, eight bytes, or bytes of zero, by tables.
use Rattle.std.proofs.Common.{◌≡◌, ℕ, zero, suc, inl, inr, ◌+◌, ◌*◌, ◌/◌, ◌%◌, ◌^◌, ◌<◌, ◌==◌, Bool, true, ◌&&◌, if◌then◌else◌, bit_xor, List, [], ◌∷◌, length, get_or, refl, ap, ap₂, ◌∙◌, sym, subst, arith, eq-eqb}
use Rattle.std.proofs.lemmas.Bool.Decides.{nat_tests}
use Rattle.std.proofs.lemmas.Bool.{cases_Bool}
use Rattle.std.proofs.lemmas.Nat.{xor_comm, xor_lt}
use Rattle.std.specs.Int.Bits.{xor_zero_r}
use Rattle.rtcm_frame.specs.Crc.{generator, after_bit, bits_of}
use Rattle.rtcm_frame.specs.Bytewise.{after_byte, crc_on, moved, row}
use Rattle.rtcm_frame.proofs.LinearLemmas.{xor_split, byte_xor, byte_alone, byte_fits, moved_xor, moved_add, crc_on_from}

-- ---- one byte

-- a bit of zero doubles a register whose highest bit is free
double : (value : ℕ) → value < 2 ^ 23 → after_bit value 0 ≡ 2 * value
unfolding after_bit
double value fits =
    let top : value / 2 ^ 23 ≡ 0 = omega arith in
    let same : (value / 2 ^ 23 == 0) ≡ true = eq-eqb _ _ top in
    let whole : 2 * value % 2 ^ 24 ≡ 2 * value = omega arith in
    ap (λ (test : Bool). (if test then 2 * value else bit_xor (2 * value) generator) % 2 ^ 24) same ∙ whole

-- a byte of zero moves two bytes up by one
pub small_byte : (low : ℕ) → low < 2 ^ 16 → after_byte low 0 ≡ low * 256
unfolding after_byte bits_of
small_byte low fits =
    chain (2 * (2 * (2 * (2 * (2 * (2 * (2 * low))))))) (
    chain (2 * (2 * (2 * (2 * (2 * (2 * low)))))) (
    chain (2 * (2 * (2 * (2 * (2 * low))))) (
    chain (2 * (2 * (2 * (2 * low)))) (
    chain (2 * (2 * (2 * low))) (
    chain (2 * (2 * low)) (
    chain (2 * low) (
    double low (omega arith)) (omega arith)) (omega arith)) (omega arith)) (omega arith)) (omega arith)) (omega arith))
    (omega arith)
    ∙ total
  where
    chain : {start : ℕ} (value : ℕ) → start ≡ value → value < 2 ^ 23 → after_bit start 0 ≡ 2 * value
    chain value so_far small = ap (λ (v : ℕ). after_bit v 0) so_far ∙ double value small

    total : 2 * (2 * (2 * (2 * (2 * (2 * (2 * (2 * low))))))) ≡ low * 256
    total = omega arith

-- the highest byte of a register goes as a byte of the message does: tried on all 256
unfoldable tried : ℕ → Bool
tried zero = true
tried (suc n) = (after_byte (n * 65536) 0 == row n) && tried n

all_tried : tried 256 ≡ true
unfolding tried row after_byte bits_of after_bit
all_tried = refl

tried_at : (n byte : ℕ) → tried n ≡ true → byte < n → after_byte (byte * 65536) 0 ≡ row byte
unfolding tried
tried_at zero byte all below = absurd (omega arith)
tried_at (suc n) byte all below = elim (cases_Bool (byte == n)) [
  | inl same ↦
      let last : byte ≡ n = grind (arith, nat_tests) in
      let here : after_byte (n * 65536) 0 ≡ row n = grind (arith, nat_tests) in
      subst (λ (k : ℕ). after_byte (k * 65536) 0 ≡ row k) (sym last) here
  | inr other ↦
      let others : tried n ≡ true = grind (arith, nat_tests) in
      let lower : (byte ≡ n → ⊥) = λ same. absurd (grind (arith, nat_tests)) in
      tried_at n byte others (omega (arith, lower))
]

pub high_byte : (byte : ℕ) → byte < 256 → after_byte (byte * 65536) 0 ≡ row byte
high_byte byte fits = tried_at 256 byte all_tried fits

-- **a byte by the table**: two bytes move up, and the highest with the message's byte chooses the
-- row
pub byte_by_row : (value byte : ℕ) → value < 2 ^ 24 → byte < 256
    → after_byte value byte ≡ bit_xor (value % 65536 * 256) (row (bit_xor (value / 65536) byte))
unfolding row
byte_by_row value byte value_fits byte_fits_too =
    let high = value / 65536 in
    let low = value % 65536 in
    let whole : high * 2 ^ 16 + low ≡ value = omega arith in
    let parts : value ≡ bit_xor low (high * 65536) =
    sym (xor_split 16 high low (omega arith) (omega arith) ∙ whole)
    in
    let top : after_byte (high * 65536) byte ≡ after_byte 0 (bit_xor high byte) =
    ap (λ (v : ℕ). after_byte v byte) (sym (xor_zero_r (high * 65536)))
    ∙ byte_alone (high * 65536) 0 byte (omega arith) (omega arith)
    ∙ ap (λ (x : ℕ). bit_xor x (after_byte 0 byte)) (high_byte high (omega arith))
    ∙ sym (byte_xor 0 0 high byte (omega arith) (omega arith))
    in
    ap (λ (v : ℕ). after_byte v byte) parts
    ∙ byte_alone low (high * 65536) byte (omega arith) (omega arith)
    ∙ ap₂ bit_xor (small_byte low (omega arith)) top

-- ---- eight bytes

-- the first byte, moved on by those behind it
first_byte : (byte : ℕ) (behind : List ℕ)
    → crc_on 0 (byte ∷ behind) ≡ bit_xor (moved (length behind) (row byte)) (crc_on 0 behind)
unfolding crc_on row
first_byte byte behind = crc_on_from behind (after_byte 0 byte) (byte_fits 0 byte)

last_byte : (byte : ℕ) → crc_on 0 (byte ∷ []) ≡ moved 0 (row byte)
unfolding crc_on row moved
last_byte byte = refl

eight_items : (xs : List ℕ) → length xs ≡ 8
    → xs ≡ get_or xs 0 0 ∷ get_or xs 1 0 ∷ get_or xs 2 0 ∷ get_or xs 3 0
    ∷ get_or xs 4 0 ∷ get_or xs 5 0 ∷ get_or xs 6 0 ∷ get_or xs 7 0 ∷ []
eight_items (a ∷ (b ∷ (c ∷ (d ∷ (e ∷ (f ∷ (g ∷ (h ∷ [])))))))) eight = refl
eight_items (a ∷ (b ∷ (c ∷ (d ∷ (e ∷ (f ∷ (g ∷ (h ∷ (i ∷ t))))))))) eight = absurd (omega arith)
eight_items (a ∷ (b ∷ (c ∷ (d ∷ (e ∷ (f ∷ (g ∷ []))))))) eight = absurd (omega arith)
eight_items (a ∷ (b ∷ (c ∷ (d ∷ (e ∷ (f ∷ [])))))) eight = absurd (omega arith)
eight_items (a ∷ (b ∷ (c ∷ (d ∷ (e ∷ []))))) eight = absurd (omega arith)
eight_items (a ∷ (b ∷ (c ∷ (d ∷ [])))) eight = absurd (omega arith)
eight_items (a ∷ (b ∷ (c ∷ []))) eight = absurd (omega arith)
eight_items (a ∷ (b ∷ [])) eight = absurd (omega arith)
eight_items (a ∷ []) eight = absurd (omega arith)
eight_items [] eight = absurd (omega arith)

-- one step of bytes of zero
next : (n value : ℕ) → moved (suc n) value ≡ moved n (after_byte value 0)
unfolding moved
next n value = refl

-- three bytes of a register behind which eight bytes come
register_moved : (value : ℕ) → value < 2 ^ 24
    → moved 8 value ≡ bit_xor (moved 7 (row (value / 65536))) (
    bit_xor (moved 6 (row (value / 256 % 256))) (moved 5 (row (value % 256))))
register_moved value fits =
    let a = value / 65536 in
    let b = value / 256 % 256 in
    let c = value % 256 in
    let low : bit_xor (b * 2 ^ 8) c ≡ value % 65536 =
    let sum : b * 2 ^ 8 + c ≡ value % 65536 = omega arith in
    xor_comm (b * 2 ^ 8) c ∙ xor_split 8 b c (omega arith) (omega arith) ∙ sum
    in
    let sum : a * 2 ^ 16 + value % 65536 ≡ value = omega arith in
    let parts : value ≡ bit_xor (a * 2 ^ 16) (bit_xor (b * 2 ^ 8) c) =
    sym (
    ap (bit_xor (a * 2 ^ 16)) low
    ∙ xor_comm (a * 2 ^ 16) (value % 65536)
    ∙ xor_split 16 a (value % 65536) (omega arith) (omega arith)
    ∙ sum
    )
    in
    ap (moved 8) parts
    ∙ moved_xor 8 (a * 2 ^ 16) (bit_xor (b * 2 ^ 8) c) (omega arith) (xor_lt 24 (b * 2 ^ 8) c (omega arith)
    (omega arith))
    ∙ ap₂ bit_xor (top 7 a (omega arith)) (
    moved_xor 8 (b * 2 ^ 8) c (omega arith) (omega arith)
    ∙ ap₂ bit_xor (middle 6 b (omega arith)) (bottom 5 c (omega arith)))
  where
    top : (n byte : ℕ) → byte < 256 → moved (suc n) (byte * 65536) ≡ moved n (row byte)
    top n byte small = next n (byte * 65536) ∙ ap (moved n) (high_byte byte small)

    middle : (n byte : ℕ) → byte < 256 → moved (suc (suc n)) (byte * 256) ≡ moved n (row byte)
    middle n byte small =
        let shifted : byte * 256 * 256 ≡ byte * 65536 = omega arith in
        next (suc n) (byte * 256)
        ∙ ap (moved (suc n)) (small_byte (byte * 256) (omega arith) ∙ shifted)
        ∙ top n byte small

    bottom : (n byte : ℕ) → byte < 256 → moved (suc (suc (suc n))) byte ≡ moved n (row byte)
    bottom n byte small =
        next (suc (suc n)) byte
        ∙ ap (moved (suc (suc n))) (small_byte byte (omega arith))
        ∙ middle n byte small

-- **eight bytes by the tables**: those of the register, and those of the message
pub eight_bytes : (value : ℕ) (xs : List ℕ) → value < 2 ^ 24 → length xs ≡ 8
    → crc_on value xs ≡ bit_xor (bit_xor (moved 7 (row (value / 65536))) (
    bit_xor (moved 6 (row (value / 256 % 256))) (moved 5 (row (value % 256))))) (
    bit_xor (moved 7 (row (get_or xs 0 0))) (
    bit_xor (moved 6 (row (get_or xs 1 0))) (
    bit_xor (moved 5 (row (get_or xs 2 0))) (
    bit_xor (moved 4 (row (get_or xs 3 0))) (
    bit_xor (moved 3 (row (get_or xs 4 0))) (
    bit_xor (moved 2 (row (get_or xs 5 0))) (
    bit_xor (moved 1 (row (get_or xs 6 0))) (
    moved 0 (row (get_or xs 7 0))))))))))
eight_bytes value xs fits eight =
    crc_on_from xs value fits
    ∙ ap₂ bit_xor (ap (λ (n : ℕ). moved n value) eight ∙ register_moved value fits) (
    ap (crc_on 0) (eight_items xs eight)
    ∙ nest (get_or xs 0 0) (get_or xs 1 0) (get_or xs 2 0) (get_or xs 3 0) (get_or xs 4 0) (get_or xs 5 0)
    (get_or xs 6 0) (get_or xs 7 0))
  where
    nest : (a b c d e f g h : ℕ) → crc_on 0 (a ∷ b ∷ c ∷ d ∷ e ∷ f ∷ g ∷ h ∷ [])
        ≡ bit_xor (moved 7 (row a)) (
        bit_xor (moved 6 (row b)) (
        bit_xor (moved 5 (row c)) (
        bit_xor (moved 4 (row d)) (
        bit_xor (moved 3 (row e)) (
        bit_xor (moved 2 (row f)) (
        bit_xor (moved 1 (row g)) (
        moved 0 (row h))))))))
    nest a b c d e f g h =
        first_byte a _ ∙ ap (bit_xor (moved 7 (row a))) (
        first_byte b _ ∙ ap (bit_xor (moved 6 (row b))) (
        first_byte c _ ∙ ap (bit_xor (moved 5 (row c))) (
        first_byte d _ ∙ ap (bit_xor (moved 4 (row d))) (
        first_byte e _ ∙ ap (bit_xor (moved 3 (row e))) (
        first_byte f _ ∙ ap (bit_xor (moved 2 (row f))) (
        first_byte g _ ∙ ap (bit_xor (moved 1 (row g))) (
        last_byte h)))))))

-- ---- bytes of zero by digits

-- a register is its six digits at their places
six_digits : (v : ℕ) → v < 2 ^ 24
    → v ≡ bit_xor (v / 2 ^ 20 % 16 * 2 ^ 20) (
    bit_xor (v / 2 ^ 16 % 16 * 2 ^ 16) (
    bit_xor (v / 2 ^ 12 % 16 * 2 ^ 12) (
    bit_xor (v / 2 ^ 8 % 16 * 2 ^ 8) (
    bit_xor (v / 2 ^ 4 % 16 * 2 ^ 4) (v / 2 ^ 0 % 16 * 2 ^ 0)))))
six_digits v fits =
    sym (
    ap (bit_xor (v / 2 ^ 20 % 16 * 2 ^ 20)) (
    ap (bit_xor (v / 2 ^ 16 % 16 * 2 ^ 16)) (
    ap (bit_xor (v / 2 ^ 12 % 16 * 2 ^ 12)) (
    ap (bit_xor (v / 2 ^ 8 % 16 * 2 ^ 8)) (
    ap (bit_xor (v / 2 ^ 4 % 16 * 2 ^ 4)) lowest
    ∙ join 4 (v / 2 ^ 4 % 16) (v % 2 ^ 4) (v % 2 ^ 8) (omega arith) (omega arith) (omega arith))
    ∙ join 8 (v / 2 ^ 8 % 16) (v % 2 ^ 8) (v % 2 ^ 12) (omega arith) (omega arith) (omega arith))
    ∙ join 12 (v / 2 ^ 12 % 16) (v % 2 ^ 12) (v % 2 ^ 16) (omega arith) (omega arith) (omega arith))
    ∙ join 16 (v / 2 ^ 16 % 16) (v % 2 ^ 16) (v % 2 ^ 20) (omega arith) (omega arith) (omega arith))
    ∙ join 20 (v / 2 ^ 20 % 16) (v % 2 ^ 20) v (omega arith) (omega arith) (omega arith)
    )
  where
    lowest : v / 2 ^ 0 % 16 * 2 ^ 0 ≡ v % 2 ^ 4
    lowest = omega arith

    join : (k high low whole : ℕ) → low < 2 ^ k → 0 < 2 ^ k → high * 2 ^ k + low ≡ whole
        → bit_xor (high * 2 ^ k) low ≡ whole
    join k high low whole low_fits some sum = xor_comm (high * 2 ^ k) low ∙ xor_split k high low low_fits some ∙ sum

-- **bytes of zero by digits**
pub moved_digits : (n v : ℕ) → v < 2 ^ 24
    → moved n v ≡ bit_xor (moved n (v / 2 ^ 20 % 16 * 2 ^ 20)) (
    bit_xor (moved n (v / 2 ^ 16 % 16 * 2 ^ 16)) (
    bit_xor (moved n (v / 2 ^ 12 % 16 * 2 ^ 12)) (
    bit_xor (moved n (v / 2 ^ 8 % 16 * 2 ^ 8)) (
    bit_xor (moved n (v / 2 ^ 4 % 16 * 2 ^ 4)) (moved n (v / 2 ^ 0 % 16 * 2 ^ 0))))))
moved_digits n v fits =
    let d0 = v / 2 ^ 0 % 16 * 2 ^ 0 in
    let d1 = v / 2 ^ 4 % 16 * 2 ^ 4 in
    let d2 = v / 2 ^ 8 % 16 * 2 ^ 8 in
    let d3 = v / 2 ^ 12 % 16 * 2 ^ 12 in
    let d4 = v / 2 ^ 16 % 16 * 2 ^ 16 in
    let d5 = v / 2 ^ 20 % 16 * 2 ^ 20 in
    let s1 : bit_xor d1 d0 < 2 ^ 24 = xor_lt 24 d1 d0 (omega arith) (omega arith) in
    let s2 : bit_xor d2 (bit_xor d1 d0) < 2 ^ 24 = xor_lt 24 d2 _ (omega arith) s1 in
    let s3 : bit_xor d3 (bit_xor d2 (bit_xor d1 d0)) < 2 ^ 24 = xor_lt 24 d3 _ (omega arith) s2 in
    let s4 : bit_xor d4 (bit_xor d3 (bit_xor d2 (bit_xor d1 d0))) < 2 ^ 24 = xor_lt 24 d4 _ (omega arith) s3 in
    ap (moved n) (six_digits v fits)
    ∙ moved_xor n d5 _ (omega arith) s4
    ∙ ap (bit_xor (moved n d5)) (
    moved_xor n d4 _ (omega arith) s3
    ∙ ap (bit_xor (moved n d4)) (
    moved_xor n d3 _ (omega arith) s2
    ∙ ap (bit_xor (moved n d3)) (
    moved_xor n d2 _ (omega arith) s1
    ∙ ap (bit_xor (moved n d2)) (moved_xor n d1 d0 (omega arith) (omega arith)))))

-- fewer than 32 first, and then times 32
pub moved_steps : (n value : ℕ) → moved (32 * (n / 32)) (moved (n % 32) value) ≡ moved n value
moved_steps n value =
    let all : n % 32 + 32 * (n / 32) ≡ n = omega arith in
    sym (moved_add (n % 32) (32 * (n / 32)) value) ∙ ap (λ (k : ℕ). moved k value) all
