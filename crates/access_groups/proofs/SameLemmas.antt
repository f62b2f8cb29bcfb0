-- Bytes compared by what differs in them.
use Rattle.std.proofs.Common.{◌≡◌, ℕ, ◌+◌, ◌*◌, ◌<◌, ◌≤◌, false, eqb, List, length, take, get_or, refl, sym, ap, ◌∙◌, inl, inr, arith}
use Rattle.std.specs.Prelude.{bit_and, bit_or, bit_xor}
use Rattle.std.specs.Int.Bits.{xor_add_and, xor_self}
use Rattle.std.specs.Str.{bytes_eq}
use Rattle.std.proofs.lemmas.Bool.{cases_Bool, eq-eqb, eqb-true, false_from_ne_true, false≢true}
use Rattle.std.proofs.lemmas.List.{take_more}
use Rattle.std.proofs.lemmas.Nat.{and_le_l, and_le_r, le_or_l, le_or_r}
use Rattle.std.proofs.lemmas.Slice.Eq.{bytes_eq-Decides}

-- numbers that differ in no bit are the same
xor_none : (a b : ℕ) → bit_xor a b ≡ 0 → a ≡ b
xor_none a b none =
    let all : bit_xor a b + bit_and a b * 2 ≡ a + b = xor_add_and a b in
    let left : bit_and a b ≤ a = and_le_l a b in
    let right : bit_and a b ≤ b = and_le_r a b in
    omega arith

-- where nothing differs with one more byte, nothing differed before, and the byte is the same
pub same_more : (xs ys : List ℕ) (i d e : ℕ) → i < length xs → i < length ys
    → e ≡ bit_or d (bit_xor (get_or xs i 0) (get_or ys i 0)) → (d ≡ 0 → take i xs ≡ take i ys)
    → e ≡ 0 → take (i + 1) xs ≡ take (i + 1) ys
same_more xs ys i d e in_xs in_ys is same none =
    let x = bit_xor (get_or xs i 0) (get_or ys i 0) in
    let one : d ≤ bit_or d x = le_or_l d x in
    let two : x ≤ bit_or d x = le_or_r d x in
    let front : take i xs ≡ take i ys = same (omega arith) in
    let byte : get_or xs i 0 ≡ get_or ys i 0 = xor_none (get_or xs i 0) (get_or ys i 0) (omega arith) in
    take_more xs i 0 in_xs ∙ rw (front, byte) refl ∙ sym (take_more ys i 0 in_ys)

-- of the same bytes nothing differs
pub none_more : (xs ys : List ℕ) (i d e : ℕ) → e ≡ bit_or d (bit_xor (get_or xs i 0) (get_or ys i 0))
    → (xs ≡ ys → d ≡ 0) → xs ≡ ys → e ≡ 0
none_more xs ys i d e is none same =
    let before : d ≡ 0 = none same in
    is ∙ rw (before, same, xor_self (get_or ys i 0)) refl

-- bytes are the same exactly where nothing differs
pub decided : (xs ys : List ℕ) (d : ℕ) → (d ≡ 0 → xs ≡ ys) → (xs ≡ ys → d ≡ 0) → eqb d 0 ≡ bytes_eq xs ys
decided xs ys d same none =
    elim (cases_Bool (bytes_eq xs ys)) [
      | inl are ↦ eq-eqb d 0 (none ((bytes_eq-Decides xs ys).0 are)) ∙ sym are
      | inr other ↦
          false_from_ne_true (eqb d 0) (λ zero. false≢true (sym other ∙ (bytes_eq-Decides xs ys).1
          (same (eqb-true d 0 zero)))) ∙ sym other
    ]

-- nor are bytes the same of which there are more
pub others : (xs ys : List ℕ) → (length xs ≡ length ys → ⊥) → bytes_eq xs ys ≡ false
others xs ys longer = false_from_ne_true _ (λ are. longer (ap length ((bytes_eq-Decides xs ys).0 are)))
