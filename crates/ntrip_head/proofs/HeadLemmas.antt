-- One byte more of a head.
use Rattle.std.proofs.Common.{◌≡◌, ◌≢◌, ◌≤◌, ◌<◌, ◌+◌, ℕ, false, true, List, [], ◌∷◌, ◌++◌, length, take, arith, length-append, subst, sym, inl, inr}
use Rattle.std.proofs.lemmas.Bool.{cases_lt}
use Rattle.std.proofs.lemmas.List.{take-append-le, take_all}
use Rattle.ntrip_head.specs.Head.{ends_with_empty_line, HasNoEmptyLine, IsOpen, IsHead, IsLong}

-- no shorter front ends with an empty line
pub none_shorter : (bytes : List ℕ) (byte : ℕ) → HasNoEmptyLine bytes → (n : ℕ) → n < length (bytes ++ byte ∷ [])
    → ends_with_empty_line (take n (bytes ++ byte ∷ [])) ≡ false
none_shorter bytes byte none n lt =
    let le : n ≤ length bytes = omega (arith, length-append bytes (byte ∷ [])) in
    subst (λ (front : List ℕ). ends_with_empty_line front ≡ false) (sym (take-append-le n bytes (byte ∷ []) le))
    (none n le)

-- none does, where the whole does not
pub none_more : (bytes : List ℕ) (byte : ℕ) → HasNoEmptyLine bytes → ends_with_empty_line (bytes ++ byte ∷ []) ≡ false
    → HasNoEmptyLine (bytes ++ byte ∷ [])
none_more bytes byte none stays n le =
    elim (cases_lt n (length (bytes ++ byte ∷ []))) [
      | inl lt ↦ none_shorter bytes byte none n lt
      | inr all ↦
          subst (λ (front : List ℕ). ends_with_empty_line front ≡ false)
          (sym (take_all n (bytes ++ byte ∷ []) all)) stays
    ]

-- ---- what one byte more makes of a head that goes on

pub more_open : (old new : List ℕ) (byte : ℕ) → IsOpen old → new ≡ old ++ byte ∷ [] → ends_with_empty_line new ≡ false
    → length new ≢ 8192 → IsOpen new
more_open old new byte goes_on e stays few =
    let none : HasNoEmptyLine new =
    subst (λ (bytes : List ℕ). HasNoEmptyLine bytes) (sym e)
    (none_more old byte goes_on.no_line (subst (λ (bytes : List ℕ). ends_with_empty_line bytes ≡ false) e stays)) in
    let more : length new ≡ length old + 1 = subst (λ (bytes : List ℕ). length bytes ≡ length old + 1) (sym e)
    (length-append old (byte ∷ [])) in
    let room : length old < 8192 = goes_on.room in
    record { no_line = none; room = omega arith }

pub done_head : (old new : List ℕ) (byte : ℕ) → IsOpen old → new ≡ old ++ byte ∷ [] → ends_with_empty_line new ≡ true
    → IsHead new
done_head old new byte goes_on e ends =
    let more : length new ≡ length old + 1 = subst (λ (bytes : List ℕ). length bytes ≡ length old + 1) (sym e)
    (length-append old (byte ∷ [])) in
    let room : length old < 8192 = goes_on.room in
    record {
      ends = ends;
      first = subst (λ (bytes : List ℕ). (n : ℕ) → n < length bytes → ends_with_empty_line (take n bytes) ≡ false)
          (sym e)
          (none_shorter old byte goes_on.no_line);
      within = omega arith;
    }

pub full_long : (old new : List ℕ) (byte : ℕ) → IsOpen old → new ≡ old ++ byte ∷ [] → ends_with_empty_line new ≡ false
    → length new ≡ 8192 → IsLong new
full_long old new byte goes_on e stays full = record {
  no_line = subst (λ (bytes : List ℕ). HasNoEmptyLine bytes) (sym e)
      (none_more old byte goes_on.no_line (subst (λ (bytes : List ℕ). ends_with_empty_line bytes ≡ false) e stays));
  full = full;
}
