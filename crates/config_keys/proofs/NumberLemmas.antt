-- Message numbers that were read are none too high.
use Rattle.std.proofs.Common.{◌≡◌, ℕ, ◌+◌, ℤ, pos, negsuc, true, List, [], ◌∷◌, ◌++◌, None, Ok, refl, ◌∙◌, inl, inr, leb}
use Rattle.std.specs.Prelude.{position}
use Rattle.std.specs.List.{list_all, position_from}
use Rattle.std.proofs.lemmas.Bool.{and_parts, cases_Bool, leb-true, le-ltb}
use Rattle.std.proofs.lemmas.Iterator.Adapters.{position_from-zero}
use Rattle.std.proofs.lemmas.List.Folds.{list_all-append}
use Rattle.type_filter.specs.Numbers.{is_too_high}
use Rattle.config_keys.specs.declared.key.Key.{Key}
use Rattle.config_keys.specs.Lists.{each_of}
use Rattle.config_keys.specs.Types.{message_number}

none_high_from : (place : ℕ) (numbers : List ℕ) → list_all (λ n. leb n 4095) numbers ≡ true
    → position_from is_too_high place numbers ≡ None
none_high_from place [] low = refl
none_high_from place (n ∷ numbers) low =
    let parts = and_parts (leb n 4095) (list_all (λ n. leb n 4095) numbers) low in
    rw (le-ltb 4095 n (leb-true n 4095 parts.0)) (none_high_from (place + 1) numbers parts.1)

none_high : (numbers : List ℕ) → list_all (λ n. leb n 4095) numbers ≡ true → position is_too_high numbers ≡ None
none_high numbers low = position_from-zero is_too_high numbers ∙ none_high_from 0 numbers low

one_more : (numbers : List ℕ) (n : ℕ) → list_all (λ m. leb m 4095) numbers ≡ true → leb n 4095 ≡ true
    → list_all (λ m. leb m 4095) (numbers ++ n ∷ []) ≡ true
one_more numbers n low here = list_all-append (λ m. leb m 4095) numbers (n ∷ []) ∙ rw (low, here) refl

low_from : (key : Key) (before numbers : List ℕ) (whole : List ℤ) → list_all (λ n. leb n 4095) before ≡ true
    → each_of (message_number key) before whole ≡ Ok numbers → list_all (λ n. leb n 4095) numbers ≡ true
low_from key before numbers [] low e = let same : before ≡ numbers = cc in rw (← same) low
low_from key before numbers (pos n ∷ whole) low e =
    elim (cases_Bool (leb n 4095)) [
      | inl here ↦ low_from key (before ++ n ∷ []) numbers whole (one_more before n low here) (rw here at e)
      | inr above ↦ absurd (let h = rw above at e in cc)
    ]
low_from key before numbers (negsuc n ∷ whole) low e = absurd cc

pub read_low : (key : Key) (whole : List ℤ) (numbers : List ℕ) → each_of (message_number key) [] whole ≡ Ok numbers
    → position is_too_high numbers ≡ None
read_low key whole numbers e = none_high numbers (low_from key [] numbers whole refl e)
