-- Digits of bytes, one byte after the other.
use Rattle.std.proofs.Common.{◌≡◌, ◌∙◌, ◌++◌, ◌+◌, ◌<◌, ◌/◌, ◌%◌, ℕ, List, [], ◌∷◌, take, length, get_or, slice_index, refl, sym, ap, append_assoc}
use Rattle.std.proofs.lemmas.List.{append-nil, take_more}
use Rattle.hex.specs.Hex.{encode_lower, encode_with, lower_digits}

-- the digits of one more byte
encoded_with : (bytes : List ℕ) (byte : ℕ)
    → encode_lower (bytes ++ byte ∷ []) ≡ encode_lower bytes ++ slice_index lower_digits (byte / 16)
    ∷ slice_index lower_digits (byte % 16) ∷ []
unfolding encode_with
encoded_with [] byte = refl
encoded_with (b ∷ bytes) byte =
    ap (λ (l : List ℕ). slice_index lower_digits (b / 16) ∷ slice_index lower_digits (b % 16) ∷ l)
    (encoded_with bytes byte)

-- no byte has no digits
pub digits_none : (old : List ℕ) → old ≡ old ++ encode_lower []
unfolding encode_with
digits_none old = sym (append-nil old)

-- what stands in a text once the digits of one more byte were appended to it
pub digits_more : (bytes : List ℕ) (i d : ℕ) → i < length bytes → (old mid half now : List ℕ) (high low : ℕ)
    → high ≡ slice_index lower_digits (get_or bytes i d / 16)
    → low ≡ slice_index lower_digits (get_or bytes i d % 16)
    → mid ≡ old ++ encode_lower (take i bytes) → half ≡ mid ++ high ∷ [] → now ≡ half ++ low ∷ []
    → now ≡ old ++ encode_lower (take (i + 1) bytes)
digits_more bytes i d within old mid half now high low is_high is_low before first second =
    let byte : ℕ = get_or bytes i d in
    let left : ℕ = slice_index lower_digits (byte / 16) in
    let right : ℕ = slice_index lower_digits (byte % 16) in
    second
    ∙ ap (λ (l : List ℕ). l ++ low ∷ []) first
    ∙ append_assoc mid (high ∷ []) (low ∷ [])
    ∙ ap (λ (n : ℕ). mid ++ n ∷ low ∷ []) is_high
    ∙ ap (λ (n : ℕ). mid ++ left ∷ n ∷ []) is_low
    ∙ ap (λ (l : List ℕ). l ++ left ∷ right ∷ []) before
    ∙ append_assoc old (encode_lower (take i bytes)) (left ∷ right ∷ [])
    ∙ ap (λ (l : List ℕ). old ++ l)
    (sym (encoded_with (take i bytes) byte) ∙ ap encode_lower (sym (take_more bytes i d within)))
