-- What is decoded is no longer than its text.
use Rattle.std.proofs.Common.{◌≡◌, ◌≤◌, ◌+◌, ◌∙◌, replicate, ℕ, List, [], ◌∷◌, length, arith, length-append, ap}
use Rattle.base64.specs.Rfc4648.{encode_symbols, encode_group, padding_len}
use Rattle.base64.specs.Engines.{standard}
use Rattle.base64.specs.GeneralPurpose.{encode_of}

length_symbols : (t m : List ℕ) → length m ≤ length (encode_symbols t m)
unfolding encode_symbols
length_symbols t [] = omega arith
length_symbols t (a ∷ []) = omega arith
length_symbols t (a ∷ b ∷ []) = omega arith
length_symbols t (a ∷ b ∷ c ∷ rest) =
    omega (arith, length_symbols t rest, length-append (encode_group t a b c) (encode_symbols t rest))

pub length_decoded : (text pair : List ℕ) → text ≡ encode_of standard pair → length pair ≤ length text
length_decoded text pair e =
    let symbols : List ℕ = encode_symbols standard.encode_table pair in
    let padding : List ℕ = replicate (padding_len (length pair)) 61 in
    let size : length text ≡ length symbols + length padding = ap (λ (l : List ℕ). length l) e
    ∙ length-append symbols padding in
    omega (arith, length_symbols standard.encode_table pair)
