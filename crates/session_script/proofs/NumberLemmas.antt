-- The number that digits stand for, up to the last of a u64.
use Rattle.std.proofs.Common.{◌≡◌, ℕ, ◌+◌, ◌-◌, ◌*◌, ◌^◌, ◌<◌, ◌≤◌, min, List, [], ◌∷◌, length, get_or, drop, sym, ap, ◌∙◌, arith}
use Rattle.std.proofs.lemmas.List.{drop_more, drop_all}
use Rattle.session_script.specs.Digits.{number_from}

-- the number, or the last of a u64 where it is larger
abbrev pub capped : ℕ → ℕ
capped n = min n (2 ^ 64 - 1)

-- what is over the limit stays over it
capped_same : (cs : List ℕ) (a b : ℕ) → capped a ≡ capped b → capped (number_from a cs) ≡ capped (number_from b cs)
capped_same [] a b e = e
capped_same (c ∷ cs) a b e = capped_same cs (10 * a + (c - 48)) (10 * b + (c - 48)) (omega arith)

-- one more digit
pub capped_more : (digits : List ℕ) (i v w total : ℕ) → i < length digits
    → w ≡ capped (capped (v * 10) + (get_or digits i 0 - 48))
    → capped (number_from v (drop i digits)) ≡ total → capped (number_from w (drop (i + 1) digits)) ≡ total
capped_more digits i v w total lt e so_far =
    let step : capped (number_from v (drop i digits)) ≡ capped
    (number_from (10 * v + (get_or digits i 0 - 48)) (drop (i + 1) digits)) =
    ap (λ (ds : List ℕ). capped (number_from v ds)) (drop_more digits i 0 lt) in
    capped_same (drop (i + 1) digits) w (10 * v + (get_or digits i 0 - 48)) (omega arith) ∙ sym step ∙ so_far

-- no digit is left
pub capped_all : (digits : List ℕ) (i v total : ℕ) → length digits ≤ i → v ≤ 2 ^ 64 - 1
    → capped (number_from v (drop i digits)) ≡ total → v ≡ total
capped_all digits i v total le few so_far =
    let end : capped (number_from v (drop i digits)) ≡ capped v = ap (λ (ds : List ℕ). capped (number_from v ds))
    (drop_all i digits le) in
    omega (arith, end, so_far)
