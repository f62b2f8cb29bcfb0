-- Sums that stop at a bound.
use Rattle.std.proofs.Common.{◌≡◌, ℕ, ◌+◌, ◌<◌, List, [], ◌∷◌, length, take, get_or, ap, ◌∙◌, arith}
use Rattle.std.specs.Prelude.{min}
use Rattle.std.specs.List.{sum}
use Rattle.std.proofs.lemmas.List.{take_more}
use Rattle.std.proofs.lemmas.List.Sums.{sum_by-append}

-- a sum that stops at a bound, and the next number
pub sum_more : (xs : List ℕ) (i most : ℕ) → i < length xs
    → min (min (sum (take i xs)) most + get_or xs i 0) most ≡ min (sum (take (i + 1) xs)) most
sum_more xs i most below =
    let next : List ℕ = get_or xs i 0 ∷ [] in
    let grown : sum (take (i + 1) xs) ≡ sum (take i xs) + sum next =
    ap sum (take_more xs i 0 below) ∙ sum_by-append (λ x. x) (take i xs) next in
    omega (arith, grown)
