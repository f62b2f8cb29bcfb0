-- The size that so many hexadecimal digits can write.
use Rattle.std.proofs.Common.{ℕ, ◌^◌, ◌<◌, ◌≤◌, arith}
use Rattle.std.proofs.Math.Nat.{pow-le-pow_right}

-- at most six digits write a number of 24 bits
pub six_digits : (count value : ℕ) → count ≤ 6 → value < 16 ^ count → value < 16 ^ 6
six_digits count value few below =
    omega (arith, pow-le-pow_right {n = 16} (omega arith) {i = count} {j = 6} few)
