-- The lists of message numbers that a filter may have.
use Rattle.std.specs.Prelude.{ℕ, ◌≤◌, ◌&&◌, Bool, nat_lt, nat_le, List, [], ◌∷◌, length, All}
use Rattle.std.specs.List.Sorted.{IsStrictlyIncreasing}
use Rattle.std.specs.Ordering.{nat_cmp}
use Rattle.std.specs.BTreeSet.{insert_key}

-- a list has 1 to 64 numbers
abbrev pub is_good_count : List ℕ → Bool
is_good_count numbers = nat_le 1 (length numbers) && nat_le (length numbers) 64

-- no message number has more than twelve bits (RTCM 10403.3, DF002)
abbrev pub is_too_high : ℕ → Bool
is_too_high number = nat_lt 4095 number

-- The given numbers in increasing order, each once: one after the other is put at its place, unless
-- it is there already.
abbrev pub in_order : List ℕ → List ℕ
in_order [] = []
in_order (number ∷ given) = insert_key nat_cmp (in_order given) number

-- The list of a filter: 1 to 64 numbers from 0 to 4095, in order and each once.
pub record IsNumberList (numbers : List ℕ) : Type 0 where
  pub some : 1 ≤ length numbers
  pub few : length numbers ≤ 64
  pub low : All (λ number. number ≤ 4095) numbers
  pub ordered : IsStrictlyIncreasing numbers
