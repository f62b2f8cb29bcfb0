-- Decimal numbers from 1, of any size: digits, of which the first is not 0.
use Rattle.std.specs.Prelude.{ℕ, ◌+◌, ◌-◌, ◌*◌, Bool, not, ◌&&◌, nat_le, ◌==◌, if◌then◌else◌, List, [], ◌∷◌, length, slice_index, Option, Some, None}
use Rattle.std.specs.List.{list_all}

-- `0` to `9`
abbrev pub is_digit : ℕ → Bool
is_digit c = nat_le 48 c && nat_le c 57

-- the number that digits go on to stand for, after the number n so far
abbrev pub number_from : ℕ → List ℕ → ℕ
number_from n [] = n
number_from n (c ∷ cs) = number_from (10 * n + (c - 48)) cs

-- one or more digits, of which the first is not `0`
abbrev pub is_number : List ℕ → Bool
is_number text = nat_le 1 (length text) && not (slice_index text 0 == 48) && list_all is_digit text

-- the number that the text is, if it is one
abbrev pub number_of : List ℕ → Option ℕ
number_of text = if is_number text then Some (number_from 0 text) else None

-- the number, if it is at most this
abbrev pub at_most : ℕ → Option ℕ → Option ℕ
at_most limit None = None
at_most limit (Some n) = if nat_le n limit then Some n else None
