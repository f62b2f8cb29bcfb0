-- A position in the sourcetable: degrees with two decimals.
use Rattle.std.specs.Prelude.{ℕ, ◌+◌, ◌/◌, ◌%◌, ◌&&◌, not, ◌==◌, ℤ, pos, negsuc, Bool, true, false, unsigned_abs, if◌then◌else◌, List, [], ◌∷◌, ◌++◌}
use Rattle.std.specs.Fmt.{decimal}

abbrev pub is_below_zero : ℤ → Bool
is_below_zero (pos n) = false
is_below_zero (negsuc n) = true

-- hundredths of a degree, of units of 10^-7 degree; what is less is cut
abbrev pub hundredths : ℤ → ℕ
hundredths z = unsigned_abs z / 100000

-- `-` (45) where the number is below 0 and its hundredths are not 0
abbrev pub sign_of : ℤ → List ℕ
sign_of z = if is_below_zero z && not (hundredths z == 0) then 45 ∷ [] else []

-- the whole degrees, `.` (46) and two digits (48 is `0`)
abbrev pub degrees : ℤ → List ℕ
degrees z =
    sign_of z ++ decimal (hundredths z / 100)
    ++ 46 ∷ (48 + hundredths z / 10 % 10) ∷ (48 + hundredths z % 10) ∷ []
