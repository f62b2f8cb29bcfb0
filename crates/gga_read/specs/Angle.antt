-- The angles of a GGA sentence: degrees and minutes as digits, and a letter for the side.
use Rattle.std.specs.Prelude.{ℕ, ◌+◌, ◌-◌, ◌*◌, ◌/◌, ℤ, pos, neg_ℤ, Bool, ◌&&◌, ◌||◌, nat_le, nat_lt, ◌==◌, if◌then◌else◌, List, length, drop, slice_index, Option, Some, None}
use Rattle.std.specs.List.{list_all}

-- `0` to `9`
abbrev pub is_digit : ℕ → Bool
is_digit c = nat_le 48 c && nat_le c 57

-- the value of the digit at this place, 0 where the text is shorter
abbrev pub digit_at : List ℕ → ℕ → ℕ
digit_at text k = slice_index text k - 48

-- the text ends at this place, or goes on with `.` (46) and any number of digits
abbrev pub ends_with_decimals : ℕ → List ℕ → Bool
ends_with_decimals at text =
    (length text == at) || ((slice_index text at == 46) && list_all is_digit (drop (at + 1) text))

-- whole minutes: the two digits from this place
abbrev pub whole_minutes : ℕ → List ℕ → ℕ
whole_minutes at text = 10 * digit_at text at + digit_at text (at + 1)

-- the first five decimals of the minutes, behind the two digits and `.`, in units of 10^-5 minute;
-- those that are missing are 0, and later ones are cut
abbrev pub decimals : ℕ → List ℕ → ℕ
decimals at text =
    10000 * digit_at text (at + 3) + 1000 * digit_at text (at + 4) + 100 * digit_at text (at + 5)
    + 10 * digit_at text (at + 6) + digit_at text (at + 7)

-- minutes stand from this place to the end: `mm`, then nothing or `.` and digits. They are below 60
abbrev pub has_minutes : ℕ → List ℕ → Bool
has_minutes at text =
    is_digit (slice_index text at) && is_digit (slice_index text (at + 1))
    && ends_with_decimals (at + 2) text && nat_lt (whole_minutes at text) 60

-- the angle in units of 10^-7 degree, rounded down: a minute has 5 / 3 * 10^5 of them
abbrev pub magnitude : ℕ → ℕ → List ℕ → ℕ
magnitude degrees at text =
    degrees * 10000000 + (whole_minutes at text * 100000 + decimals at text) * 5 / 3

-- the angle of these degrees and the minutes from this place, if it is at most the limit
abbrev pub angle_within : ℕ → ℕ → ℕ → List ℕ → Option ℕ
angle_within limit degrees at text =
    if has_minutes at text && nat_le (magnitude degrees at text) limit
    then Some (magnitude degrees at text)
    else None

-- `ddmm` with decimals, at most 90 degrees
abbrev pub latitude_size : List ℕ → Option ℕ
latitude_size text =
    if is_digit (slice_index text 0) && is_digit (slice_index text 1)
    then angle_within 900000000 (10 * digit_at text 0 + digit_at text 1) 2 text
    else None

-- `dddmm` with decimals, at most 180 degrees
abbrev pub longitude_size : List ℕ → Option ℕ
longitude_size text =
    if is_digit (slice_index text 0) && is_digit (slice_index text 1)
    && is_digit (slice_index text 2)
    then angle_within 1800000000
    (100 * digit_at text 0 + 10 * digit_at text 1 + digit_at text 2) 3 text
    else None

-- the text is this one letter
abbrev pub is_letter : ℕ → List ℕ → Bool
is_letter c text = (length text == 1) && (slice_index text 0 == c)

-- an angle with the sign that the letter says: the first of the two letters is positive
abbrev pub signed : ℕ → ℕ → List ℕ → Option ℕ → Option ℤ
signed plus minus letter None = None
signed plus minus letter (Some n) =
    if is_letter plus letter then Some (pos n)
    else if is_letter minus letter then Some (neg_ℤ (pos n))
    else None

-- north (`N`, 78) is positive, south (`S`, 83) negative
abbrev pub latitude_of : List ℕ → List ℕ → Option ℤ
latitude_of text letter = signed 78 83 letter (latitude_size text)

-- east (`E`, 69) is positive, west (`W`, 87) negative
abbrev pub longitude_of : List ℕ → List ℕ → Option ℤ
longitude_of text letter = signed 69 87 letter (longitude_size text)
