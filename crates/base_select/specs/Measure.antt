-- The measure between two positions, in place of the square of their distance.
use Rattle.std.specs.Prelude.{ℕ, ◌+◌, ◌-◌, ◌*◌, ◌/◌, ◌≤◌, ◌-ℤ◌, min, unsigned_abs}
use Rattle.gga_read.specs.declared.Position.{Position}

-- the position is on the earth: at most 90 degrees of latitude and 180 degrees of longitude
pub record IsOnEarth (p : Position) : Type 0 where
  pub lat : unsigned_abs p.lat ≤ 900000000
  pub lon : unsigned_abs p.lon ≤ 1800000000

-- the cosine of so many degrees in units of 1 / 10000, by Bhaskara's approximation, rounded down
abbrev pub cosine : ℕ → ℕ
cosine x = 10000 * (32400 - 4 * x * x) / (32400 + x * x)

-- the cosine at the latitude of the position, of whole degrees
abbrev pub cosine_at : Position → ℕ
cosine_at p = cosine (unsigned_abs p.lat / 10000000)

-- the difference of latitude, in units of 10^-7 degree
abbrev pub north_apart : Position → Position → ℕ
north_apart p q = unsigned_abs (p.lat -ℤ q.lat)

-- the difference of longitude the short way round, in units of 10^-7 degree
abbrev pub turn_apart : Position → Position → ℕ
turn_apart p q =
    min (unsigned_abs (p.lon -ℤ q.lon)) (3600000000 - unsigned_abs (p.lon -ℤ q.lon))

-- the same as degrees of a great circle, at the latitude of the first position
abbrev pub east_apart : Position → Position → ℕ
east_apart p q = turn_apart p q * cosine_at p / 10000

-- the sum of both squares
unfoldable pub measure_of : Position → Position → ℕ
measure_of p q = north_apart p q * north_apart p q + east_apart p q * east_apart p q
