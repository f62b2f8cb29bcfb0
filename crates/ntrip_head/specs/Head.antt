-- Where a head ends. NTRIP 1.0 (RTCM 10410.0) and HTTP/1.1 (RFC 9112, section 2.1) end a head with
-- an empty line; a line ends with LF, and a CR before the LF belongs to the line end.
use Rattle.std.specs.Prelude.{◌≡◌, ◌⊎◌, ◌≤◌, ◌<◌, ℕ, Bool, ◌||◌, false, IsTrue, nat_eq, List, [], ◌∷◌, ◌++◌, length, take}
use Rattle.std.specs.List.{ends_with}
use Rattle.std.specs.Str.{bytes_eq}
use Rattle.httparse.specs.Grammar.{LineEnd, print_end}

-- the bytes end with an empty line: LF (10) or CR LF (13, 10), after a LF or at the beginning
abbrev pub ends_with_empty_line : List ℕ → Bool
ends_with_empty_line bytes =
    ends_with nat_eq bytes (10 ∷ 10 ∷ []) || ends_with nat_eq bytes (10 ∷ 13 ∷ 10 ∷ [])
    || bytes_eq bytes (10 ∷ []) || bytes_eq bytes (13 ∷ 10 ∷ [])

-- a line begins after these bytes: there are none, or the last of them is LF
abbrev pub AtLineStart : List ℕ → Type 0
AtLineStart front = (front ≡ []) ⊎ ((more : List ℕ) × (front ≡ more ++ 10 ∷ []))

-- the same by the grammar: where a line begins, a line end follows
abbrev pub EndsWithEmptyLine : List ℕ → Type 0
EndsWithEmptyLine bytes =
    (front : List ℕ) × (end : LineEnd) × AtLineStart front × (bytes ≡ front ++ print_end end)

-- no empty line has come: no front of the bytes ends with one
abbrev pub HasNoEmptyLine : List ℕ → Type 0
HasNoEmptyLine bytes = (n : ℕ) → n ≤ length bytes → ends_with_empty_line (take n bytes) ≡ false

-- a head that goes on: no empty line has come, and fewer than 8,192 bytes
pub record IsOpen (bytes : List ℕ) : Type 0 where
  pub no_line : HasNoEmptyLine bytes
  pub room : length bytes < 8192

-- a whole head: it ends with an empty line, no shorter front of it does, and it has at most 8,192
-- bytes
pub record IsHead (bytes : List ℕ) : Type 0 where
  pub ends : IsTrue (ends_with_empty_line bytes)
  pub first : (n : ℕ) → n < length bytes → ends_with_empty_line (take n bytes) ≡ false
  pub within : length bytes ≤ 8192

-- the 8,192nd byte came, and no empty line
pub record IsLong (bytes : List ℕ) : Type 0 where
  pub no_line : HasNoEmptyLine bytes
  pub full : length bytes ≡ 8192
