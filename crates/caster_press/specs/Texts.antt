-- Text in lines.
use Rattle.std.specs.Prelude.{◌==◌, ℕ, if◌then◌else◌, Bool, true, false, List, [], ◌∷◌}
use Rattle.std.specs.List.{list_any}

-- the byte that ends a line
abbrev pub newline : ℕ
newline = 10

-- a byte of the text ends a line
abbrev pub has_newline : List ℕ → Bool
has_newline text = list_any (λ byte. byte == newline) text

-- nothing is there
abbrev pub is_empty : List ℕ → Bool
is_empty [] = true
is_empty (byte ∷ text) = false

-- the text is one line: its last byte is a newline, and no other is
abbrev pub is_line : List ℕ → Bool
is_line [] = false
is_line (byte ∷ text) = if byte == newline then is_empty text else is_line text

-- one byte more before the first of these lines
abbrev pub before_first : ℕ → List (List ℕ) → List (List ℕ)
before_first byte [] = (byte ∷ []) ∷ []
before_first byte (line ∷ lines) = (byte ∷ line) ∷ lines

-- the lines that a reader finds in the text: each goes up to the next newline
abbrev pub lines_in : List ℕ → List (List ℕ)
lines_in [] = []
lines_in (byte ∷ text) =
    if byte == newline then (byte ∷ []) ∷ lines_in text else before_first byte (lines_in text)
