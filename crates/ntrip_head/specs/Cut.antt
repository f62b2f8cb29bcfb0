-- A text cut in two.
use Rattle.std.specs.Prelude.{ℕ, ◌+◌, ◌==◌, List, [], take, drop, position, Option, Some, None}

-- the text before this place and the text after it; without a place, the whole and nothing
abbrev pub cut_at : Option ℕ → List ℕ → List ℕ × List ℕ
cut_at None text = (text, [])
cut_at (Some place) text = (take place text, drop (place + 1) text)

-- the text before the first of these bytes, and the text after it
abbrev pub cut_by : ℕ → List ℕ → List ℕ × List ℕ
cut_by byte text = cut_at (position (λ b. b == byte) text) text
