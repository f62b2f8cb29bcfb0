-- Lines, and the text of a history of lines.
use Rattle.std.specs.Prelude.{◌≡◌, ◌<◌, ℕ, List, [], ◌∷◌, ◌++◌, length, map, take}
use Rattle.turn_log.specs.History.{History}
use Rattle.caster_press.specs.declared.line.Line.{Line}

-- the bytes of a line, with its newline
abbrev pub text_of : Line → List ℕ
text_of line = take line.len line.bytes

-- the bytes of these lines, in order
abbrev pub text_of_all : List Line → List ℕ
text_of_all [] = []
text_of_all (line ∷ lines) = text_of line ++ text_of_all lines

-- the lines of a history, whoever put them
abbrev pub lines_of : History Line → List Line
lines_of h = map (λ (entry : ℕ × Line). entry.1) h

-- the bytes of the lines of a history
abbrev pub text_in : History Line → List ℕ
text_in h = text_of_all (lines_of h)

-- some first bytes of the next line, and not all of it; nothing where there is no next line
abbrev pub IsPartOfNext : List ℕ → History Line → Type 0
IsPartOfNext part [] = part ≡ []
IsPartOfNext part (entry ∷ rest) =
    (n : ℕ) × (n < length (text_of entry.1)) × (part ≡ take n (text_of entry.1))

-- the text is some first lines of the history, each whole, and a part of the next line
pub record IsFirstOf (text : List ℕ) (h : History Line) : Type 0 where
  pub done : History Line
  pub rest : History Line
  pub part : List ℕ
  pub all : h ≡ done ++ rest
  pub next : IsPartOfNext part rest
  pub text_is : text ≡ text_in done ++ part
