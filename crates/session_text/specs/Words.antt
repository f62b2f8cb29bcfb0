-- What an ending is told by.
use Rattle.std.specs.Prelude.{ℕ, List, [], ◌∷◌}
use Rattle.std.specs.Fmt.{decimal}
use Rattle.session_text.specs.declared.report_lines.EndingWords.{EndingWords}
use Rattle.session_text.specs.declared.report_lines.EndingWords.TheVariants.{Bare, One, Two}

-- the words that are written so
abbrev pub words_in : EndingWords → List (List ℕ)
words_in (Bare word) = word.now ∷ []
words_in (One word number) = word.now ∷ decimal number ∷ []
words_in (Two word first second) = word.now ∷ decimal first ∷ decimal second ∷ []
