-- The words that come as lines of an input.
use Rattle.std.specs.Prelude.{ℕ, ◌==◌, nat_le, nat_lt, Bool, true, false, if◌then◌else◌, codes}
use Rattle.std.specs.Prelude.{List, [], ◌∷◌, ◌++◌, length, take}
use Rattle.std.specs.Prelude.{Option, None, Some, option_and_then, option_to_list}
use Rattle.std.specs.Str.{bytes_eq}
use Rattle.std.specs.Str.Lines.{strip_carriage_return}
use Rattle.caster_net.specs.declared.words.Word.{Word}
use Rattle.caster_net.specs.declared.words.Word.TheVariants as words

-- the bytes that came of a line that has not ended: so many first ones of those that are kept, or
-- none of them where more than 32 came, as it is no word then
abbrev pub line_kept : ℕ → List ℕ → Option (List ℕ)
line_kept count bytes = if nat_le count 32 then Some (take count bytes) else None

-- the word that a line is, if it is one: a CR at its end is no part of it
abbrev pub word_of : List ℕ → Option Word
word_of line =
    if bytes_eq (strip_carriage_return line) (codes "stop") then Some words.Stop
    else if bytes_eq (strip_carriage_return line) (codes "status") then Some words.Status
    else None

-- a line of which this byte came too: none where it gets longer than 32 bytes
abbrev pub longer : Option (List ℕ) → ℕ → Option (List ℕ)
longer None byte = None
longer (Some line) byte = if nat_lt (length line) 32 then Some (line ++ byte ∷ []) else None

-- the line behind this byte: LF (10) ends one, and the next one begins
abbrev pub line_behind : Option (List ℕ) → ℕ → Option (List ℕ)
line_behind line byte = if byte == 10 then Some [] else longer line byte

-- the word that ends with this byte, if one does: LF ends a line, and no other byte does
abbrev pub word_ended : Option (List ℕ) → ℕ → Option Word
word_ended line byte = if byte == 10 then option_and_then word_of line else None

-- the words that end within these bytes, the next ones of this line
abbrev pub words_in : Option (List ℕ) → List ℕ → List Word
words_in line [] = []
words_in line (byte ∷ more) =
    option_to_list (word_ended line byte) ++ words_in (line_behind line byte) more

-- and the line that is coming behind all of them
abbrev pub line_behind_all : Option (List ℕ) → List ℕ → Option (List ℕ)
line_behind_all line [] = line
line_behind_all line (byte ∷ more) = line_behind_all (line_behind line byte) more

-- the word asks to stop
abbrev pub is_stop : Word → Bool
is_stop words.Stop = true
is_stop words.Status = false

-- the word asks how things stand
abbrev pub is_status : Word → Bool
is_status words.Stop = false
is_status words.Status = true
