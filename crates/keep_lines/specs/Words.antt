-- Words of a line, and how much room they take at most.
use Rattle.std.specs.Prelude.{◌≡◌, ◌≤◌, ℕ, ◌+◌, ⊤, not, ◌&&◌, nat_lt, ◌==◌, if◌then◌else◌, false, List, [], ◌∷◌, ◌++◌, codes, length, map}
use Rattle.std.specs.List.{flat_map}
use Rattle.std.specs.Fmt.{decimal}
use Rattle.caster_press.specs.Texts.{has_newline}
use Rattle.keep_lines.specs.declared.words.Word.{Word}
use Rattle.keep_lines.specs.declared.words.Word.TheVariants.{Text, Number, Named, Shown}

-- words, each with a space (32) before it
abbrev pub led : List (List ℕ) → List ℕ
led words = flat_map (λ (word : List ℕ). 32 ∷ word) words

-- a text of 100 bytes at most, within a line
pub record IsWord (text : List ℕ) : Type 0 where
  pub short : length text ≤ 100
  pub plain : has_newline text ≡ false

-- something that is not there
abbrev pub dash : List ℕ
dash = codes "-"

-- a space, a control character and DEL (0x7F) are shown as `_` (95), so that a text is one word
abbrev pub shown_byte : ℕ → ℕ
shown_byte byte = if nat_lt 32 byte && not (byte == 0x7F) then byte else 95

-- an address: a text of 1 to 100 bytes
abbrev pub shown : List ℕ → List ℕ
shown address =
    if length address == 0 then dash
    else if nat_lt 100 (length address) then dash
    else map shown_byte address

-- what a word writes
abbrev pub text_in : Word → List ℕ
text_in (Text text) = text.now
text_in (Number number) = decimal number
text_in (Named kind name) = kind.now ++ name.now
text_in (Shown address) = shown address.now

abbrev pub texts_in : List Word → List (List ℕ)
texts_in words = map text_in words

-- it writes no newline
abbrev pub IsPlain : Word → Type 0
IsPlain (Text text) = has_newline text.now ≡ false
IsPlain (Number number) = ⊤
IsPlain (Named kind name) = (has_newline kind.now ≡ false) × (has_newline name.now ≡ false)
IsPlain (Shown address) = ⊤

-- none of these does
abbrev pub ArePlain : List Word → Type 0
ArePlain [] = ⊤
ArePlain (word ∷ words) = IsPlain word × ArePlain words

-- the most bytes that it writes: a number of 64 bits has 20 digits at most, and of an address no
-- more than 100 bytes are shown
abbrev pub most_of : Word → ℕ
most_of (Text text) = length text.now
most_of (Number number) = 20
most_of (Named kind name) = length kind.now + length name.now
most_of (Shown address) = 100

-- the most bytes that these write, each with a space before it
abbrev pub room_for : List Word → ℕ
room_for [] = 0
room_for (word ∷ words) = (1 + most_of word) + room_for words
