-- Words of a line.
use Rattle.std.proofs.Common.{◌≡◌, ◌∙◌, ℕ, zero, suc, ◌+◌, ◌<◌, ◌≤◌, ◌^◌, ◌==◌, ◌&&◌, leb, true, false, IsTrue, List, [], ◌∷◌, ◌++◌, length, take, get_or, refl, sym, ap, subst, append_assoc, arith}
use Rattle.std.specs.Prelude.{◌||◌}
use Rattle.std.specs.List.{join_with_byte, list_all}
use Rattle.std.specs.Fmt.{decimal}
use Rattle.std.proofs.lemmas.Bool.{and_parts, leb-true, ne_eqb}
use Rattle.std.proofs.lemmas.Fmt.{length-decimal-le}
use Rattle.std.proofs.lemmas.List.{append-nil, take_more}
use Rattle.std.proofs.lemmas.Grind.{flat_map-append}
use Rattle.cast_text.specs.Name.{is_name, is_name_byte}
use Rattle.caster_press.specs.Texts.{has_newline, newline}
use Rattle.session_model.specs.Text.{line}
use Rattle.keep_lines.specs.declared.words.Word.{Word}
use Rattle.keep_lines.specs.Words.{ArePlain, IsPlain, IsWord, led, most_of, room_for, text_in, texts_in}

-- a number of 64 bits has 20 digits at most
pub short_number : (n : ℕ) → n < 2 ^ 64 → length (decimal n) ≤ 20
short_number n fits = length-decimal-le 20 n (omega arith) (omega (arith, fits)) fits

-- ---- names are words

-- a byte of a name is no newline
plain_byte : (b : ℕ) → is_name_byte b ≡ true → (b == newline) ≡ false
plain_byte b is = ne_eqb b newline (λ at. absurd (newline_is_none (subst (λ (n : ℕ). is_name_byte n ≡ true) at is))) where
  newline_is_none : is_name_byte newline ≡ true → ⊥
  newline_is_none same = absurd cc

plain_name : (text : List ℕ) → list_all is_name_byte text ≡ true → has_newline text ≡ false
plain_name [] all = refl
plain_name (b ∷ text) all =
    let parts = and_parts (is_name_byte b) (list_all is_name_byte text) all in
    ap (λ t. t || has_newline text) (plain_byte b parts.0) ∙ plain_name text parts.1

pub name_is_word : (text : List ℕ) → IsTrue (is_name text) → IsWord text
name_is_word text name =
    let parts = and_parts (leb 1 (length text) && leb (length text) 100) (list_all is_name_byte text) name in
    let few = and_parts (leb 1 (length text)) (leb (length text) 100) parts.0 in
    record { short = leb-true (length text) 100 few.1; plain = plain_name text parts.1 }

-- ---- words with a space before each

-- words with a space between them are the first, and the others with a space before each
pub joined : (word : List ℕ) (words : List (List ℕ)) → join_with_byte 32 (word ∷ words) ≡ word ++ led words
joined word [] = sym (append-nil word)
joined word (next ∷ words) = ap (λ (l : List ℕ). word ++ 32 ∷ l) (joined next words)

pub led-append : (a b : List (List ℕ)) → led (a ++ b) ≡ led a ++ led b
led-append a b = flat_map-append (λ (word : List ℕ). 32 ∷ word) a b

-- a line, piece by piece
pub line_pieces : (word : List ℕ) (words : List (List ℕ)) (draft text : List ℕ) → draft ≡ word ++ led words
    → text ≡ draft ++ newline ∷ [] → text ≡ line (word ∷ words)
line_pieces word words draft text is ended =
    ended ∙ ap (λ (l : List ℕ). l ++ newline ∷ []) (is ∙ sym (joined word words))

-- words behind a text, and then more words
pub led_then : (old : List ℕ) (a b : List (List ℕ)) (mid now : List ℕ) → mid ≡ old ++ led a
    → now ≡ mid ++ led b → now ≡ old ++ led (a ++ b)
led_then old a b mid now first second =
    second ∙ ap (λ (l : List ℕ). l ++ led b) first ∙ append_assoc old (led a) (led b)
    ∙ ap (λ (l : List ℕ). old ++ l) (sym (led-append a b))

-- a line of three lists of words, piece by piece
pub three_pieces : (word : List ℕ) (front mid back : List (List ℕ)) (one two three text : List ℕ)
    → one ≡ word ++ led front → two ≡ one ++ led mid → three ≡ two ++ led back
    → text ≡ three ++ newline ∷ [] → text ≡ line (word ∷ (front ++ (mid ++ back)))
three_pieces word front mid back one two three text first second third ended =
    line_pieces word (front ++ (mid ++ back)) three text
    (led_then word front (mid ++ back) one three first (led_then one mid back two three second third)) ended

-- ---- a list of words, word by word

texts_in-append : (a b : List Word) → texts_in (a ++ b) ≡ texts_in a ++ texts_in b
texts_in-append [] b = refl
texts_in-append (word ∷ a) b = ap (λ (l : List (List ℕ)). text_in word ∷ l) (texts_in-append a b)

room_for-append : (a b : List Word) → room_for (a ++ b) ≡ room_for a + room_for b
room_for-append [] b = omega arith
room_for-append (word ∷ a) b = omega (arith, room_for-append a b)

-- the texts of one word more
pub led_more : (words : List Word) (i : ℕ) (d : Word) → i < length words → (old mid now : List ℕ)
    → mid ≡ old ++ led (texts_in (take i words)) → now ≡ mid ++ 32 ∷ text_in (get_or words i d)
    → now ≡ old ++ led (texts_in (take (i + 1) words))
led_more words i d within old mid now before appended =
    let word : Word = get_or words i d in
    led_then old (texts_in (take i words)) (text_in word ∷ []) mid now before
    (appended ∙ ap (λ (l : List ℕ). mid ++ 32 ∷ l) (sym (append-nil (text_in word))))
    ∙ ap (λ (l : List (List ℕ)). old ++ led l) (sym (texts_in-append (take i words) (word ∷ [])))
    ∙ ap (λ (l : List Word). old ++ led (texts_in l)) (sym (take_more words i d within))

room_more : (words : List Word) (i : ℕ) (d : Word) → i < length words
    → room_for (take (i + 1) words) ≡ room_for (take i words) + (1 + most_of (get_or words i d))
room_more words i d within =
    ap room_for (take_more words i d within) ∙ room_for-append (take i words) (get_or words i d ∷ [])
    ∙ omega arith

room_within : (words : List Word) (i : ℕ) (d : Word) → i < length words
    → room_for (take i words) + (1 + most_of (get_or words i d)) ≤ room_for words
room_within [] i d within = absurd (omega (arith, within))
room_within (word ∷ words) zero d within = omega arith
room_within (word ∷ words) (suc i) d within = omega (arith, room_within words i d (omega (arith, within)))

-- where there is room for all words, there is for the next one
pub room_next : (words : List Word) (i : ℕ) (d : Word) → i < length words → (old mid : ℕ)
    → mid ≤ old + room_for (take i words) → old + room_for words < 512 → mid + most_of (get_or words i d) < 511
room_next words i d within old mid so_far room = omega (arith, so_far, room, room_within words i d within)

-- and with it the words so far take no more than their room
pub short_next : (words : List Word) (i : ℕ) (d : Word) → i < length words → (old mid now : ℕ)
    → mid ≤ old + room_for (take i words) → now ≤ mid + (1 + most_of (get_or words i d))
    → now ≤ old + room_for (take (i + 1) words)
short_next words i d within old mid now so_far one = omega (arith, so_far, one, room_more words i d within)

pub plain_at : (words : List Word) (i : ℕ) (d : Word) → i < length words → ArePlain words
    → IsPlain (get_or words i d)
plain_at [] i d within plain = absurd (omega (arith, within))
plain_at (word ∷ words) zero d within plain = plain.0
plain_at (word ∷ words) (suc i) d within plain = plain_at words i d (omega (arith, within)) plain.1
