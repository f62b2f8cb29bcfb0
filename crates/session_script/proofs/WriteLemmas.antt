-- A line of an event reads as that event.
use Rattle.std.proofs.Common.{◌≡◌, ℕ, ◌+◌, ◌^◌, ◌<◌, ◌≤◌, Bool, true, false, ◌&&◌, eqb, leb, ltb, List, [], ◌∷◌, ◌++◌, length, get_or, Some, Ok, refl, ap, subst, ◌∙◌, arith, inl, inr, rules}
use Rattle.std.specs.Prelude.{codes}
use Rattle.std.specs.List.{list_all, list_any, join_with_byte}
use Rattle.std.specs.Option.{option_and_then}
use Rattle.std.specs.Str.{bytes_eq}
use Rattle.std.specs.Fmt.{decimal}
use Rattle.std.proofs.lemmas.Bool.{cases_Bool, and_parts, eqb-true, or_from, ne_eqb, leb-true, le-leb, ltb-true, both_ways}
use Rattle.std.proofs.lemmas.Fmt.{decimal_nonempty, first_decimal, digits_decimal, digits_value-decimal}
use Rattle.std.proofs.lemmas.Str.Parse.{IsNumeralModel, numerals_by_fold}
use Rattle.std.proofs.lemmas.List.Sums.{list_all-from_AllPass}
use Rattle.hex.specs.Hex.{decode_of, is_hex_digit}
use Rattle.hex.proofs.HexLemmas.{decode_of-ok}
use Rattle.cast_text.specs.Name.{is_name_byte, is_name}
use Rattle.cast_text.proofs.NameLemmas.{name_of-name}
use Rattle.session_script.specs.declared.Event.{Event}
use Rattle.session_script.specs.declared.Event.TheVariants.{Source, Rover, Open, Relay, In, Turn, Break, End}
use Rattle.session_script.specs.declared.ScriptKind.{ScriptKind}
use Rattle.session_script.specs.Digits.{is_digit, number_from, number_of, at_most}
use Rattle.session_script.specs.Line.{parts_of, is_connection, is_bare, is_replay, is_input, is_event, mount_of, input_of, relay_number, short_event, long_event, event_of_parts, event_of_line}
use Rattle.session_script.specs.Script.{is_skipped}
use Rattle.session_script.specs.Writing.{IsLine}
use Rattle.cast_text.specs.Split.{HasNone}
use Rattle.cast_text.proofs.SplitLemmas.{none-append}
use Rattle.session_script.proofs.SplitLemmas.{split_two, split_three}

-- ---- parts without space, LF and CR

-- a byte that passes is none that does not
differs : (p : ℕ → Bool) (c b : ℕ) → p c ≡ false → p b ≡ true → eqb b c ≡ false
differs p c b fails holds =
    elim (cases_Bool (eqb b c)) [
      | inl same ↦ absurd (both_ways (p c) fails (subst (λ (x : ℕ). p x ≡ true) (eqb-true b c same) holds))
      | inr other ↦ other
    ]

none_from : (p : ℕ → Bool) (c : ℕ) → p c ≡ false → (text : List ℕ) → list_all p text ≡ true
    → HasNone (λ b. eqb b c) text
none_from p c fails [] all = refl
none_from p c fails (b ∷ text) all =
    let parts = and_parts (p b) (list_all p text) all in
    or_from (eqb b c) (list_any (λ b. eqb b c) text) (differs p c b fails parts.0) (none_from p c fails text parts.1)

record IsPlain (text : List ℕ) : Type 0 where
  spaces : HasNone (λ b. eqb b 32) text
  feeds : HasNone (λ b. eqb b 10) text
  returns : HasNone (λ b. eqb b 13) text

plain_from : (p : ℕ → Bool) → p 32 ≡ false → p 10 ≡ false → p 13 ≡ false → (text : List ℕ) → list_all p text ≡ true
    → IsPlain text
plain_from p space feed return text
    all = record {
      spaces = none_from p 32 space text all;
      feeds = none_from p 10 feed text all;
      returns = none_from
          p 13 return text all;
    }

-- ---- numbers

pub own : IsNumeralModel (λ ds. list_all is_digit ds ≡ true) (number_from 0)
own = numerals_by_fold (λ ds. list_all is_digit ds ≡ true) (search rules) number_from (search rules)

plain_decimal : (n : ℕ) → n < 2 ^ 64 → IsPlain (decimal n)
plain_decimal n small = plain_from is_digit refl refl refl (decimal n) (digits_decimal own n small)

-- a number from 1 is read as itself
number_of-decimal : (n : ℕ) → 1 ≤ n → n < 2 ^ 64 → number_of (decimal n) ≡ Some n
number_of-decimal n pos small =
    let some : leb 1 (length (decimal n)) ≡ true = le-leb 1 (length (decimal n)) (decimal_nonempty n small) in
    let first : eqb (get_or (decimal n) 0 0) 48 ≡ false = ne_eqb (get_or (decimal n) 0 0) 48
    (λ zero. let more = first_decimal n pos small in omega arith) in
    let all : list_all is_digit (decimal n) ≡ true = digits_decimal own n small in
    let value : number_from 0 (decimal n) ≡ n = digits_value-decimal own n small in
    rw (some, first, all, value) refl

within-decimal : (limit n : ℕ) → 1 ≤ n → n ≤ limit → limit < 2 ^ 64 → at_most limit (number_of (decimal n)) ≡ Some n
within-decimal limit n pos le small =
    ap (at_most limit) (number_of-decimal n pos (omega arith)) ∙ rw (le-leb n limit le) refl

-- ---- lines

-- the text is the line of the event, and no comment, empty line or `stop`
pub record ReadsAs (kind : ScriptKind) (text : List ℕ) (event : Event) : Type 0 where
  pub found : event_of_line kind text ≡ Some event
  pub feeds : HasNone (λ b. eqb b 10) text
  pub returns : HasNone (λ b. eqb b 13) text
  pub not_skipped : is_skipped text ≡ false
  pub not_stop : bytes_eq text (codes "stop") ≡ false

connection : (k : ℕ) → is_connection k ≡ true → at_most 9999 (number_of (decimal k)) ≡ Some k
connection k number =
    let parts = and_parts (leb 1 k) (leb k 9999) number in
    within-decimal 9999 k (leb-true 1 k parts.0) (leb-true k 9999 parts.1) (omega arith)

plain_connection : (k : ℕ) → is_connection k ≡ true → IsPlain (decimal k)
plain_connection k number =
    let most = leb-true k 9999 (and_parts (leb 1 k) (leb k 9999) number).1 in
    plain_decimal k (omega arith)

-- a word that begins no comment and is not `stop`
record IsWord (word : List ℕ) : Type 0 where
  plain : IsPlain word
  not_skipped : (more : List ℕ) → is_skipped (word ++ 32 ∷ more) ≡ false
  not_stop : (more : List ℕ) → bytes_eq (word ++ 32 ∷ more) (codes "stop") ≡ false

two_reads : (kind : ScriptKind) (word : List ℕ) (k : ℕ) (event : Event) → IsWord word → is_connection k ≡ true
    → short_event kind word k ≡ Some event
    → ReadsAs kind (join_with_byte 32 (word ∷ decimal k ∷ [])) event
unfolding event_of_line
two_reads kind word k event w number reads =
    let plain = plain_connection k number in
    record {
      found = ap (event_of_parts kind) (split_two word (decimal k) w.plain.spaces plain.spaces)
          ∙ ap (option_and_then (λ n. short_event kind word n)) (connection k number) ∙ reads;
      feeds = none-append (λ b. eqb b 10) word (32 ∷ decimal k) w.plain.feeds plain.feeds;
      returns = none-append (λ b. eqb b 13) word (32 ∷ decimal k) w.plain.returns plain.returns;
      not_skipped = w.not_skipped (decimal k);
      not_stop = w.not_stop (decimal k);
    }

three_reads : (kind : ScriptKind) (word : List ℕ) (k : ℕ) (value : List ℕ) (event : Event) → IsWord word
    → is_connection k ≡ true → IsPlain value
    → long_event kind word k value ≡ Some event → ReadsAs kind (join_with_byte 32 (word ∷ decimal k ∷ value ∷ [])) event
unfolding event_of_line
three_reads kind word k value event w number v reads =
    let plain = plain_connection k number in
    record {
      found = ap (event_of_parts kind) (split_three word (decimal k) value w.plain.spaces plain.spaces v.spaces)
          ∙ ap (option_and_then (λ n. long_event kind word n value)) (connection k number) ∙ reads;
      feeds = none-append (λ b. eqb b 10) word (32 ∷ (decimal k ++ 32 ∷ value)) w.plain.feeds
          (none-append (λ b. eqb b 10) (decimal k) (32 ∷ value) plain.feeds v.feeds);
      returns = none-append (λ b. eqb b 13) word (32 ∷ (decimal k ++ 32 ∷ value)) w.plain.returns
          (none-append (λ b. eqb b 13) (decimal k) (32 ∷ value) plain.returns v.returns);
      not_skipped = w.not_skipped (decimal k ++ 32 ∷ value);
      not_stop = w.not_stop (decimal k ++ 32 ∷ value);
    }

source_word : IsWord (codes "source")
source_word = record {
  plain = record { spaces = refl; feeds = refl; returns = refl };
  not_skipped = λ _. refl;
  not_stop = λ _. refl;
}

rover_word : IsWord (codes "rover")
rover_word = record {
  plain = record { spaces = refl; feeds = refl; returns = refl };
  not_skipped = λ _. refl;
  not_stop = λ _. refl;
}

open_word : IsWord (codes "open")
open_word = record {
  plain = record { spaces = refl; feeds = refl; returns = refl };
  not_skipped = λ _. refl;
  not_stop = λ _. refl;
}

relay_word : IsWord (codes "relay")
relay_word = record {
  plain = record { spaces = refl; feeds = refl; returns = refl };
  not_skipped = λ _. refl;
  not_stop = λ _. refl;
}

in_word : IsWord (codes "in")
in_word = record {
  plain = record { spaces = refl; feeds = refl; returns = refl };
  not_skipped = λ _. refl;
  not_stop = λ _. refl;
}

turn_word : IsWord (codes "turn")
turn_word = record {
  plain = record { spaces = refl; feeds = refl; returns = refl };
  not_skipped = λ _. refl;
  not_stop = λ _. refl;
}

break_word : IsWord (codes "break")
break_word = record {
  plain = record { spaces = refl; feeds = refl; returns = refl };
  not_skipped = λ _. refl;
  not_stop = λ _. refl;
}

end_word : IsWord (codes "end")
end_word = record {
  plain = record { spaces = refl; feeds = refl; returns = refl };
  not_skipped = λ _. refl;
  not_stop = λ _. refl;
}

plain_name : (mount : List ℕ) → is_name mount ≡ true → IsPlain mount
plain_name mount name =
    plain_from is_name_byte refl refl refl mount
    (and_parts (leb 1 (length mount) && leb (length mount) 100) (list_all is_name_byte mount) name).1

mount_of-name : (mount : List ℕ) → is_name mount ≡ true → mount_of mount ≡ Some mount
mount_of-name mount name = rw (name_of-name mount name) refl

plain_digits : (digits bytes : List ℕ) → decode_of digits ≡ Ok bytes → IsPlain digits
plain_digits digits bytes e = plain_from is_hex_digit refl refl refl digits
    (list_all-from_AllPass is_hex_digit digits (decode_of-ok digits bytes e).1)

input_of-digits : (digits bytes : List ℕ) → is_input bytes ≡ true → decode_of digits ≡ Ok bytes
    → input_of digits ≡ Some bytes
input_of-digits digits bytes input e = rw (e, input) refl

-- in each kind, a line of the event
source_reads : (kind : ScriptKind) (k : ℕ) (mount : List ℕ) → is_event kind (Source k mount) ≡ true
    → ReadsAs kind (join_with_byte 32 (parts_of (Source k mount))) (Source k mount)
source_reads kind k mount fits =
    let a = and_parts (is_bare kind && is_connection k) (is_name mount) fits in
    let b = and_parts (is_bare kind) (is_connection k) a.0 in
    three_reads kind (codes "source") k mount (Source k mount) source_word b.1 (plain_name mount a.1)
    (rw (b.0, mount_of-name mount a.1) refl)

rover_reads : (kind : ScriptKind) (k : ℕ) (mount : List ℕ) → is_event kind (Rover k mount) ≡ true
    → ReadsAs kind (join_with_byte 32 (parts_of (Rover k mount))) (Rover k mount)
rover_reads kind k mount fits =
    let a = and_parts (is_bare kind && is_connection k) (is_name mount) fits in
    let b = and_parts (is_bare kind) (is_connection k) a.0 in
    three_reads kind (codes "rover") k mount (Rover k mount) rover_word b.1 (plain_name mount a.1)
    (rw (b.0, mount_of-name mount a.1) refl)

open_reads : (kind : ScriptKind) (k : ℕ) → is_event kind (Open k) ≡ true
    → ReadsAs kind (join_with_byte 32 (parts_of (Open k))) (Open k)
open_reads kind k fits =
    let b = and_parts (is_replay kind) (is_connection k) fits in
    two_reads kind (codes "open") k (Open k) open_word b.1 (rw b.0 refl)

relay_reads : (kind : ScriptKind) (k n : ℕ) → is_event kind (Relay k n) ≡ true
    → ReadsAs kind (join_with_byte 32 (parts_of (Relay k n))) (Relay k n)
relay_reads kind k n fits =
    let a = and_parts (is_replay kind && is_connection k) (ltb n (2 ^ 32)) fits in
    let b = and_parts (is_replay kind) (is_connection k) a.0 in
    let small : n < 2 ^ 32 = ltb-true n (2 ^ 32) a.1 in
    let same : relay_number (n + 1) ≡ n = omega arith in
    three_reads kind (codes "relay") k (decimal (n + 1)) (Relay k n) relay_word b.1
    (plain_decimal (n + 1) (omega arith))
    (rw (b.0, number_of-decimal (n + 1) (omega arith) (omega arith), same) refl)

in_reads : (kind : ScriptKind) (k : ℕ) (bytes digits : List ℕ) → is_event kind (In k bytes) ≡ true
    → decode_of digits ≡ Ok bytes
    → ReadsAs kind (join_with_byte 32 (codes "in" ∷ decimal k ∷ digits ∷ [])) (In k bytes)
in_reads kind k bytes digits fits e =
    let a = and_parts (is_connection k && is_input bytes) (list_all (λ b. ltb b 256) bytes) fits in
    let b = and_parts (is_connection k) (is_input bytes) a.0 in
    three_reads kind (codes "in") k digits (In k bytes) in_word b.0 (plain_digits digits bytes e)
    (rw (input_of-digits digits bytes b.1 e) refl)

turn_reads : (kind : ScriptKind) (k budget : ℕ) → is_event kind (Turn k budget) ≡ true
    → ReadsAs kind (join_with_byte 32 (parts_of (Turn k budget))) (Turn k budget)
turn_reads kind k budget fits =
    let a = and_parts (is_connection k && leb 1 budget) (leb budget 16) fits in
    let b = and_parts (is_connection k) (leb 1 budget) a.0 in
    let most : budget ≤ 16 = leb-true budget 16 a.1 in
    three_reads kind (codes "turn") k (decimal budget) (Turn k budget) turn_word b.0
    (plain_decimal budget (omega arith))
    (rw (within-decimal 16 budget (leb-true 1 budget b.1) most (omega arith)) refl)

-- a line of an event reads as that event
pub line_reads : (kind : ScriptKind) (text : List ℕ) (event : Event) → is_event kind event ≡ true → IsLine text event
    → ReadsAs kind text event
line_reads kind text (Source k mount) fits (parts, are, is) = rw (is, are) (source_reads kind k mount fits)
line_reads kind text (Rover k mount) fits (parts, are, is) = rw (is, are) (rover_reads kind k mount fits)
line_reads kind text (Open k) fits (parts, are, is) = rw (is, are) (open_reads kind k fits)
line_reads kind text (Relay k n) fits (parts, are, is) = rw (is, are) (relay_reads kind k n fits)
line_reads kind text (In k bytes) fits (parts, (digits, decodes, are), is) = rw (is, are)
    (in_reads kind k bytes digits fits decodes)
line_reads kind text (Turn k budget) fits (parts, are, is) = rw (is, are) (turn_reads kind k budget fits)
line_reads kind text (Break k) fits (parts, are, is) = rw (is, are) (two_reads kind (codes "break") k (Break k)
    break_word fits refl)
line_reads kind text (End k) fits (parts, are, is) = rw (is, are) (two_reads kind (codes "end") k (End k) end_word fits
    refl)
