-- What is written as a script is read as it was.
use Rattle.std.proofs.Common.{◌≡◌, ℕ, zero, suc, ◌+◌, ◌-◌, ◌≤◌, Bool, true, false, cond, ◌&&◌, eqb, ltb, List, [], ◌∷◌, ◌++◌, length, take, get_or, map, Ok, refl, sym, ap, ◌∙◌, arith, inl, inr, append_assoc}
use Rattle.std.specs.Prelude.{codes}
use Rattle.std.specs.List.{list_all, flat_map}
use Rattle.std.specs.Str.Lines.{lines, strip_carriage_return}
use Rattle.std.proofs.lemmas.Bool.{cases_Bool, and_parts, ltb-true}
use Rattle.hex.specs.Hex.{IsBytes, encode_lower}
use Rattle.hex.proofs.HexLemmas.{decode_of-encode_lower}
use Rattle.session_script.specs.declared.Event.{Event}
use Rattle.session_script.specs.declared.Event.TheVariants.{Source, Rover, Open, Relay, In, Turn, Break, End}
use Rattle.session_script.specs.declared.ScriptKind.{ScriptKind}
use Rattle.session_script.specs.declared.reading.LineRead.TheVariants.{Skipped, Happens}
use Rattle.session_script.specs.Line.{parts_of, line_text, is_connection, is_input, is_event}
use Rattle.session_script.specs.Numbers.{Numbers, no_numbers}
use Rattle.session_script.specs.Script.{is_skipped, may_follow, after_event, is_session_after, IsSession, onto_events, events_of_lines, script_of}
use Rattle.session_script.specs.Reading.{line_read}
use Rattle.session_script.specs.Writing.{AreParts, Row, row_text, HaveEvents, IsEnding, IsWritten, script_text}
use Rattle.cast_text.specs.Split.{HasNone}
use Rattle.cast_text.proofs.SplitLemmas.{lines_front, none-append, none_if_all_fail, strip_none, strip_one}
use Rattle.session_script.proofs.WriteLemmas.{ReadsAs, line_reads}
use Rattle.session_script.proofs.ReadLemmas.{after_line, events_of_lines-step, script_small}

-- ---- rows

-- the first line that the bytes of a row begin with
abbrev row_line : Row → List ℕ
row_line row = cond row.carriage row.text (strip_carriage_return row.text)

row_front : (text : List ℕ) (carriage : Bool) (rest : List ℕ) → HasNone (λ b. eqb b 10) text
    → lines (row_text (record { text = text; carriage = carriage }) ++ rest) ≡ row_line
    (record { text = text; carriage = carriage }) ∷ lines rest
row_front text false rest none = ap lines (append_assoc text (10 ∷ []) rest) ∙ lines_front text rest none
row_front text true rest none =
    let regrouped : (text ++ 13 ∷ 10 ∷ []) ++ rest ≡ (text ++ 13 ∷ []) ++ 10 ∷ rest =
    append_assoc text (13 ∷ 10 ∷ []) rest ∙ sym (append_assoc text (13 ∷ []) (10 ∷ rest)) in
    ap lines regrouped ∙ lines_front (text ++ 13 ∷ []) rest (none-append (λ b. eqb b 10) text (13 ∷ []) none refl)
    ∙ ap (λ (line : List ℕ). line ∷ lines rest) (strip_one text)

shorter : (b d : ℕ) (text : List ℕ) → is_skipped (b ∷ d ∷ text) ≡ true
    → is_skipped (take (length (b ∷ d ∷ text) - 1) (b ∷ d ∷ text)) ≡ true
shorter b d text skipped = let e : length (b ∷ d ∷ text) - 1 ≡ suc (length text) = omega arith in rw e skipped

-- an empty line or a comment is one also without a CR at its end
skipped_strip : (text : List ℕ) → is_skipped text ≡ true → is_skipped (strip_carriage_return text) ≡ true
skipped_strip [] skipped = refl
skipped_strip (b ∷ []) skipped =
    elim (cases_Bool (eqb b 13)) [
      | inl return ↦ rw return refl
      | inr other ↦ rw other skipped
    ]
skipped_strip (b ∷ d ∷ text) skipped =
    elim (cases_Bool (eqb (get_or (b ∷ d ∷ text) (length (b ∷ d ∷ text) - 1) 0) 13)) [
      | inl return ↦ rw return (shorter b d text skipped)
      | inr other ↦ rw other skipped
    ]

skipped_line : (row : Row) → is_skipped row.text ≡ true → is_skipped (row_line row) ≡ true
skipped_line row skipped =
    elim (cases_Bool row.carriage) [
      | inl carriage ↦ rw carriage skipped
      | inr alone ↦ rw alone (skipped_strip row.text skipped)
    ]

event_line : (row : Row) → HasNone (λ b. eqb b 13) row.text → row_line row ≡ row.text
event_line row none =
    elim (cases_Bool row.carriage) [
      | inl carriage ↦ rw carriage refl
      | inr alone ↦ rw alone (strip_none row.text none)
    ]

-- ---- reading rows

passes_over : (kind : ScriptKind) (n : ℕ) (numbers : Numbers) (line : List ℕ) (ls : List (List ℕ))
    (events : List Event) → is_skipped line ≡ true
    → events_of_lines kind (n + 1) numbers ls ≡ Ok events → events_of_lines kind n numbers (line ∷ ls) ≡ Ok events
passes_over kind n numbers line ls events skipped others =
    let read : line_read kind n numbers line ≡ Ok Skipped = rw skipped refl in
    events_of_lines-step kind n numbers line ls ∙ ap (after_line kind n numbers ls) read ∙ others

takes_event : (kind : ScriptKind) (n : ℕ) (numbers : Numbers) (line : List ℕ) (ls : List (List ℕ)) (event : Event)
    (others : List Event)
    → ReadsAs kind line event → may_follow kind numbers event ≡ true
    → events_of_lines kind (n + 1) (after_event numbers event) ls ≡ Ok others
    → events_of_lines kind n numbers (line ∷ ls) ≡ Ok (event ∷ others)
takes_event kind n numbers line ls event others reads may more =
    let read : line_read kind n numbers line ≡ Ok (Happens event) = rw
    (reads.not_skipped, reads.not_stop, reads.found, may) refl in
    events_of_lines-step kind n numbers line ls ∙ ap (after_line kind n numbers ls) read ∙ ap (onto_events event) more

stop_then : (kind : ScriptKind) (n : ℕ) (numbers : Numbers) (ls : List (List ℕ))
    → events_of_lines kind n numbers (codes "stop" ∷ ls) ≡ Ok []
unfolding events_of_lines
stop_then kind n numbers ls = refl

-- the line `stop`, and what comes behind it
stop_ends : (kind : ScriptKind) (n : ℕ) (numbers : Numbers) (ending : List ℕ) → IsEnding ending
    → events_of_lines kind n numbers (lines (codes "stop" ++ ending)) ≡ Ok []
stop_ends kind n numbers ending (inl none) = ap (λ (rest : List ℕ). events_of_lines kind n numbers
    (lines (codes "stop" ++ rest))) none ∙ stop_then kind n numbers []
stop_ends kind n numbers ending (inr (more, inl feed)) =
    ap (λ (rest : List ℕ). events_of_lines kind n numbers (lines (codes "stop" ++ rest))) feed
    ∙ ap (events_of_lines kind n numbers) (row_front (codes "stop") false more refl)
    ∙ stop_then kind n numbers (lines more)
stop_ends kind n numbers ending (inr (more, inr return)) =
    ap (λ (rest : List ℕ). events_of_lines kind n numbers (lines (codes "stop" ++ rest))) return
    ∙ ap (events_of_lines kind n numbers) (row_front (codes "stop") true more refl)
    ∙ stop_then kind n numbers (lines more)

-- the rows and what follows them
rows_front : (row : Row) (rows : List Row) (tail : List ℕ) → HasNone (λ b. eqb b 10) row.text
    → lines (flat_map row_text (row ∷ rows) ++ tail) ≡ row_line row ∷ lines (flat_map row_text rows ++ tail)
rows_front row rows tail none =
    ap lines (append_assoc (row_text row) (flat_map row_text rows) tail)
    ∙ row_front row.text row.carriage (flat_map row_text rows ++ tail) none

rows_read : (kind : ScriptKind) (n : ℕ) (numbers : Numbers) (rows : List Row) (events : List Event) (tail : List ℕ)
    → HaveEvents rows events
    → is_session_after kind numbers events ≡ true
    → ((n : ℕ) (numbers : Numbers) → events_of_lines kind n numbers (lines tail) ≡ Ok [])
    → events_of_lines kind n numbers (lines (flat_map row_text rows ++ tail)) ≡ Ok events
rows_read kind n numbers [] events tail none session ends = ends n numbers ∙ ap (λ (es : List Event). Ok es) (sym none)
rows_read kind n numbers (row ∷ rows) events tail (inl (passed, others)) session ends =
    ap (events_of_lines kind n numbers) (rows_front row rows tail (none_if_all_fail (λ b. eqb b 10) row.text passed.1))
    ∙ passes_over kind n numbers (row_line row) (lines (flat_map row_text rows ++ tail)) events
    (skipped_line row passed.0)
    (rows_read kind (n + 1) numbers rows events tail others session ends)
rows_read kind n numbers (row ∷ rows) events tail (inr (event, others, is, line, more)) session ends =
    let both = and_parts (is_event kind event && may_follow kind numbers event)
    (is_session_after kind (after_event numbers event) others) (rw is at session) in
    let this = and_parts (is_event kind event) (may_follow kind numbers event) both.0 in
    let reads = line_reads kind row.text event this.0 line in
    let same : row_line row ≡ row.text = event_line row reads.returns in
    ap (events_of_lines kind n numbers)
    (rows_front row rows tail reads.feeds ∙ ap (λ (l : List ℕ). l ∷ lines (flat_map row_text rows ++ tail)) same)
    ∙ takes_event kind n numbers row.text (lines (flat_map row_text rows ++ tail)) event others reads this.1
    (rows_read kind (n + 1) (after_event numbers event) rows others tail more both.1 ends)
    ∙ ap (λ (es : List Event). Ok es) (sym is)

-- ---- the laws

pub reads_any : (kind : ScriptKind) (events : List Event) (bytes : List ℕ) → IsSession kind events
    → IsWritten bytes events → length bytes ≤ 8388608
    → script_of kind bytes ≡ Ok events
reads_any kind events bytes session written small =
    script_small kind bytes small ∙ ap (λ (bs : List ℕ). events_of_lines kind 1 no_numbers (lines bs)) written.text
    ∙ rows_read kind 1 no_numbers written.rows events (codes "stop" ++ written.ending) written.have session
    (λ n numbers. stop_ends kind n numbers written.ending written.ends)

-- ---- the plain text

bytes_are : (bs : List ℕ) → list_all (λ b. ltb b 256) bs ≡ true → IsBytes bs
bytes_are [] all i = omega arith
bytes_are (b ∷ bs) all zero = ltb-true b 256 (and_parts (ltb b 256) (list_all (λ c. ltb c 256) bs) all).0
bytes_are (b ∷ bs) all (suc i) = bytes_are bs (and_parts (ltb b 256) (list_all (λ c. ltb c 256) bs) all).1 i

plain_parts : (kind : ScriptKind) (event : Event) → is_event kind event ≡ true → AreParts event (parts_of event)
plain_parts kind (Source k mount) fits = refl
plain_parts kind (Rover k mount) fits = refl
plain_parts kind (Open k) fits = refl
plain_parts kind (Relay k n) fits = refl
plain_parts kind (In k bytes) fits =
    let all = (and_parts (is_connection k && is_input bytes) (list_all (λ b. ltb b 256) bytes) fits).1 in
    (encode_lower bytes, decode_of-encode_lower bytes (bytes_are bytes all), refl)
plain_parts kind (Turn k budget) fits = refl
plain_parts kind (Break k) fits = refl
plain_parts kind (End k) fits = refl

abbrev plain_row : Event → Row
plain_row event = record { text = line_text event; carriage = false }

plain_have : (kind : ScriptKind) (numbers : Numbers) (events : List Event)
    → is_session_after kind numbers events ≡ true → HaveEvents (map plain_row events) events
plain_have kind numbers [] session = refl
plain_have kind numbers (event ∷ events) session =
    let both = and_parts (is_event kind event && may_follow kind numbers event)
    (is_session_after kind (after_event numbers event) events) session in
    let fits = (and_parts (is_event kind event) (may_follow kind numbers event) both.0).0 in
    inr (
      event,
      events,
      refl,
      (parts_of event, plain_parts kind event fits, refl),
      plain_have kind
          (after_event numbers event) events both.1,
    )

plain_rows : (events : List Event)
    → flat_map (λ event. line_text event ++ 10 ∷ []) events ≡ flat_map row_text (map plain_row events)
plain_rows [] = refl
plain_rows (event ∷ events) = ap (λ (text : List ℕ). (line_text event ++ 10 ∷ []) ++ text) (plain_rows events)

pub reads_plain : (kind : ScriptKind) (events : List Event) → IsSession kind events
    → length (script_text events) ≤ 8388608
    → script_of kind (script_text events) ≡ Ok events
reads_plain kind events session small =
    reads_any kind events (script_text events) session
    (record {
      rows = map plain_row events;
      ending = 10 ∷ [];
      have = plain_have kind no_numbers events session;
      ends = inr ([], inl refl);
      text = ap (λ (text : List ℕ). text ++ codes "stop\n") (plain_rows events);
    })
    small
