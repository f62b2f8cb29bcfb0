-- One event more of a script that is recorded.
use Rattle.std.proofs.Common.{◌≡◌, ◌∙◌, ◌<◌, ◌≤◌, ◌++◌, ◌+◌, ◌^◌, ℕ, true, List, [], ◌∷◌, length, length-append, refl, sym, ap, arith}
use Rattle.std.specs.Prelude.{◌&&◌}
use Rattle.std.specs.List.{sum_by}
use Rattle.std.specs.Fmt.{decimal}
use Rattle.std.proofs.lemmas.Bool.{and_parts, leb-true}
use Rattle.std.proofs.lemmas.Fmt.{length-decimal-le}
use Rattle.std.proofs.lemmas.List.{append-nil}
use Rattle.std.proofs.lemmas.List.Concat.{flat_map-append}
use Rattle.std.proofs.lemmas.List.Sums.{sum_by-cons}
use Rattle.hex.specs.Hex.{encode_lower, lower_digits}
use Rattle.hex.proofs.HexLemmas.{length-encode_with}
use Rattle.session_script.specs.declared.Event.{Event}
use Rattle.session_script.specs.declared.Event.TheVariants as events
use Rattle.session_script.specs.declared.ScriptKind.{ScriptKind}
use Rattle.session_script.specs.Line.{is_event, is_connection, is_input, is_replay, line_text}
use Rattle.session_script.specs.Numbers.{Numbers, no_numbers}
use Rattle.session_script.specs.Script.{is_session_after, IsSession, may_follow, input_length}
use Rattle.session_script.specs.Script as scripts
use Rattle.cast_config.specs.declared.config.Config.{Config}
use Rattle.caster_replay.specs.Going.{numbers_from}
use Rattle.caster_replay.specs.Kept.{MayCome}
use Rattle.session_script.specs.Writing.{lines_text}
use Rattle.caster_record.specs.Recording.{kind_of, IsOwn, IsNext, most_of}

-- ---- a session

more_from : (kind : ScriptKind) (numbers : Numbers) (script : List Event) (event : Event)
    → is_session_after kind numbers script ≡ true → is_event kind event ≡ true
    → may_follow kind (numbers_from numbers script) event ≡ true
    → is_session_after kind numbers (script ++ event ∷ []) ≡ true
more_from kind numbers [] event is fits follows = rw (fits, follows) refl
more_from kind numbers (e ∷ script) event is fits follows =
    let both = and_parts (is_event kind e && may_follow kind numbers e)
    (is_session_after kind (scripts.after_event numbers e) script) is in
    rw (both.0, more_from kind (scripts.after_event numbers e) script event both.1 fits follows) refl

-- ---- sizes

short_number : (k : ℕ) → k ≤ 9999 → length (decimal k) ≤ 4
short_number k few = length-decimal-le 4 k (omega arith) (omega (arith, few)) (omega arith)

number_of : (k : ℕ) → is_connection k ≡ true → k ≤ 9999
number_of k is = leb-true k 9999 (and_parts _ _ is).1

line_length : (event : Event) → length (line_text event ++ 10 ∷ []) ≡ length (line_text event) + 1
line_length event = length-append (line_text event) (10 ∷ [])

-- so many bytes a line has at most, and it has more than come in with it
pub line_within : (kind : ScriptKind) (event : Event) → IsOwn event → is_event kind event ≡ true
    → (length (line_text event ++ 10 ∷ []) ≤ most_of event) × (input_length event ≤ length (line_text event ++ 10 ∷ []))
line_within kind (events.Open k) own fits =
    let short = short_number k (number_of k (and_parts (is_replay kind) (is_connection k) fits).1) in
    (omega (arith, line_length (events.Open k), short), omega arith)
line_within kind (events.Relay k relay) own fits = absurd own
line_within kind (events.Source k mount) own fits = absurd own
line_within kind (events.Rover k mount) own fits = absurd own
line_within kind (events.In k bytes) own fits =
    let both = and_parts (is_connection k && is_input bytes) _ fits in
    let first = and_parts (is_connection k) (is_input bytes) both.0 in
    let most : length bytes ≤ 4096 = leb-true (length bytes) 4096 (and_parts _ _ first.1).1 in
    let short = short_number k (number_of k first.0) in
    let number = length-append (decimal k) (32 ∷ encode_lower bytes) in
    let digits = length-encode_with lower_digits bytes in (
      omega (arith, line_length (events.In k bytes), number, digits, most, short),
      omega (arith, line_length (events.In k bytes), number, digits),
    )
line_within kind (events.Turn k budget) own fits =
    let both = and_parts (is_connection k && _) _ fits in
    let first = and_parts (is_connection k) _ both.0 in
    let few = leb-true budget 16 both.1 in
    let short = short_number k (number_of k first.0) in
    let number = length-append (decimal k) (32 ∷ decimal budget) in
    let second = short_number budget (omega (arith, few)) in
    (omega (arith, line_length (events.Turn k budget), number, short, second), omega arith)
line_within kind (events.Break k) own fits =
    let short = short_number k (number_of k fits) in (omega (arith, line_length (events.Break k), short), omega arith)
line_within kind (events.End k) own fits =
    let short = short_number k (number_of k fits) in (omega (arith, line_length (events.End k), short), omega arith)

pub lines_more : (script : List Event) (event : Event)
    → lines_text (script ++ event ∷ []) ≡ lines_text script ++ (line_text event ++ 10 ∷ [])
lines_more script event =
    flat_map-append (λ (e : Event). line_text e ++ 10 ∷ []) script (event ∷ [])
    ∙ ap (λ (l : List ℕ). lines_text script ++ l) (append-nil (line_text event ++ 10 ∷ []))

-- ---- the next event

input_line : (event : Event) → input_length event ≤ length (line_text event ++ 10 ∷ [])
input_line (events.Open k) = omega arith
input_line (events.Relay k relay) = omega arith
input_line (events.Source k mount) = omega arith
input_line (events.Rover k mount) = omega arith
input_line (events.In k bytes) =
    let number = length-append (decimal k) (32 ∷ encode_lower bytes) in
    let digits = length-encode_with lower_digits bytes in
    omega (arith, line_length (events.In k bytes), number, digits)
input_line (events.Turn k budget) = omega arith
input_line (events.Break k) = omega arith
input_line (events.End k) = omega arith

pub input_lines : (script : List Event) → sum_by input_length script ≤ length (lines_text script)
input_lines [] = omega arith
input_lines (event ∷ script) =
    omega (
      arith,
      sum_by-cons input_length event script,
      input_line event,
      input_lines script,
      length-append (line_text event ++ 10 ∷ []) (lines_text script),
    )

pub most_line : (event : Event) → most_of event ≤ 8300
most_line (events.Open k) = omega arith
most_line (events.Relay k relay) = omega arith
most_line (events.Source k mount) = omega arith
most_line (events.Rover k mount) = omega arith
most_line (events.In k bytes) = omega arith
most_line (events.Turn k budget) = omega arith
most_line (events.Break k) = omega arith
most_line (events.End k) = omega arith

pub comes : (c : Config) (script : List Event) (event : Event) → IsSession (kind_of c) script → IsNext c script event
    → length (lines_text script) < 2 ^ 40 → MayCome c script event
comes c script event session next room =
    let within = line_within (kind_of c) event next.own next.fits in (
      [],
      (
        (kind_of c, omega arith, more_from (kind_of c) no_numbers script event session next.fits next.follows),
        omega (
          arith,
          room,
          input_lines (script ++ event ∷ []),
          ap length (lines_more script event),
          length-append (lines_text script) (line_text event ++ 10 ∷ []),
          within.0,
          most_line event,
        ),
      ),
    )

pub records_more : (c : Config) (script : List Event) (event : Event) → IsSession (kind_of c) script
    → IsNext c script event → IsSession (kind_of c) (script ++ event ∷ [])
records_more c script event session next = more_from (kind_of c) no_numbers script event session next.fits next.follows

pub size_more : (script : List Event) (event : Event) (old new : ℕ) → old ≡ length (lines_text script)
    → new ≡ old + length (line_text event ++ 10 ∷ []) → new ≡ length (lines_text (script ++ event ∷ []))
size_more script event old new is more =
    more ∙ ap (λ (n : ℕ). n + length (line_text event ++ 10 ∷ [])) is
    ∙ sym (length-append (lines_text script) (line_text event ++ 10 ∷ [])) ∙ ap length (sym (lines_more script event))
