-- The lines of a script: what the line of an event is, and which event a line is.
use Rattle.std.specs.Prelude.{ℕ, ◌+◌, ◌-◌, ◌^◌, min, Bool, true, false, ◌&&◌, nat_le, nat_lt, ◌==◌, if◌then◌else◌, List, [], ◌∷◌, length, codes, Option, Some, None}
use Rattle.std.specs.List.{list_all, slice_split, join_with_byte}
use Rattle.std.specs.Option.{option_map, option_and_then}
use Rattle.std.specs.Result.{result_ok}
use Rattle.std.specs.Str.{bytes_eq}
use Rattle.std.specs.Fmt.{decimal}
use Rattle.hex.specs.Hex.{encode_lower, decode_of}
use Rattle.cast_text.specs.Name.{is_name, name_of}
use Rattle.session_script.specs.declared.Event.{Event}
use Rattle.session_script.specs.declared.Event.TheVariants.{Source, Rover, Open, Relay, In, Turn, Break, End}
use Rattle.session_script.specs.declared.ScriptKind.{ScriptKind}
use Rattle.session_script.specs.declared.ScriptKind.TheVariants.{Bare, Replay}
use Rattle.session_script.specs.Digits.{number_of, at_most}

-- ---- from an event to its line

-- the parts of the event's line: the word, the connection's number, and what belongs to the word
abbrev pub parts_of : Event → List (List ℕ)
parts_of (Source k mount) = codes "source" ∷ decimal k ∷ mount ∷ []
parts_of (Rover k mount) = codes "rover" ∷ decimal k ∷ mount ∷ []
parts_of (Open k) = codes "open" ∷ decimal k ∷ []
parts_of (Relay k n) = codes "relay" ∷ decimal k ∷ decimal (n + 1) ∷ []
parts_of (In k bytes) = codes "in" ∷ decimal k ∷ encode_lower bytes ∷ []
parts_of (Turn k budget) = codes "turn" ∷ decimal k ∷ decimal budget ∷ []
parts_of (Break k) = codes "break" ∷ decimal k ∷ []
parts_of (End k) = codes "end" ∷ decimal k ∷ []

-- the event's line: its parts, with one space between each two
abbrev pub line_text : Event → List ℕ
line_text event = join_with_byte 32 (parts_of event)

-- ---- which events have a line

-- a connection's number is from 1 to 9999
abbrev pub is_connection : ℕ → Bool
is_connection k = nat_le 1 k && nat_le k 9999

-- the kind has lines `source` and `rover`
abbrev pub is_bare : ScriptKind → Bool
is_bare Bare = true
is_bare (Replay relays) = false

-- the kind has lines `open` and `relay`
abbrev pub is_replay : ScriptKind → Bool
is_replay Bare = false
is_replay (Replay relays) = true

-- 1 to 4,096 bytes
abbrev pub is_input : List ℕ → Bool
is_input bytes = nat_le 1 (length bytes) && nat_le (length bytes) 4096

-- the event is of the kind, and in the grammar's ranges
abbrev pub is_event : ScriptKind → Event → Bool
is_event kind (Source k mount) = is_bare kind && is_connection k && is_name mount
is_event kind (Rover k mount) = is_bare kind && is_connection k && is_name mount
is_event kind (Open k) = is_replay kind && is_connection k
is_event kind (Relay k n) = is_replay kind && is_connection k && nat_lt n (2 ^ 32)
is_event kind (In k bytes) = is_connection k && is_input bytes && list_all (λ b. nat_lt b 256) bytes
is_event kind (Turn k budget) = is_connection k && nat_le 1 budget && nat_le budget 16
is_event kind (Break k) = is_connection k
is_event kind (End k) = is_connection k

-- ---- from a line to its event

-- a mountpoint's name
abbrev pub mount_of : List ℕ → Option (List ℕ)
mount_of text = result_ok (name_of text)

-- the bytes, if there are 1 to 4,096
abbrev pub input_within : Option (List ℕ) → Option (List ℕ)
input_within None = None
input_within (Some bytes) = if is_input bytes then Some bytes else None

-- 1 to 4,096 bytes as hexadecimal digits, of either case
abbrev pub input_of : List ℕ → Option (List ℕ)
input_of text = input_within (result_ok (decode_of text))

-- a relay's number from 0, of the number from 1. No relay has the last number of a u32: it stands
-- for each number that is too large.
abbrev pub relay_number : ℕ → ℕ
relay_number n = min (n - 1) (2 ^ 32 - 1)

-- the lines of two parts
abbrev pub short_event : ScriptKind → List ℕ → ℕ → Option Event
short_event kind word k =
    if bytes_eq word (codes "break") then Some (Break k)
    else if bytes_eq word (codes "end") then Some (End k)
    else if bytes_eq word (codes "open") && is_replay kind then Some (Open k)
    else None

-- the events of lines with a third part
abbrev pub in_event : ℕ → List ℕ → Option Event
in_event k value = option_map (λ bytes. In k bytes) (input_of value)

abbrev pub turn_event : ℕ → List ℕ → Option Event
turn_event k value = option_map (λ budget. Turn k budget) (at_most 16 (number_of value))

abbrev pub source_event : ℕ → List ℕ → Option Event
source_event k value = option_map (λ mount. Source k mount) (mount_of value)

abbrev pub rover_event : ℕ → List ℕ → Option Event
rover_event k value = option_map (λ mount. Rover k mount) (mount_of value)

abbrev pub relay_event : ℕ → List ℕ → Option Event
relay_event k value = option_map (λ n. Relay k (relay_number n)) (number_of value)

-- the lines of three parts that open a connection
abbrev pub opening_event : ScriptKind → List ℕ → ℕ → List ℕ → Option Event
opening_event kind word k value =
    if bytes_eq word (codes "source") && is_bare kind then source_event k value
    else if bytes_eq word (codes "rover") && is_bare kind then rover_event k value
    else if bytes_eq word (codes "relay") && is_replay kind then relay_event k value
    else None

-- the lines of three parts
abbrev pub long_event : ScriptKind → List ℕ → ℕ → List ℕ → Option Event
long_event kind word k value =
    if bytes_eq word (codes "in") then in_event k value
    else if bytes_eq word (codes "turn") then turn_event k value
    else opening_event kind word k value

-- the event of these parts
abbrev pub event_of_parts : ScriptKind → List (List ℕ) → Option Event
event_of_parts kind [] = None
event_of_parts kind (word ∷ []) = None
event_of_parts kind (word ∷ number ∷ []) =
    option_and_then (λ k. short_event kind word k) (at_most 9999 (number_of number))
event_of_parts kind (word ∷ number ∷ value ∷ []) =
    option_and_then (λ k. long_event kind word k value) (at_most 9999 (number_of number))
event_of_parts kind (word ∷ number ∷ value ∷ more ∷ others) = None

-- the event of this line, if it is of a form of its kind: its parts are what stands between spaces
unfoldable pub event_of_line : ScriptKind → List ℕ → Option Event
event_of_line kind line = event_of_parts kind (slice_split (λ b. b == 32) line)
