-- A whole script: its events, or the first fault.
use Rattle.std.specs.Prelude.{◌≡◌, ℕ, ◌+◌, Bool, true, ◌&&◌, nat_lt, ◌==◌, if◌then◌else◌, List, [], ◌∷◌, length, codes, Some, None, Result, Ok, Err, IsTrue}
use Rattle.std.specs.Global.{Vec}
use Rattle.std.specs.Str.{bytes_eq}
use Rattle.std.specs.Str.Lines.{lines}
use Rattle.session_script.specs.declared.Event.{Event}
use Rattle.session_script.specs.declared.Event.TheVariants.{Source, Rover, Open, Relay, In, Turn, Break, End}
use Rattle.session_script.specs.declared.ScriptKind.{ScriptKind}
use Rattle.session_script.specs.declared.ScriptKind.TheVariants.{Bare, Replay}
use Rattle.session_script.specs.declared.ScriptFault.{ScriptFault}
use Rattle.session_script.specs.declared.ScriptFault.TheVariants.{Line, State, NoStop, Long, Memory}
use Rattle.session_script.specs.Line.{is_event, event_of_line}
use Rattle.session_script.specs.Numbers.{Numbers, no_numbers, may_open, may_speak, opening, closing}

-- ---- the order of events

-- the relay is one of the kind's
abbrev pub is_relay : ScriptKind → ℕ → Bool
is_relay Bare n = true
is_relay (Replay relays) n = nat_lt n relays

-- the event may come after these were opened and closed
abbrev pub may_follow : ScriptKind → Numbers → Event → Bool
may_follow kind numbers (Source k mount) = may_open numbers k
may_follow kind numbers (Rover k mount) = may_open numbers k
may_follow kind numbers (Open k) = may_open numbers k
may_follow kind numbers (Relay k n) = may_open numbers k && is_relay kind n
may_follow kind numbers (In k bytes) = may_speak numbers k
may_follow kind numbers (Turn k budget) = may_speak numbers k
may_follow kind numbers (Break k) = may_speak numbers k
may_follow kind numbers (End k) = may_speak numbers k

-- what is opened and closed after the event
abbrev pub after_event : Numbers → Event → Numbers
after_event numbers (Source k mount) = opening numbers k
after_event numbers (Rover k mount) = opening numbers k
after_event numbers (Open k) = opening numbers k
after_event numbers (Relay k n) = opening numbers k
after_event numbers (In k bytes) = numbers
after_event numbers (Turn k budget) = numbers
after_event numbers (Break k) = closing numbers k
after_event numbers (End k) = closing numbers k

-- ---- sessions

-- each event is of the kind and may come where it stands, after these were opened and closed
abbrev pub is_session_after : ScriptKind → Numbers → List Event → Bool
is_session_after kind numbers [] = true
is_session_after kind numbers (event ∷ events) =
    is_event kind event && may_follow kind numbers event
    && is_session_after kind (after_event numbers event) events

-- the events are a session of the kind: in the grammar's ranges, and in an order that they may have
abbrev pub IsSession : ScriptKind → List Event → Type 0
IsSession kind events = IsTrue (is_session_after kind no_numbers events)

-- ---- reading

-- an empty line, or a comment: it begins with `#`
abbrev pub is_skipped : List ℕ → Bool
is_skipped [] = true
is_skipped (b ∷ line) = b == 35

-- the event, and then those that are read
abbrev pub onto_events : Event → Result (List Event) ScriptFault → Result (List Event) ScriptFault
onto_events event (Ok events) = Ok (event ∷ events)
onto_events event (Err fault) = Err fault

-- the events of the lines, of which the first is line n, after these were opened and closed
unfoldable pub events_of_lines : ScriptKind → ℕ → Numbers → List (List ℕ)
    → Result (List Event) ScriptFault
events_of_lines kind n numbers [] = Err NoStop
events_of_lines kind n numbers (line ∷ lines) =
    if is_skipped line then events_of_lines kind (n + 1) numbers lines
    else if bytes_eq line (codes "stop") then Ok []
    else elim (event_of_line kind line) [
      | None ↦ Err (Line n)
      | Some event ↦
          if may_follow kind numbers event then
          onto_events event (events_of_lines kind (n + 1) (after_event numbers event) lines)
          else Err (State n)
    ]

-- the events of the script, or its first fault. A line ends with LF, of which a CR before it is a
-- part; the last line may have no LF.
unfoldable pub script_of : ScriptKind → List ℕ → Result (List Event) ScriptFault
script_of kind bytes =
    if nat_lt 8388608 (length bytes) then Err Long
    else events_of_lines kind 1 no_numbers (lines bytes)

-- ---- what a call returns

-- the call fails so, or for want of memory
abbrev pub Fails : {Y : Type 0} → ScriptFault → Result Y ScriptFault → Type 0
Fails Memory read = Unit {0}
Fails (Line n) read = read ≡ Err (Line n)
Fails (State n) read = read ≡ Err (State n)
Fails NoStop read = read ≡ Err NoStop
Fails Long read = read ≡ Err Long

-- the call returned this value or this fault, unless memory ran out
abbrev pub Gives : {Y : Type 0} → Result Y ScriptFault → Result Y ScriptFault → Type 0
Gives (Ok value) read = read ≡ Ok value
Gives (Err fault) read = Fails fault read

-- what a call returned, as the list of events
abbrev pub items_of : Result (Vec Event) ScriptFault → Result (List Event) ScriptFault
items_of (Ok events) = Ok events.items
items_of (Err fault) = Err fault

-- the bytes that come in with an event
abbrev pub input_length : Event → ℕ
input_length (In k bytes) = length bytes
input_length event = 0
