-- Worked scripts, which the definitions compute.
use Rattle.std.proofs.Common.{◌≡◌, [], ◌∷◌, Some, None, Ok, Err, refl}
use Rattle.std.specs.Prelude.{codes}
use Rattle.hex.specs.Hex.{encode_with, decode_pairs}
use Rattle.std.specs.Fmt.{digits}
use Rattle.session_script.specs.declared.Event.TheVariants.{Source, Rover, Open, Relay, In, Turn, Break, End}
use Rattle.session_script.specs.declared.ScriptKind.TheVariants.{Bare, Replay}
use Rattle.session_script.specs.declared.ScriptFault.TheVariants.{Line, State, NoStop}
use Rattle.session_script.specs.Line.{event_of_line, line_text}
use Rattle.session_script.specs.Script.{events_of_lines, script_of}

-- an empty script has no `stop`
empty : script_of Bare [] ≡ Err NoStop
unfolding script_of events_of_lines
empty = refl

unopened : script_of Bare (codes "in 5 00\nstop\n") ≡ Err (State 1)
unfolding script_of events_of_lines event_of_line decode_pairs
unopened = refl

large_budget : script_of Bare (codes "source 1 A\nturn 1 17\nstop\n") ≡ Err (Line 2)
unfolding script_of events_of_lines event_of_line decode_pairs
large_budget = refl

usual : script_of Bare (codes "source 1 A\nrover 2 A\nin 1 D3ff\nturn 2 16\nend 1\nbreak 2\nstop\nrest")
    ≡ Ok (Source 1 (65 ∷ []) ∷ Rover 2 (65 ∷ []) ∷ In 1 (0xD3 ∷ 0xFF ∷ []) ∷ Turn 2 16 ∷ End 1 ∷ Break 2 ∷ [])
unfolding script_of events_of_lines event_of_line decode_pairs
usual = refl

-- comments and empty lines are counted, and a CR before an LF is dropped
counted : script_of Bare (codes "# a\r\n\r\n\nsource 1 A\r\nturn 2 1\r\nstop\r\n") ≡ Err (State 5)
unfolding script_of events_of_lines event_of_line decode_pairs
counted = refl

-- in a last line without LF the CR stays
carriage : script_of Bare (codes "stop\r") ≡ Err (Line 1)
unfolding script_of events_of_lines event_of_line decode_pairs
carriage = refl

last_line : script_of Bare (codes "stop") ≡ Ok []
unfolding script_of events_of_lines event_of_line decode_pairs
last_line = refl

ended : script_of Bare (codes "source 1 A\nend 1\nturn 1 1\nstop\n") ≡ Err (State 3)
unfolding script_of events_of_lines event_of_line decode_pairs
ended = refl

-- a relay beyond the configured ones, however large its number
far_relay : script_of (Replay 2) (codes "relay 1 2\nrelay 2 99999999999999999999999999\nstop\n") ≡ Err (State 2)
unfolding script_of events_of_lines event_of_line decode_pairs
far_relay = refl

replay : script_of (Replay 2) (codes "open 7\nrelay 1 2\nstop\n") ≡ Ok (Open 7 ∷ Relay 1 1 ∷ [])
unfolding script_of events_of_lines event_of_line decode_pairs
replay = refl

-- K is from 1 to 9999, without leading zeros
numbers : (event_of_line (Replay 0) (codes "open 0") ≡ None) × (event_of_line (Replay 0) (codes "open 9999") ≡ Some
    (Open 9999))
    × (event_of_line (Replay 0) (codes "open 10000") ≡ None) × (event_of_line (Replay 0) (codes "open 01") ≡ None)
    × (event_of_line (Replay 0) (codes "open  1") ≡ None) × (event_of_line (Replay 0) (codes "open 1 ") ≡ None)
    × (event_of_line Bare (codes "open 1") ≡ None) × (event_of_line (Replay 0) (codes "source 1 A") ≡ None)
unfolding event_of_line
numbers = (refl, refl, refl, refl, refl, refl, refl, refl)

names : (event_of_line Bare (codes "rover 3 A;B") ≡ None) × (event_of_line Bare (codes "rover 3 ALPHA") ≡ Some
    (Rover 3 (codes "ALPHA")))
unfolding event_of_line
names = (refl, refl)

printed : (line_text (In 12 (0xD3 ∷ 0 ∷ [])) ≡ codes "in 12 d300") × (line_text (Relay 1 1) ≡ codes "relay 1 2")
    × (line_text (Source 9999 (65 ∷ [])) ≡ codes "source 9999 A")
unfolding encode_with digits
printed = (refl, refl, refl)
