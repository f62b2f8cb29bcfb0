-- How a session is written as a script, apart from reading: lines, comments, empty lines, the end.
use Rattle.std.specs.Prelude.{◌≡◌, ℕ, ◌-◌, ◌^◌, ◌<◌, Bool, not, ◌==◌, ◌⊎◌, if◌then◌else◌, List, [], ◌∷◌, ◌++◌, codes, Ok, IsTrue}
use Rattle.std.specs.List.{list_all, join_with_byte, flat_map}
use Rattle.std.specs.Fmt.{decimal}
use Rattle.hex.specs.Hex.{decode_of}
use Rattle.session_script.specs.declared.Event.{Event}
use Rattle.session_script.specs.declared.Event.TheVariants.{Relay, In}
use Rattle.session_script.specs.Line.{parts_of, line_text}
use Rattle.session_script.specs.Script.{is_skipped}

-- the parts of a line of the event: bytes that come in may be written with digits of either case
abbrev pub AreParts : Event → List (List ℕ) → Type 0
AreParts (In k bytes) parts =
    (digits : List ℕ) × (decode_of digits ≡ Ok bytes)
    × (parts ≡ codes "in" ∷ decimal k ∷ digits ∷ [])
AreParts event parts = parts ≡ parts_of event

-- the text is a line of the event: its parts, with one space between each two
abbrev pub IsLine : List ℕ → Event → Type 0
IsLine text event =
    (parts : List (List ℕ)) × AreParts event parts × (text ≡ join_with_byte 32 parts)

-- the event names no relay, or one that is not too large for any
abbrev pub IsNear : Event → Type 0
IsNear (Relay k n) = n < 2 ^ 32 - 1
IsNear event = Unit {0}

-- the text is an empty line or a comment, on one line
abbrev pub IsPassedOver : List ℕ → Type 0
IsPassedOver text = IsTrue (is_skipped text) × IsTrue (list_all (λ b. not (b == 10)) text)

-- a line of a script, and whether a CR stands before its LF
pub record Row : Type 0 where
  pub text : List ℕ
  pub carriage : Bool

abbrev pub row_text : Row → List ℕ
row_text row = row.text ++ (if row.carriage then 13 ∷ 10 ∷ [] else 10 ∷ [])

-- the rows have these events, in this order, with any comments and empty lines between them
abbrev pub HaveEvents : List Row → List Event → Type 0
HaveEvents [] events = events ≡ []
HaveEvents (row ∷ rows) events =
    (IsPassedOver row.text × HaveEvents rows events)
    ⊎ ((event : Event) × (others : List Event) × (events ≡ event ∷ others)
    × IsLine row.text event × HaveEvents rows others)

-- what may come behind `stop`: nothing, or the end of its line and any bytes
abbrev pub IsEnding : List ℕ → Type 0
IsEnding ending =
    (ending ≡ []) ⊎ ((more : List ℕ) × ((ending ≡ 10 ∷ more) ⊎ (ending ≡ 13 ∷ 10 ∷ more)))

-- the bytes are a script of these events
pub record IsWritten (bytes : List ℕ) (events : List Event) : Type 0 where
  pub rows : List Row
  pub ending : List ℕ
  pub have : HaveEvents rows events
  pub ends : IsEnding ending
  pub text : bytes ≡ flat_map row_text rows ++ (codes "stop" ++ ending)

-- the plain lines of the events, each with LF
abbrev pub lines_text : List Event → List ℕ
lines_text events = flat_map (λ event. line_text event ++ 10 ∷ []) events

-- the plain text of the events: a line for each, and `stop`
abbrev pub script_text : List Event → List ℕ
script_text events = lines_text events ++ codes "stop\n"
