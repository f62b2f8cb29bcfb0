-- Which connections of a run go on, and which of them have frames to read: facts of its events.
use Rattle.std.specs.Prelude.{◌≡◌, ℕ, nat_lt, ◌&&◌, if◌then◌else◌, Bool, true, false, List, [], ◌∷◌, ◌++◌, length, Option, None}
use Rattle.std.specs.List.{list_any}
use Rattle.mount_ring.specs.declared.call.RingCall.{RingCall}
use Rattle.mount_ring.specs.History.{state_of}
use Rattle.turn_log.specs.History.{History}
use Rattle.rover_cursor.specs.declared.segment.Segment.{Segment}
use Rattle.rover_session.specs.Made.{segments_after}
use Rattle.session_calls.specs.Rings.{history_at}
use Rattle.session_script.specs.declared.Event.{Event}
use Rattle.session_script.specs.Numbers.{Numbers, no_numbers, may_speak}
use Rattle.session_script.specs.Script as scripts
use Rattle.cast_config.specs.declared.config.Config.{Config}
use Rattle.session_model.specs.Headings.{Heading}
use Rattle.session_core.specs.declared.rover_state.RoverState.{RoverState}
use Rattle.session_model.specs.Owed.{came_to}
use Rattle.session_model.specs.Replies.{version_of}
use Rattle.session_model.specs.Reports.{AreHeadings}
use Rattle.session_model.specs.Run.{Connected, World, judged_of, is_concerned, after_events}
use Rattle.session_core.specs.States.{state_in}

-- ---- after these events

-- whether the connection of this number was opened and goes on
abbrev pub is_going : Config → (ℕ → Heading) → World → ℕ → Bool
is_going c headings w n =
    list_any (λ (d : Connected). is_concerned c (headings d.number) n d) w.connections

-- whether the mountpoint of the newest segment published more frames than the segment has passed
abbrev pub has_frames : List (History RingCall) → List Segment → Bool
has_frames rings [] = false
has_frames rings (newest ∷ older) =
    nat_lt newest.cursor.next (length (state_of (history_at rings newest.mount)).published)

-- whether it was opened and goes on, and has frames to read
abbrev pub is_behind : Config → (ℕ → Heading) → World → ℕ → Bool
is_behind c headings w n =
    list_any (λ (d : Connected). is_concerned c (headings d.number) n d
    && has_frames w.histories.rings (segments_after [] d.steps)) w.connections

-- where a connection stands, if it is a rover and has a segment
abbrev pub rover_of : Config → Heading → Connected → Option RoverState
rover_of c heading d =
    state_in (version_of (came_to (judged_of c heading d) d.steps)) (segments_after [] d.steps)

-- where the rover of this number stands among these connections, if it goes on and has a segment
abbrev pub rover_among : Config → (ℕ → Heading) → ℕ → List Connected → Option RoverState
rover_among c headings n [] = None
rover_among c headings n (d ∷ more) =
    if is_concerned c (headings d.number) n d then rover_of c (headings d.number) d
    else rover_among c headings n more

-- ---- the answers

-- so it is answered whether the connection of this number goes on
abbrev pub GoesOn : Config → List Event → ℕ → (goes_on : Bool) → Type 0
GoesOn c script n answer =
    (headings : ℕ → Heading) → AreHeadings script headings
    → answer ≡ is_going c headings (after_events c headings script) n

-- and whether it has frames to read
abbrev pub IsBehind : Config → List Event → ℕ → (behind : Bool) → Type 0
IsBehind c script n answer =
    (headings : ℕ → Heading) → AreHeadings script headings
    → answer ≡ is_behind c headings (after_events c headings script) n

-- and where it stands as a rover, whatever events follow
abbrev pub IsRover : Config → List Event → ℕ → Option RoverState → Type 0
IsRover c script n answer =
    (more : List Event) (headings : ℕ → Heading) → AreHeadings (script ++ more) headings
    → answer ≡ rover_among c headings n (after_events c headings script).connections

-- ---- what may be said of it next

-- the numbers that were opened and closed by these events, after those
abbrev pub numbers_from : Numbers → List Event → Numbers
numbers_from numbers [] = numbers
numbers_from numbers (event ∷ events) = numbers_from (scripts.after_event numbers event) events

-- an event of a script may bring bytes on it, give it a turn or close it
abbrev pub MaySpeak : List Event → ℕ → Type 0
MaySpeak script n = may_speak (numbers_from no_numbers script) n ≡ true
