-- The report of a recorded run in which rovers are greeted: that of the run, with this change.
-- Where bytes come in on a connection and a rover begins a segment by them, it is sent, behind all
-- that the event sends it, the last permitted frames of the messages 1005, 1006, 1007, 1008, 1033
-- and 1230 (RTCM 10403.3) that were published before the segment's Join.
use Rattle.std.specs.Prelude.{◌≡◌, ℕ, ◌==◌, ◌&&◌, if◌then◌else◌, List, [], ◌∷◌, ◌++◌, length, map, drop, Option, None, Some}
use Rattle.ntrip_head.specs.declared.request.Version.{Version}
use Rattle.last_frames.specs.Greeted.{Greeting, greeted_since}
use Rattle.rover_session.specs.Body.{body_of}
use Rattle.session_calls.specs.Rings.{history_at, shape_at}
use Rattle.session_script.specs.declared.Event.{Event}
use Rattle.cast_config.specs.declared.config.Config.{Config}
use Rattle.session_model.specs.declared.report.Connection.{Connection}
use Rattle.session_model.specs.declared.report.Report.{Report}
use Rattle.session_core.specs.declared.rover_state.RoverState.{RoverState}
use Rattle.session_model.specs.Headings.{Heading}
use Rattle.session_model.specs.Reports.{AreHeadings, world_report, report}
use Rattle.session_model.specs.Run.{Histories, World, after_event, after_events}
use Rattle.session_model.specs.Setting.{shapes}
use Rattle.caster_replay.specs.Going.{rover_among}
use Rattle.caster_replay.specs.Sends.{told_sent}
use Rattle.caster_warm.specs.Numbers.{number_of, brings_bytes}

-- ---- the greeting

-- as it is sent: its frames, each as it is or as one chunk
abbrev pub greeting_text : Version → Greeting → List ℕ
greeting_text version None = []
greeting_text version (Some frames) = body_of version frames

-- What a rover is greeted by that stands so behind the calls that led from these histories to
-- those: where the mountpoint of its newest segment was joined among them, the last permitted
-- frames of the six messages, of all that was published there before the last such Join.
abbrev pub greeting_for : Config → Histories → Histories → Option RoverState → List ℕ
greeting_for c old now None = []
greeting_for c old now (Some rover) =
    greeting_text rover.version
    (greeted_since (shape_at (shapes c) rover.mount) (length (history_at old.rings rover.mount))
    (history_at now.rings rover.mount))

-- by an event that leads to this run, the connection of this number is greeted where it is its own
-- and bytes came in by it
abbrev pub greeting_by : Config → (ℕ → Heading) → World → Event → World → ℕ → List ℕ
greeting_by c headings w event next n =
    if brings_bytes event && (number_of event == n)
    then greeting_for c w.histories next.histories (rover_among c headings n next.connections)
    else []

-- ---- the bytes

-- what the connection of this number was sent so far by the run without greetings
abbrev pub sent_so_far : Config → (ℕ → Heading) → World → ℕ → List ℕ
sent_so_far c headings w n = told_sent n (world_report c headings w).connections

-- what it is sent by one event: what it is sent with it and was not before, and then the greeting
abbrev pub sent_by_event : Config → (ℕ → Heading) → World → Event → ℕ → List ℕ
sent_by_event c headings w event n =
    let next = after_event c headings w event in
    drop (length (sent_so_far c headings w n)) (sent_so_far c headings next n)
    ++ greeting_by c headings w event next n

-- and by all of these, one after the other
abbrev pub sent_by_events : Config → (ℕ → Heading) → World → List Event → ℕ → List ℕ
sent_by_events c headings w [] n = []
sent_by_events c headings w (event ∷ later) n =
    sent_by_event c headings w event n
    ++ sent_by_events c headings (after_event c headings w event) later n

-- ---- the report

-- what is told of a connection, but for its bytes
abbrev pub told_with : (ℕ → List ℕ) → Connection → Connection
told_with sent told =
    record { number = told.number; receipt = told.receipt; bytes = sent told.number }

-- the report of these events, where the connections have these headings by number
abbrev pub warm_report : Config → (ℕ → Heading) → List Event → Report
warm_report c headings events =
    let plain = report c headings events in
    record {
      connections = map
          (told_with (sent_by_events c headings (after_events c headings []) events))
          plain.connections;
      closed = plain.closed;
    }

-- the report of a recorded run with greetings
abbrev pub IsWarmReport : Config → List Event → Report → Type 0
IsWarmReport c script r =
    (headings : ℕ → Heading) × AreHeadings script headings × (r ≡ warm_report c headings script)
