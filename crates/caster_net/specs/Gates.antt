-- What contracts see of gates, of places for notes, and of a street with both.
use Rattle.std.specs.Prelude.{ℕ, ◌*◌, min, List, [], map, Bool, false, Some}
use Rattle.cast_io.specs.declared.yard_asked.YardAsked.{YardAsked}
use Rattle.cast_io.specs.declared.yard_asked.YardAsked.TheVariants as asked
use Rattle.cast_io.specs.Logged.{DoorLog, StreetLog, door_logged}
use Rattle.cast_io.specs.Peers.{no_peer}
use Rattle.cast_io.specs.Yards.{GateTold, NotesTold, YardTold}
use Rattle.caster_net.specs.declared.notes.CallNote.{CallNote}
use Rattle.caster_net.specs.declared.notes.CallNote.TheVariants as calls
use Rattle.caster_net.specs.Told.{SinkState, new_door, new_street}

-- a gate: the door that it is, whether it was over when it was asked last, the peer of the link
-- that it gave last, what it was made for, and for how many seconds its links may be quiet; 0 is
-- for ever
pub record GateLog : Type 0 where
  pub door : DoorLog
  pub over : Bool
  pub peer : List ℕ
  pub origin : YardAsked
  pub quiet : ℕ

-- for how many seconds the links of a gate may be quiet that was made for this
abbrev pub quiet_of : YardAsked → ℕ
quiet_of (asked.OpenGates addr gates quiet) = quiet
quiet_of (asked.Reach addr quiet) = quiet
quiet_of asked.Notes = 0

-- a gate that was made for this, and did nothing yet
abbrev pub new_gate : YardAsked → GateLog
new_gate origin = record {
  door = new_door;
  over = false;
  peer = no_peer;
  origin = origin;
  quiet = quiet_of origin;
}

-- a peer that is dialled again and again: its address; for how long it is not dialled since it was
-- put off last, 0 where it never was; and how long the next pause is, all in seconds
pub record RedialState : Type 0 where
  pub addr : List ℕ
  pub wait : ℕ
  pub pause : ℕ

-- The pause behind this one before a peer is dialled again, in seconds: twice as long, up to 80.
abbrev pub pause_behind : ℕ → ℕ
pause_behind pause = min (pause * 2) 80

-- it is put off for its next pause
abbrev pub put_off : RedialState → RedialState
put_off peer = record peer { wait = peer.pause; pause = pause_behind peer.pause }

-- its next pause is the shortest again, 5 seconds
abbrev pub rested : RedialState → RedialState
rested peer = record peer { pause = 5 }

-- what a gate tells
abbrev pub gate_logged : GateLog → GateTold
gate_logged log = record { door = door_logged log.door; over = log.over }

-- what a place for notes tells
abbrev pub notes_logged : {W : Type 0} → SinkState W → NotesTold
notes_logged notes = record { taken = Some notes.taken; faults = notes.faults }

-- what a street was asked as a yard
abbrev pub call_noted : CallNote → YardAsked
call_noted (calls.Gates origin) = origin
call_noted calls.Notes = asked.Notes

-- a yard: what it was asked, the gates and the notes that came back as they were then, its count of
-- faults, and its count of notes that came back with faults
pub record YardLog : Type 0 where
  pub asked : List YardAsked
  pub gates : List GateLog
  pub notes : List NotesTold
  pub faults : ℕ
  pub note_faults : ℕ

abbrev pub yard_logged : YardLog → YardTold
yard_logged log = record {
  asked = Some log.asked;
  gates = Some (map gate_logged log.gates);
  notes = Some log.notes;
  faults = log.faults;
  note_faults = log.note_faults;
}

-- a yard that was asked nothing, to which nothing came back, and that had no fault
abbrev pub new_yard : YardLog
new_yard = record { asked = []; gates = []; notes = []; faults = 0; note_faults = 0 }

-- the network: what it did as a street, and what it did as a yard
pub record NetLog : Type 0 where
  pub street : StreetLog
  pub yard : YardLog

abbrev pub new_net : NetLog
new_net = record { street = new_street; yard = new_yard }
