-- What contracts see of the adapters: what they gave and took, and not what is to come.
use Rattle.std.specs.Prelude.{ℕ, ◌≡◌, List, [], Option, None, Some}
use Rattle.send_room.specs.declared.flow.Flow.{Flow}
use Rattle.send_room.specs.Flows.{new_flow}
use Rattle.cast_io.specs.declared.steps.SourceStep.{SourceStep}
use Rattle.cast_io.specs.declared.steps.Step.{Step}
use Rattle.cast_io.specs.declared.link.Got.{Got}
use Rattle.cast_io.specs.declared.link.Got.TheVariants as got
use Rattle.cast_io.specs.Logged.{LinkLog, DoorLog, StreetLog, link_logged}
use Rattle.cast_io.specs.Told.{LinkTold}
use Rattle.caster_net.specs.Honest.{BothTake}
use Rattle.caster_net.specs.Silence.{KeepState}

-- a wire, and a link over it: the stream, the steps that it took, the bytes that its writes took,
-- and its count of faults
pub record WireState (S : Type 0) : Type 0 where
  pub stream : S
  pub taken : List Step
  pub bytes : List ℕ
  pub faults : ℕ

-- a wire over this stream that took no step and no bytes, and had no fault
abbrev pub new_wire : {S : Type 0} → S → WireState S
new_wire stream = record { stream = stream; taken = []; bytes = []; faults = 0 }

-- the log of a link over this wire
abbrev pub wire_log : {S : Type 0} → WireState S → LinkLog
wire_log wire = record { taken = wire.taken; bytes = wire.bytes; faults = wire.faults }

-- and what the link tells
abbrev pub wire_told : {S : Type 0} → WireState S → LinkTold
wire_told wire = link_logged (wire_log wire)

-- a link: the wire below it; what it heeds where it is one of a gate; and how its peer takes what
-- it is sent, where its reads wait for room
pub record LinkState (S : Type 0) : Type 0 where
  pub wire : WireState S
  pub keep : Option KeepState
  pub room : Option Flow

-- a link over this stream that did nothing yet, and heeds nothing
abbrev pub new_link : {S : Type 0} → S → LinkState S
new_link stream = record { wire = new_wire stream; keep = None; room = None }

-- one whose reads wait for room
abbrev pub new_patient_link : {S : Type 0} → S → LinkState S
new_patient_link stream = record { wire = new_wire stream; keep = None; room = Some new_flow }

-- one of a gate, which heeds this beside
abbrev pub new_kept_link : {S : Type 0} → S → KeepState → LinkState S
new_kept_link stream keep = record {
  wire = new_wire stream;
  keep = Some keep;
  room = Some new_flow;
}

-- what a link tells
abbrev pub link_told : {S : Type 0} → LinkState S → LinkTold
link_told link = wire_told link.wire

-- nothing was read or written over this link yet, and it heeds nothing
abbrev pub IsUnused : {S : Type 0} → LinkState S → Type 0
IsUnused link = link ≡ new_link link.wire.stream

-- how many bytes a read gave or a write took
abbrev pub count_of : Got → ℕ
count_of (got.Bytes n) = n
count_of got.Idle = 0
count_of got.End = 0
count_of got.Failed = 0

-- the stream took just these bytes, and just these came to the record of the wire
pub record Took {S : Type 0} (contents : S → Option (List ℕ)) (old new : WireState S)
    (bytes : List ℕ) : Type 0 where
  pub both : BothTake (contents old.stream) (contents new.stream) old.bytes new.bytes bytes
  pub taken : new.taken ≡ old.taken
  pub faults : new.faults ≡ old.faults

-- what contracts see of a sink: the writer, the bytes that it took, and the count of faults
pub record SinkState (W : Type 0) : Type 0 where
  pub writer : W
  pub taken : List ℕ
  pub faults : ℕ

-- and of a source: the reader, its steps, and the counts of its reads and its faults
pub record SourceState (R : Type 0) : Type 0 where
  pub reader : R
  pub log : List (SourceStep (List ℕ))
  pub reads : ℕ
  pub faults : ℕ

-- and of a store: the paths that it was asked for, its steps, and the counts of its reads and its
-- faults
pub record StoreState : Type 0 where
  pub asked : List (List ℕ)
  pub log : List (SourceStep (List ℕ))
  pub reads : ℕ
  pub faults : ℕ

-- a door to which no link came back, and that had no fault
abbrev pub new_door : DoorLog
new_door = record { back = []; faults = 0 }

-- a street that was asked nothing, to which nothing came back, and that had no fault
abbrev pub new_street : StreetLog
new_street = record { asked = []; doors = []; links = []; faults = 0; link_faults = 0 }
