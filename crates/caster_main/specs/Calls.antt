-- What a call of the program tells, as the laws of `caster` speak of it: standard input, files,
-- sockets and standard output have logs of all that they gave and took, and tell nothing of what
-- they still hold.
use Rattle.std.specs.Prelude.{ℕ, List, None, Some}
use Rattle.cast_io.specs.Logged.{StreetLog, door_logged, street_logged}
use Rattle.cast_io.specs.Yards.{YardTold}
use Rattle.cast_console.specs.Consoles.{ConsoleTold}
use Rattle.caster_net.specs.declared.note_out.NoteOut.{NoteOut}
use Rattle.caster_net.specs.Gates.{GateLog, NetLog}
use Rattle.caster_net.specs.Told.{SinkState, SourceState, StoreState}
use Rattle.caster_keep.specs.Keeping.{HasKept}
use Rattle.caster_top.specs.Calls.{CallTold}
use Rattle.caster_top.specs.Keeping.{Keeps, KeptToItsEnd}
use Rattle.caster_top.specs.Kept.{LeavesInput, LeavesStore, LeavesStreet}
use Rattle.caster_top.specs.Told.{Files}

-- a call: its words, each thing as the call found it and as it left it, and its status
abbrev pub call_told : {R W : Type 0} → List (List ℕ) → SourceState R → SourceState R → StoreState
    → StoreState → StreetLog → StreetLog → SinkState W → SinkState W → ℕ → CallTold
call_told words input input_now store store_now street street_now out out_now status = record {
  words = words;
  left = None;
  files = None;
  input_log = record { before = Some input.log; now = Some input_now.log };
  store_log = record { before = Some store.log; now = Some store_now.log };
  asked = record { before = Some store.asked; now = Some store_now.asked };
  before = street_logged street;
  after = street_logged street_now;
  old = Some out.taken;
  new = Some out_now.taken;
  input_faults = record { before = input.faults; now = input_now.faults };
  store_faults = record { before = store.faults; now = store_now.faults };
  output_faults = record { before = out.faults; now = out_now.faults };
  status = status;
}

-- ---- a caster that keeps serving

-- What it did over gates of sockets, with standard output as its place for lines, by their logs;
-- these consoles had come back before, and those have come back now.
abbrev pub KeepsBySockets : List ConsoleTold → List ConsoleTold → Keeps
KeepsBySockets back back_now =
    HasKept (λ (gate : GateLog). door_logged gate.door) (λ (gate : GateLog). gate.over)
    (λ (gate : GateLog). gate.peer) (λ (gate : GateLog). gate.origin)
    (λ (notes : SinkState NoteOut). Some notes.taken) (λ (notes : SinkState NoteOut). notes.faults)
    back back_now

-- It kept serving over these until all of its gates were over.
abbrev pub KeptBySockets : List ConsoleTold → List ConsoleTold → Files → List ℕ → List ℕ → ℕ
    → YardTold → YardTold → List ℕ → List ℕ → Type 0
KeptBySockets back back_now files config addr quiet before after old new =
    KeptToItsEnd (λ (gate : GateLog). door_logged gate.door) (λ (gate : GateLog). gate.over)
    (λ (gate : GateLog). gate.peer) (λ (gate : GateLog). gate.origin)
    (λ (notes : SinkState NoteOut). Some notes.taken) (λ (notes : SinkState NoteOut). notes.faults)
    back back_now files config addr quiet before after (Some old) (Some new)

-- ---- what a call leaves as it was

-- A call for words that need no input left it as it was, and its count of faults does not fall.
abbrev pub LeavesInputLog : {R : Type 0} → List (List ℕ) → SourceState R → SourceState R → Type 0
LeavesInputLog {R} words old new =
    LeavesInput (λ (input : SourceState R). None) (λ (input : SourceState R). input.faults)
    (λ (input : SourceState R). input.reads) words old new

-- A call for words that name no file left all files as they were. Each file that is named is read 8
-- MiB and two times more at most, and the count of faults does not fall.
abbrev pub LeavesFiles : List (List ℕ) → StoreState → StoreState → Type 0
LeavesFiles words old new =
    LeavesStore (λ (store : StoreState). record { asked = Some store.asked; files = None })
    (λ (store : StoreState). store.faults) (λ (store : StoreState). store.reads) words old new

-- A call for words that ask for no network left it as it was, as a street and as a yard. One whose
-- status says that there was no caster left what it tells as a street, and the count of faults does
-- not fall.
abbrev pub LeavesNet : List (List ℕ) → ℕ → NetLog → NetLog → Type 0
LeavesNet words status old new =
    LeavesStreet (λ (net : NetLog). street_logged net.street) words status old new
