-- What contracts see of the gates and the notes of a street in memory.
use Rattle.std.specs.Prelude.{ℕ, ◌≡◌, ◌==◌, ◌||◌, ◌&&◌, ◌+◌, ◌↔◌, nat_lt, if◌then◌else◌, List, [], length, map, drop, Bool, Option, Some, is_some, option_map, Result, IsErr, IsErrOf, IfOk, is_ok, take, IsTrue}
use Rattle.cast_io.specs.declared.street.StreetFault.{StreetFault}
use Rattle.cast_io.specs.declared.street.StreetFault.TheVariants.{Failed}
use Rattle.cast_io.specs.declared.yard_asked.YardAsked.{YardAsked}
use Rattle.cast_io.specs.Causes.{next_count}
use Rattle.cast_io.specs.Fakes.{SinkState, fails_next}
use Rattle.cast_io.specs.Yards.{NotesTold, YardTold}
use Rattle.cast_io.specs.FakeGates.{GateState, gate_told, made_for}

-- a yard in memory: the gates and the notes to come, what it was asked while that is told, the
-- gates and the notes that came back while they are told, how many of each it gave that did not
-- come back, the numbers of the calls that are to fail, how many calls were made, its count of
-- faults, and its count of notes that came back with faults
pub record YardState : Type 0 where
  pub gates : List GateState
  pub notes : List SinkState
  pub asked : Option (List YardAsked)
  pub gates_back : Option (List GateState)
  pub gates_owed : ℕ
  pub notes_back : Option (List SinkState)
  pub notes_owed : ℕ
  pub fails : List ℕ
  pub calls : ℕ
  pub faults : ℕ
  pub note_faults : ℕ

-- a sink in memory tells all that notes can tell
abbrev pub notes_told : SinkState → NotesTold
notes_told sink = record { taken = Some sink.bytes; faults = sink.faults }

-- a yard in memory tells all that a yard can tell
abbrev pub yard_told : YardState → YardTold
yard_told yard = record {
  asked = yard.asked;
  gates = option_map (map gate_told) yard.gates_back;
  notes = option_map (map notes_told) yard.notes_back;
  faults = yard.faults;
  note_faults = yard.note_faults;
}

-- notes that took no byte and had no fault
abbrev pub are_new_notes : SinkState → Bool
are_new_notes sink = (length sink.bytes == 0) && (sink.faults == 0)

-- a yard that is to give these gates and notes and has not been called
pub record IsYardOf (yard : YardState) (gates : List GateState) (notes : List SinkState)
    (fails : List ℕ) : Type 0 where
  pub gates_are : yard.gates ≡ gates
  pub notes_are : yard.notes ≡ notes
  pub asked : yard.asked ≡ Some []
  pub gates_back : yard.gates_back ≡ Some []
  pub gates_owed : yard.gates_owed ≡ 0
  pub notes_back : yard.notes_back ≡ Some []
  pub notes_owed : yard.notes_owed ≡ 0
  pub fails_are : yard.fails ≡ fails
  pub calls : yard.calls ≡ 0
  pub faults : yard.faults ≡ 0
  pub note_faults : yard.note_faults ≡ 0

-- the next call for so many gates fails: it is told to, or too few gates are left
abbrev pub gates_fail : YardState → ℕ → Bool
gates_fail yard count = fails_next yard.calls yard.fails || nat_lt (length yard.gates) count

-- a call counted a fault where it failed; where the list of what was asked was lost in it, that may
-- be one more
abbrev pub HasCounted : (failed : Bool) → YardState → YardState → Type 0
HasCounted failed old new = is_some new.asked ≡ is_some old.asked
    → new.faults ≡ (if failed then next_count old.faults else old.faults)

-- the next call for notes fails: it is told to, or no notes are left
abbrev pub notes_fail : YardState → Bool
notes_fail yard = fails_next yard.calls yard.fails || nat_lt (length yard.notes) 1

-- A call of the yard fails where it is to fail and in no other way, and a failure is counted.
pub record IsSureYardCall {X : Type 0} (fails : Bool) (old new : YardState)
    (result : Result X StreetFault) : Type 0 where
  pub exact : IsErrOf result Failed ↔ IsTrue fails
  pub err : IsErr result → IsErrOf result Failed
  pub counted : HasCounted fails old new

-- one more call was counted, and what it asked; where it was answered, it gave so many of the gates
-- to come; nothing else changed
abbrev pub GaveGates : (ok : Bool) → ℕ → YardState → YardState → Type 0
GaveGates ok count old new = new ≡ record old {
  asked = new.asked;
  gates = if ok then drop count old.gates else old.gates;
  gates_owed = if ok then old.gates_owed + count else old.gates_owed;
  calls = next_count old.calls;
  faults = new.faults;
}

-- one more call was counted, and what it asked; where it was answered, it gave the next notes;
-- nothing else changed
abbrev pub GaveNotes : (ok : Bool) → YardState → YardState → Type 0
GaveNotes ok old new = new ≡ record old {
  asked = new.asked;
  notes = if ok then drop 1 old.notes else old.notes;
  notes_owed = if ok then old.notes_owed + 1 else old.notes_owed;
  calls = next_count old.calls;
  faults = new.faults;
}

-- A call for so many gates fails where it is to fail, and a failure is counted. Where it was
-- answered, these gates were given: the next ones to come, each made for what was asked.
pub record GivesGates {X : Type 0} (wanted : YardAsked) (count : ℕ) (gates : X → List GateState)
    (old new : YardState) (result : Result X StreetFault) : Type 0 where
  pub exact : IsErrOf result Failed ↔ IsTrue (gates_fail old count)
  pub counted : HasCounted (gates_fail old count) old new
  pub given : IfOk result (λ given. gates given ≡ map (made_for wanted) (take count old.gates))
  pub gave : GaveGates (is_ok result) count old new
