-- What a yard tells of itself, as plain data, and what its calls do to it.
use Rattle.std.specs.Prelude.{ℕ, ◌≡◌, ◌≤◌, List, [], ◌∷◌, Option, None, Some, is_some, Bool, Result, IsErrOf, OnOk}
use Rattle.cast_io.specs.declared.street.StreetFault.{StreetFault}
use Rattle.cast_io.specs.declared.street.StreetFault.TheVariants as fault
use Rattle.cast_io.specs.declared.yard_asked.YardAsked.{YardAsked}
use Rattle.cast_io.specs.declared.yard_asked.YardAsked.TheVariants as asked
use Rattle.cast_io.specs.Causes.{Rose}
use Rattle.cast_io.specs.Told.{DoorTold, Grew}
use Rattle.cast_io.specs.Streets.{RisesWith}

-- a gate: what it tells as a door, and whether it was over
pub record GateTold : Type 0 where
  pub door : DoorTold
  pub over : Bool

-- notes: the bytes that they took, where they tell them, and their count of faults
pub record NotesTold : Type 0 where
  pub taken : Option (List ℕ)
  pub faults : ℕ

-- a yard: what it was asked, the gates and the notes that came back as they were then, each list
-- where it is told, its count of faults, and its count of notes that came back with faults
pub record YardTold : Type 0 where
  pub asked : Option (List YardAsked)
  pub gates : Option (List GateTold)
  pub notes : Option (List NotesTold)
  pub faults : ℕ
  pub note_faults : ℕ

-- what a gate was made for: to be one of so many at this address, or to dial it
abbrev pub origin_of : List ℕ → Option ℕ → ℕ → YardAsked
origin_of addr (Some gates) quiet = asked.OpenGates addr gates quiet
origin_of addr None quiet = asked.Reach addr quiet

-- notes that were just given: they took no byte and had no fault
pub record AreNewNotes (told : NotesTold) : Type 0 where
  pub taken : (bytes : List ℕ) → told.taken ≡ Some bytes → bytes ≡ []
  pub faults : told.faults ≡ 0

-- the yard was asked for this, and told so, also where it refused
pub record HasBeenAsked (wanted : YardAsked) (old new : YardTold) : Type 0 where
  pub asked : Grew old.asked new.asked (wanted ∷ [])
  pub gates : new.gates ≡ old.gates
  pub notes : new.notes ≡ old.notes
  pub later : old.faults ≤ new.faults
  pub note_faults : new.note_faults ≡ old.note_faults

-- the count of faults stands; but a yard that lost the list of what it was asked in this call may
-- count that as one
abbrev pub IsUnharmed : YardTold → YardTold → Type 0
IsUnharmed old new = is_some new.asked ≡ is_some old.asked → new.faults ≡ old.faults

-- a refusal for the network has its cause in a count that rose in the call; with each other answer
-- the count stands
pub record HasAnswered {T : Type 0} (result : Result T StreetFault) (old new : YardTold)
    : Type 0 where
  pub failed : IsErrOf result fault.Failed → Rose old.faults new.faults
  pub memory : IsErrOf result fault.Memory → IsUnharmed old new
  pub unharmed : OnOk result (IsUnharmed old new)

-- the yard took a gate back, which is told as it is then; a gate with faults is a fault of the yard
pub record HasShutGate (gate : GateTold) (old new : YardTold) : Type 0 where
  pub asked : new.asked ≡ old.asked
  pub gates : Grew old.gates new.gates (gate ∷ [])
  pub notes : new.notes ≡ old.notes
  pub faults : RisesWith gate.door.faults old.faults new.faults
  pub note_faults : new.note_faults ≡ old.note_faults

-- the yard took notes back, which are told as they are then; their faults are counted apart
pub record HasTakenNotes (notes : NotesTold) (old new : YardTold) : Type 0 where
  pub asked : new.asked ≡ old.asked
  pub gates : new.gates ≡ old.gates
  pub taken : Grew old.notes new.notes (notes ∷ [])
  pub faults : new.faults ≡ old.faults
  pub note_faults : RisesWith notes.faults old.note_faults new.note_faults
