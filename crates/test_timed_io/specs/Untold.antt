-- What fakes tell of themselves that tell nothing but how often they failed.
use Rattle.std.specs.Prelude.{ℕ, Bool, List, None}
use Rattle.cast_console.specs.Consoles.{ConsoleTold}
use Rattle.cast_io.specs.Told.{LinkTold, DoorTold, StreetTold}
use Rattle.cast_io.specs.Yards.{YardTold}

-- a link that failed so often
abbrev pub counted_link : ℕ → LinkTold
counted_link count =
    record { given = None; left = None; taken = None; bytes = None; faults = count }

-- a door that never fails
abbrev pub untold_door : DoorTold
untold_door = record { left = None; back = None; faults = 0 }

-- a street that never fails, to which so many links came back that did
abbrev pub counted_street : ℕ → StreetTold
counted_street count =
    record { asked = None; doors = None; links = None; faults = 0; link_faults = count }

-- a yard that never fails, to which notes came back so often that did
abbrev pub counted_yard : ℕ → YardTold
counted_yard count =
    record { asked = None; gates = None; notes = None; faults = 0; note_faults = count }

-- a console that told so many workers as busy, and may be over
abbrev pub console_told : List ℕ → (over : Bool) → ConsoleTold
console_told busy over = record { busy = busy; over = over }
