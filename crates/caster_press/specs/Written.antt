-- What an output holds of the text that was to be written.
use Rattle.std.specs.Prelude.{◌≡◌, ℕ, ◌-◌, ⊤, Bool, true, false, List, ◌++◌, length, take, Option, None, Some}
use Rattle.std.specs.Coded.{Coded-set, coded_ℕ, coded_list, Unit-prop, le_prop, ×_prop}
use Rattle.std.specs.Io.KnownBytes.{Appends}
use Rattle.cast_io.specs.Causes.{Rose}
use Rattle.caster_press.specs.declared.press.OutputStart.{OutputStart}

-- The known bytes grew by as many first bytes of the text as they are longer.
abbrev pub IsCut : Option (List ℕ) → Option (List ℕ) → List ℕ → Type 0
IsCut None new text = ⊤
IsCut (Some xs) None text = ⊥
IsCut (Some xs) (Some ys) text = ys ≡ xs ++ take (length ys - length xs) text

-- From this start on the whole text was written, and no write failed. Or the writing is torn: some
-- first bytes of the text were written, and the count of faults rose.
abbrev pub IsWritten : (torn : Bool) → OutputStart → Option (List ℕ) → ℕ → List ℕ → Type 0
IsWritten false start taken faults text =
    Appends start.taken taken text × (faults ≡ start.faults)
IsWritten true start taken faults text =
    IsCut start.taken taken text × Rose start.faults faults

-- each of these is one fact, and not a choice
pub appends_once : (old new : Option (List ℕ)) (text : List ℕ) → IsProp (Appends old new text)
appends_once None new text = Unit-prop
appends_once (Some xs) None text = λ a b. absurd a
appends_once (Some xs) (Some ys) text = Coded-set (coded_list coded_ℕ) ys (xs ++ text)

pub cut_once : (old new : Option (List ℕ)) (text : List ℕ) → IsProp (IsCut old new text)
cut_once None new text = Unit-prop
cut_once (Some xs) None text = λ a b. absurd a
cut_once (Some xs) (Some ys) text =
    Coded-set (coded_list coded_ℕ) ys (xs ++ take (length ys - length xs) text)

pub written_once : (torn : Bool) (start : OutputStart) (taken : Option (List ℕ)) (faults : ℕ)
    (text : List ℕ) → IsProp (IsWritten torn start taken faults text)
written_once false start taken faults text =
    ×_prop (appends_once start.taken taken text) (Coded-set coded_ℕ faults start.faults)
written_once true start taken faults text = ×_prop (cut_once start.taken taken text) le_prop
