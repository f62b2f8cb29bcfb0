-- When a list of message numbers is refused.
use Rattle.std.specs.Prelude.{◌≡◌, ℕ, if◌then◌else◌, List, length, Option, Some, None, Result, Ok, Err, position}
use Rattle.std.specs.Option.{option_map}
use Rattle.type_filter.specs.declared.selection.FilterFault.{FilterFault}
use Rattle.type_filter.specs.declared.selection.FilterFault.TheVariants.{Count, Number, Memory}
use Rattle.type_filter.specs.Numbers.{is_good_count, is_too_high}

-- the first rule that these numbers break: how many they are, then how high each is
abbrev pub first_fault : List ℕ → Option FilterFault
first_fault given =
    if is_good_count given then option_map Number (position is_too_high given)
    else Some (Count (length given))

-- The first broken rule is told. Memory may be wanting only where none is broken.
abbrev pub IsAnswer : {A : Type 0} → List ℕ → Result A FilterFault → Type 0
IsAnswer given (Ok filter) = first_fault given ≡ None
IsAnswer given (Err (Count n)) = first_fault given ≡ Some (Count n)
IsAnswer given (Err (Number i)) = first_fault given ≡ Some (Number i)
IsAnswer given (Err Memory) = first_fault given ≡ None
