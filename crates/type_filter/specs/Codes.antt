-- Filters as plain data: how a proof tells two of them apart.
use Rattle.std.specs.Prelude.{◌≡◌, ℕ, Bool, List, Option, Some, None, refl, ◌==◌}
use Rattle.std.specs.Cmp.{IsEquivalence, on_equiv, nat_eq_equiv}
use Rattle.std.specs.Cmp.Lexicographic.{pointwise, lists_equiv, options_equiv}
use Rattle.std.specs.Option.{option_eq}
use Rattle.std.specs.Ordering.{on}
use Rattle.std.specs.Coded.{Coded, code_by, coded_ℕ, coded_list, coded_option}
use Rattle.type_filter.specs.Permitted.{FilterValue, All, Listed}

-- a filter as the list of its numbers, where it has one
abbrev pub numbers_in : FilterValue → Option (List ℕ)
numbers_in All = None
numbers_in (Listed numbers) = Some numbers

abbrev pub filter_with : Option (List ℕ) → FilterValue
filter_with None = All
filter_with (Some numbers) = Listed numbers

-- both permit every frame, or both have the same numbers
abbrev pub same_filter : FilterValue → FilterValue → Bool
same_filter = on numbers_in (option_eq (pointwise ◌==◌))

-- a filter is the same as itself, both ways round, and along a chain
pub same_filter_laws : IsEquivalence same_filter
same_filter_laws = on_equiv numbers_in (options_equiv (lists_equiv nat_eq_equiv))

-- the numbers give the filter back
pub given_back : (filter : FilterValue) → filter_with (numbers_in filter) ≡ filter
given_back All = refl
given_back (Listed numbers) = refl

abbrev pub filter_code : Coded FilterValue
filter_code =
    code_by (Option (List ℕ)) (coded_option (coded_list coded_ℕ)) numbers_in filter_with given_back
