-- How a filter is kept.
use Rattle.type_filter.specs.declared.selection.Kind.{Kind}
use Rattle.type_filter.specs.declared.selection.Kind.TheVariants.{Every, Among}
use Rattle.type_filter.specs.Permitted.{FilterValue, All, Listed}
use Rattle.type_filter.specs.Numbers.{IsNumberList}

-- what contracts see of it
abbrev pub value_of : Kind → FilterValue
value_of Every = All
value_of (Among numbers) = Listed numbers.items

-- a list is one that a filter may have
abbrev pub IsValid : Kind → Type 0
IsValid Every = Unit {0}
IsValid (Among numbers) = IsNumberList numbers.items
