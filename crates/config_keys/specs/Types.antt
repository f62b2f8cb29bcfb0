-- Message numbers that a filter permits, and filters of single mountpoints.
use Rattle.std.specs.Prelude.{ℕ, ℤ, pos, negsuc, nat_le, if◌then◌else◌, codes, List, [], ◌∷◌, ◌++◌, length, Ok, Err}
use Rattle.std.specs.Str.{bytes_eq}
use Rattle.toml.specs.Data.{string, array, table, Items, no_items, item, get_member}
use Rattle.type_filter.specs.Permitted.{FilterValue, All, Listed}
use Rattle.type_filter.specs.Numbers.{in_order}
use Rattle.config_keys.specs.declared.key.Key.{Key}
use Rattle.config_keys.specs.declared.filters.FilterEntry.{FilterEntry}
use Rattle.config_keys.specs.declared.fault.KeyFault.{KeyFault}
use Rattle.config_keys.specs.declared.fault.KeyFault.TheVariants.{Missing, Wrong, Range, Twice, Unknown, Memory}
use Rattle.config_keys.specs.Answers.{Read, ◌>>=◌, holds}
use Rattle.config_keys.specs.Lists.{each_of, integers, item_count}
use Rattle.config_keys.specs.Rules.{Rule, required, is_within}
use Rattle.config_keys.specs.Texts.{name}

-- a message number has twelve bits (RTCM 10403.3, DF002)
abbrev pub message_number : Key → ℤ → Read ℕ
message_number key (pos n) = if nat_le n 4095 then Ok n else Err (Range key)
message_number key (negsuc n) = Err (Range key)

-- the text `all`, or 1 to 64 message numbers, of which the order and repeats do not matter
unfoldable pub types : Rule FilterValue
types key (string s) = if bytes_eq s (codes "all") then Ok All else Err (Range key)
types key found = do
  whole ← integers key found
  numbers ← each_of (message_number key) [] whole
  _ ← holds (Range key) (is_within 1 64 (length numbers))
  Ok (Listed (in_order numbers))

-- ---- a list of filters, each for a mountpoint: its elements are tested together

-- the place of a fault's test in the order of the tests
abbrev pub rank : KeyFault → ℕ
rank Memory = 0
rank (Missing key) = 1
rank (Wrong key) = 2
rank (Range key) = 3
rank (Twice key) = 4
rank (Unknown key) = 5

-- of two faults, the one whose test comes first
abbrev pub first_of : KeyFault → KeyFault → KeyFault
first_of fault other = if nat_le (rank fault) (rank other) then fault else other

-- the fault of a part, and that of the next one if it has one
abbrev pub with_fault : {A : Type 0} → KeyFault → Read A → KeyFault
with_fault fault (Ok x) = fault
with_fault fault (Err other) = first_of fault other

-- of two parts that are tested together: what is made of both, or the fault whose test comes first
abbrev pub both : {A B C : Type 0} → (A → B → C) → Read A → Read B → Read C
both make (Ok a) (Ok b) = Ok (make a b)
both make (Ok a) (Err other) = Err other
both make (Err fault) (Ok b) = Err fault
both make (Err fault) (Err other) = Err (first_of fault other)

-- an element: a table with the name of a mountpoint and message numbers
abbrev pub filter_entry : List ℕ → FilterValue → FilterEntry
filter_entry mount types = record { mount = mount; types = types }

unfoldable pub filter_in : Rule FilterEntry
filter_in key (table ms) =
    both filter_entry (required name key (get_member (codes "mount") ms))
    (required types key (get_member (codes "types") ms))
filter_in key _ = Err (Wrong key)

abbrev pub push : {A : Type 0} → List A → A → List A
push xs x = xs ++ x ∷ []

-- all elements, tested together with what came before them
abbrev pub each_filter : Key → Read (List FilterEntry) → Items → Read (List FilterEntry)
each_filter key before no_items = before
each_filter key before (item d ds) = each_filter key (both push before (filter_in key d)) ds

-- nothing to begin with, unless there are too many elements
abbrev pub at_most : ℕ → Key → Items → Read (List FilterEntry)
at_most most key ds = if nat_le (item_count ds) most then Ok [] else Err (Range key)

-- at most 64 elements
unfoldable pub filters : Rule (List FilterEntry)
filters key (array ds) = each_filter key (at_most 64 key ds) ds
filters key _ = Err (Wrong key)
