-- Lists.
use Rattle.std.specs.Prelude.{ℕ, ◌+◌, ℤ, Bool, true, false, not, ◌&&◌, List, [], ◌∷◌, ◌++◌, Option, Some, Ok, Err}
use Rattle.std.specs.List.{list_any}
use Rattle.std.specs.Option.{option_and_then}
use Rattle.std.specs.Str.{bytes_eq}
use Rattle.toml.specs.Data.{Data, array, table, Items, no_items, item, as_str, as_integer}
use Rattle.config_keys.specs.declared.fault.KeyFault.TheVariants.{Wrong, Range}
use Rattle.config_keys.specs.Answers.{Read, ◌>>=◌, given, holds}
use Rattle.config_keys.specs.Rules.{Rule, is_within}

-- what each of the items holds, behind what was found before; none where one holds no such thing
abbrev pub all_of : {A : Type 0} → (Data → Option A) → List A → Items → Option (List A)
all_of one found no_items = Some found
all_of one found (item d ds) = option_and_then (λ a. all_of one (found ++ a ∷ []) ds) (one d)

-- what is read of each element, behind what was read before; the first fault stays
abbrev pub each_of : {A B : Type 0} → (A → Read B) → List B → List A → Read (List B)
each_of one before [] = Ok before
each_of one before (x ∷ xs) = one x >>= (λ b. each_of one (before ++ b ∷ []) xs)

-- a list whose items all hold such a thing
abbrev pub list_of : {A : Type 0} → (Data → Option A) → Rule (List A)
list_of one key (array ds) = given (Wrong key) (all_of one [] ds)
list_of one key _ = Err (Wrong key)

-- a list of texts, and one of whole numbers
abbrev pub texts : Rule (List (List ℕ))
texts = list_of as_str

abbrev pub integers : Rule (List ℤ)
integers = list_of as_integer

-- whether this name is among the names, and whether each stands there once
abbrev pub is_among : List (List ℕ) → List ℕ → Bool
is_among names name = list_any (λ other. bytes_eq other name) names

abbrev pub each_once : List (List ℕ) → Bool
each_once [] = true
each_once (name ∷ names) = not (is_among names name) && each_once names

abbrev pub item_count : Items → ℕ
item_count no_items = 0
item_count (item d ds) = 1 + item_count ds

abbrev pub is_table : Data → Bool
is_table (table ms) = true
is_table _ = false

abbrev pub are_tables : Items → Bool
are_tables no_items = true
are_tables (item d ds) = is_table d && are_tables ds

-- so many tables
unfoldable pub tables : ℕ → ℕ → Rule Items
tables least most key (array ds) = do
  _ ← holds (Wrong key) (are_tables ds)
  _ ← holds (Range key) (is_within least most (item_count ds))
  Ok ds
tables least most key _ = Err (Wrong key)
