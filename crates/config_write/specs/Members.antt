-- Tables and lists of a document (TOML 1.0), as data.
use Rattle.std.specs.Prelude.{ℕ, pos, List, [], ◌∷◌, map}
use Rattle.std.specs.Cmp.Lexicographic.{slice_cmp}
use Rattle.std.specs.Ordering.{nat_cmp, match_ordering}
use Rattle.toml.specs.Data.{Data, integer, array, Members, no_members, member}
use Rattle.toml.specs.View.{items_of}

-- the keys of a table with their values
abbrev pub Keys : Type 0
Keys = List (List ℕ × Data)

-- the table in which this key has this value, beside its other keys: they stand in the order of
-- their bytes
abbrev pub put : List ℕ → Data → Members → Members
put key d no_members = member key d no_members
put key d (member other e more) =
    match_ordering (slice_cmp nat_cmp key other) (member key d (member other e more))
    (member other d more) (member other e (put key d more))

-- the table with these keys beside its own
abbrev pub put_keys : Keys → Members → Members
put_keys [] ms = ms
put_keys (key ∷ more) ms = put_keys more (put key.0 key.1 ms)

-- the list of what the function makes of each of these
abbrev pub list_data : {A : Type 0} → (A → Data) → List A → Data
list_data one xs = array (items_of (map one xs))

abbrev pub number : ℕ → Data
number n = integer (pos n)
