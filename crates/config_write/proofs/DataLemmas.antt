-- Lists of data, and what is read of them.
use Rattle.std.proofs.Common.{◌≡◌, ℕ, ◌≤◌, ℤ, pos, true, List, [], ◌∷◌, ◌++◌, length, map, Some, Ok, String, Global, Ordering, Less, Equal, Greater, string_bytes, refl, sym, ap, ◌∙◌, append_assoc, arith}
use Rattle.std.proofs.lemmas.Bool.{le-leb}
use Rattle.std.proofs.lemmas.List.{append-nil, length-map}
use Rattle.std.proofs.lemmas.List.Elements.{All-head, All-tail}
use Rattle.std.specs.BTreeMap.{insert_entry}
use Rattle.std.specs.List.{All}
use Rattle.std.specs.Ordering.{match_ordering}
use Rattle.std.specs.String.{string_cmp}
use Rattle.toml.specs.Data.{Data, string, table, Members, as_str, as_integer}
use Rattle.toml.specs.View.{view, items_of, members_view}
use Rattle.toml.specs.declared.value.Value.{Value}
use Rattle.toml.proofs.Views.{Entry}
use Rattle.sourcetable.specs.declared.record.Record.{Record}
use Rattle.sourcetable.specs.Record.{line_of}
use Rattle.config_keys.specs.declared.key.Key.{Key}
use Rattle.config_keys.specs.Lists.{all_of, each_of, item_count, are_tables, tables, texts, integers}
use Rattle.config_keys.specs.Records.{record_line, record_at, records}
use Rattle.config_keys.specs.Rules.{is_within}
use Rattle.config_write.specs.Members.{put, list_data, number}

-- ---- a key of a table

one_of : (o : Ordering) (a b c : List Entry) → members_view (match_ordering o a b c) ≡ match_ordering o (members_view a)
    (members_view b) (members_view c)
one_of Less a b c = refl
one_of Equal a b c = refl
one_of Greater a b c = refl

pub put_view : (es : List Entry) (k : String Global) (v : Value) → members_view (insert_entry string_cmp es k v) ≡ put
    (string_bytes k) (view v) (members_view es)
put_view [] k v = refl
put_view (e ∷ es) k v = one_of (string_cmp k e.0) _ _ _ ∙ rw (put_view es k v) refl

-- ---- lists of tables

pub count_is : {A : Type 0} (one : A → Data) (xs : List A) → item_count (items_of (map one xs)) ≡ length xs
count_is one [] = refl
count_is one (x ∷ xs) = omega (arith, count_is one xs)

pub all_tables : {A : Type 0} (tree : A → Members) (xs : List A) → are_tables (items_of (map (λ x. table (tree x)) xs))
    ≡ true
all_tables tree [] = refl
all_tables tree (x ∷ xs) = all_tables tree xs

pub tables_read : {A : Type 0} (tree : A → Members) (least most : ℕ) (key : Key) (xs : List A)
    → is_within least most (length xs) ≡ true
    → tables least most key (list_data (λ x. table (tree x)) xs) ≡ Ok (items_of (map (λ x. table (tree x)) xs))
unfolding tables
tables_read tree least most key xs within = rw (all_tables tree xs, count_is (λ x. table (tree x)) xs, within) refl

-- ---- lists of texts and numbers

texts_from : {A : Type 0} (text : A → List ℕ) (before : List (List ℕ)) (xs : List A)
    → all_of as_str before (items_of (map (λ x. string (text x)) xs)) ≡ Some (before ++ map text xs)
texts_from text before [] = ap Some (sym (append-nil before))
texts_from text before (x ∷ xs) = texts_from text (before ++ text x ∷ []) xs
    ∙ ap Some (append_assoc before (text x ∷ []) (map text xs))

pub texts_read : {A : Type 0} (text : A → List ℕ) (key : Key) (xs : List A)
    → texts key (list_data (λ x. string (text x)) xs) ≡ Ok (map text xs)
texts_read text key xs = rw (texts_from text [] xs) refl

integers_from : (before : List ℤ) (ns : List ℕ) → all_of as_integer before (items_of (map number ns)) ≡ Some
    (before ++ map pos ns)
integers_from before [] = ap Some (sym (append-nil before))
integers_from before (n ∷ ns) = integers_from (before ++ pos n ∷ []) ns
    ∙ ap Some (append_assoc before (pos n ∷ []) (map pos ns))

pub integers_read : (key : Key) (ns : List ℕ) → integers key (list_data number ns) ≡ Ok (map pos ns)
integers_read key ns = rw (integers_from [] ns) refl

-- ---- lines of the sourcetable

abbrev pub IsKept : Record → Type 0
IsKept r = record_line (line_of r) ≡ Some r

records_from : (key : Key) (before rs : List Record) → All IsKept rs → each_of (record_at key) before (map line_of rs) ≡
    Ok (before ++ rs)
records_from key before [] kept = ap Ok (sym (append-nil before))
records_from key before (r ∷ rs) kept =
    rw (All-head IsKept r rs kept)
    (records_from key (before ++ r ∷ []) rs (All-tail IsKept r rs kept) ∙ ap Ok (append_assoc before (r ∷ []) rs))

pub records_read : (key : Key) (rs : List Record) → All IsKept rs → length rs ≤ 64
    → records key (list_data (λ r. string (line_of r)) rs) ≡ Ok rs
unfolding records
records_read key rs kept few =
    rw (texts_read line_of key rs, length-map rs line_of, le-leb (length rs) 64 few) (records_from key [] rs kept)
