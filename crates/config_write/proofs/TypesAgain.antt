-- A filter that was read is read again from what is written of it.
use Rattle.std.proofs.Common.{◌≡◌, ℕ, ◌≤◌, suc, pos, false, List, [], ◌∷◌, ◌++◌, length, get_or, map, None, Ok, Less, Equal, Greater, nat_cmp, refl, sym, ap, subst, ◌∙◌, append_assoc, inl, inr, arith, position}
use Rattle.std.specs.Prelude.{codes}
use Rattle.std.specs.BTreeSet.{insert_key}
use Rattle.std.specs.List.{All}
use Rattle.std.specs.Ordering.{match_ordering}
use Rattle.std.specs.Str.{bytes_eq}
use Rattle.std.proofs.lemmas.Bool.{cases_Bool, le-leb, ltb-false}
use Rattle.std.proofs.lemmas.List.{append-nil}
use Rattle.std.proofs.lemmas.List.Elements.{All-head, All-tail, All-contains, Contains-get_or}
use Rattle.toml.specs.Data.{Data, string, integer, float, boolean, datetime, array, table}
use Rattle.type_filter.specs.Permitted.{FilterValue, All as Every, Listed}
use Rattle.type_filter.specs.Numbers.{IsNumberList, in_order, is_too_high}
use Rattle.type_filter.proofs.NumberLaws.{position_none, in_order_rises, in_order_stays, in_order_same}
use Rattle.config_keys.specs.declared.key.Key.{Key}
use Rattle.config_keys.specs.declared.fault.KeyFault.TheVariants.{Range}
use Rattle.config_keys.specs.Lists.{each_of, integers}
use Rattle.config_keys.specs.Rules.{is_within}
use Rattle.config_keys.specs.Types.{message_number, types}
use Rattle.config_keys.proofs.KeepLemmas.{value_is, taken, held}
use Rattle.config_keys.proofs.NumberLemmas.{read_low}
use Rattle.cast_config.proofs.KeptLemmas.{within}
use Rattle.config_write.specs.Members.{list_data, number}
use Rattle.config_write.specs.Entries.{types_data}
use Rattle.config_write.proofs.DataLemmas.{integers_read}

-- ---- numbers that are put in order

put_few : (x : ℕ) (xs : List ℕ) → length (insert_key nat_cmp xs x) ≤ suc (length xs)
put_few x [] = omega arith
put_few x (y ∷ ys) =
    let more : length (insert_key nat_cmp ys x) ≤ suc (length ys) = put_few x ys in
    elim (nat_cmp x y) as (λ r. length (match_ordering r (x ∷ y ∷ ys) (y ∷ ys) (y ∷ insert_key nat_cmp ys x)) ≤ suc
    (suc (length ys))) [
      | Less ↦ omega arith
      | Equal ↦ omega arith
      | Greater ↦ omega arith
    ]

put_some : (x : ℕ) (xs : List ℕ) → 1 ≤ length (insert_key nat_cmp xs x)
put_some x [] = omega arith
put_some x (y ∷ ys) =
    elim (nat_cmp x y) as (λ r. 1 ≤ length (match_ordering r (x ∷ y ∷ ys) (y ∷ ys) (y ∷ insert_key nat_cmp ys x))) [
      | Less ↦ omega arith
      | Equal ↦ omega arith
      | Greater ↦ omega arith
    ]

few_in_order : (ns : List ℕ) → length (in_order ns) ≤ length ns
few_in_order [] = omega arith
few_in_order (n ∷ ns) =
    let one : length (insert_key nat_cmp (in_order ns) n) ≤ suc (length (in_order ns)) = put_few n (in_order ns) in
    let more : length (in_order ns) ≤ length ns = few_in_order ns in
    omega arith

some_in_order : (ns : List ℕ) → 1 ≤ length ns → 1 ≤ length (in_order ns)
some_in_order [] some = absurd (omega arith)
some_in_order (n ∷ ns) some = put_some n (in_order ns)

numbers_listed : (ns : List ℕ) → 1 ≤ length ns → length ns ≤ 64 → position is_too_high ns ≡ None
    → IsNumberList (in_order ns)
numbers_listed ns some few low =
    let fewer : length (in_order ns) ≤ length ns = few_in_order ns in
    record {
      some = some_in_order ns some;
      few = omega arith;
      low = λ k d within. ltb-false 4095 (get_or (in_order ns) k d)
          (All-contains (λ x. is_too_high x ≡ false) ns (get_or (in_order ns) k d) (position_none is_too_high ns low)
          ((in_order_same ns (get_or (in_order ns) k d)).0 (Contains-get_or (in_order ns) k d within)));
      ordered = in_order_rises ns;
    }

-- ---- filters

numbers_from : (key : Key) (before ns : List ℕ) → All (λ n. n ≤ 4095) ns
    → each_of (message_number key) before (map pos ns) ≡ Ok (before ++ ns)
numbers_from key before [] low = ap Ok (sym (append-nil before))
numbers_from key before (n ∷ ns) low =
    rw (le-leb n 4095 (All-head (λ n. n ≤ 4095) n ns low))
    (numbers_from key (before ++ n ∷ []) ns (All-tail (λ n. n ≤ 4095) n ns low)
    ∙ ap Ok (append_assoc before (n ∷ []) ns))

list_again : (key : Key) (ns : List ℕ) → IsNumberList ns → types key (list_data number ns) ≡ Ok (Listed ns)
unfolding types
list_again key ns is =
    rw (integers_read key ns, numbers_from key [] ns is.low, le-leb 1 (length ns) is.some, le-leb (length ns) 64 is.few)
    (ap (λ (ns : List ℕ). Ok (Listed ns)) (in_order_stays ns is.ordered))

abbrev IsAgain : Key → FilterValue → Type 0
IsAgain key f = types key (types_data f) ≡ Ok f

all_again : (key : Key) → IsAgain key Every
unfolding types
all_again key = refl

pub types_again : (key : Key) (d : Data) (f : FilterValue) → types key d ≡ Ok f → types key (types_data f) ≡ Ok f
unfolding types
types_again key (string s) f e =
    elim (cases_Bool (bytes_eq s (codes "all"))) [
      | inl all ↦ subst (IsAgain key) (value_is Every f (rw all at e)) (all_again key)
      | inr other ↦ absurd (let h = rw other at e in cc)
    ]
types_again key (array ds) f e =
    taken (IsAgain key) (integers key (array ds)) _ f e (λ whole read e1.
    taken (IsAgain key) (each_of (message_number key) [] whole) _ f e1 (λ ns numbers e2.
    held (IsAgain key) (Range key) (is_within 1 64 (length ns)) _ f e2 (λ count e3.
    let size = within 1 64 (length ns) count in
    subst (IsAgain key) (value_is (Listed (in_order ns)) f e3)
    (list_again key (in_order ns) (numbers_listed ns size.0 size.1 (read_low key whole ns numbers))))))
types_again key (integer z) f e = absurd cc
types_again key (float z) f e = absurd cc
types_again key (boolean z) f e = absurd cc
types_again key (datetime z) f e = absurd cc
types_again key (table z) f e = absurd cc
