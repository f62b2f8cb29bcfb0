-- Lists of references: what was read, and read again.
use Rattle.std.proofs.Common.{◌≡◌, ℕ, ◌+◌, ◌<◌, ◌≤◌, true, false, not, eqb, leb, List, [], ◌∷◌, ◌++◌, length, map, Some, Ok, Err, refl, sym, ap, subst, ◌∙◌, inl, inr, arith, append_assoc, length-append}
use Rattle.std.specs.Prelude.{IsTrue}
use Rattle.std.specs.List.{All, list_any, list_all}
use Rattle.std.specs.Str.{bytes_eq}
use Rattle.std.proofs.lemmas.Bool.{cases_Bool, and_parts, or_parts, or_from, eqb-true, leb-true, false_from_ne_true, false≢true}
use Rattle.std.proofs.lemmas.List.{append-nil, length-map}
use Rattle.std.proofs.lemmas.List.Elements.{All-cons, All-nil}
use Rattle.toml.specs.Data.{Data, string, integer, float, boolean, datetime, array, table, Items, no_items, item, as_str}
use Rattle.cast_text.specs.Name.{is_name}
use Rattle.config_keys.specs.declared.key.Key.{Key}
use Rattle.config_keys.specs.declared.filters.FilterEntry.{FilterEntry}
use Rattle.config_keys.specs.declared.fault.KeyFault.TheVariants.{Wrong, Range, Twice}
use Rattle.config_keys.specs.Answers.{Read}
use Rattle.config_keys.specs.Lists.{is_among, each_once, each_of, all_of, texts, item_count}
use Rattle.config_keys.specs.Types.{filters, filter_in, each_filter, at_most, both, push}
use Rattle.config_keys.specs.Rules.{is_within}
use Rattle.config_keys.proofs.KeepLemmas.{done, value_is, taken, held}
use Rattle.cast_config.specs.declared.config.GroupFilter.{GroupFilter}
use Rattle.cast_config.specs.Names.{names_once, all_named, place_at, filter_at, entry_names, entries_once, filters_at}
use Rattle.cast_config.specs.Kept.{once, filtered, AreNumbers}
use Rattle.cast_config.proofs.NameKeeps.{name_at, IsPlace, place_read, bytes_same, not_true, given_some}

-- ---- numbers from places

pub record ArePlaces (names : List (List ℕ)) (texts : List (List ℕ)) (ns : List ℕ) : Type 0 where
  pub within : All (λ n. n < length names) ns
  pub texts_are : map (name_at names) ns ≡ texts

places_from : (key : Key) (names : List (List ℕ)) (before : List ℕ) (texts : List (List ℕ)) (ns : List ℕ)
    → each_of (place_at key names) before texts ≡ Ok ns → (more : List ℕ) × (ns ≡ before ++ more)
    × ArePlaces names texts more
places_from key names before [] ns e =
    let same : before ≡ ns = value_is before ns e in
    ([], sym same ∙ sym (append-nil before), record { within = All-nil (λ n. n < length names); texts_are = refl })
places_from key names before (s ∷ texts) ns e =
    taken (λ ns. (more : List ℕ) × (ns ≡ before ++ more) × ArePlaces names (s ∷ texts) more) (place_at key names s) _ ns
    e (λ n read rest.
    let place = place_read key names s n read in
    let more = places_from key names (before ++ n ∷ []) texts ns rest in (
      n ∷ more.0,
      more.1 ∙ append_assoc before (n ∷ []) more.0,
      record {
        within = All-cons (λ n. n < length names) n more.0 place.within more.2.within;
        texts_are = rw (place.name, more.2.texts_are) refl;
      },
    ))

none_among : (names : List (List ℕ)) (n : ℕ) (ns : List ℕ) → is_among (map (name_at names) ns) (name_at names n) ≡ false
    → list_any (λ m. eqb m n) ns ≡ false
none_among names n [] e = refl
none_among names n (m ∷ ns) e =
    let parts = or_parts (bytes_eq (name_at names m) (name_at names n))
    (is_among (map (name_at names) ns) (name_at names n)) e in
    or_from (eqb m n) (list_any (λ m. eqb m n) ns)
    (false_from_ne_true _ (λ same. false≢true (sym parts.0 ∙ (let eq : m ≡ n = eqb-true m n same in
    rw eq (bytes_same (name_at names n))))))
    (none_among names n ns parts.1)

pub once_from : (names : List (List ℕ)) (ns : List ℕ) → each_once (map (name_at names) ns) ≡ true → once ns ≡ true
once_from names [] e = refl
once_from names (n ∷ ns) e =
    let parts = and_parts (not (is_among (map (name_at names) ns) (name_at names n)))
    (each_once (map (name_at names) ns)) e in
    rw (none_among names n ns (not_true _ parts.0), once_from names ns parts.1) refl

-- ---- texts of a list

abbrev pub text_items : List (List ℕ) → Items
text_items [] = no_items
text_items (s ∷ more) = item (string s) (text_items more)

texts_from : (before : List (List ℕ)) (ds : Items) (all : List (List ℕ)) → all_of as_str before ds ≡ Some all
    → (more : List (List ℕ)) × (all ≡ before ++ more) × (ds ≡ text_items more)
texts_from before no_items all e =
    let same : before ≡ all = cc in ([], sym same ∙ sym (append-nil before), refl)
texts_from before (item (string s) ds) all e =
    let more = texts_from (before ++ s ∷ []) ds all e in
    (s ∷ more.0, more.1 ∙ append_assoc before (s ∷ []) more.0, ap (item (string s)) more.2)
texts_from before (item (integer z) ds) all e = absurd cc
texts_from before (item (float z) ds) all e = absurd cc
texts_from before (item (boolean z) ds) all e = absurd cc
texts_from before (item (datetime z) ds) all e = absurd cc
texts_from before (item (array z) ds) all e = absurd cc
texts_from before (item (table z) ds) all e = absurd cc

pub texts_keep : (key : Key) (d : Data) (all : List (List ℕ)) → texts key d ≡ Ok all → d ≡ array (text_items all)
texts_keep key (array ds) all e =
    let more = texts_from [] ds all (given_some (Wrong key) (all_of as_str [] ds) all e) in
    ap array (more.2 ∙ ap text_items (sym more.1))
texts_keep key (string z) all e = absurd cc
texts_keep key (integer z) all e = absurd cc
texts_keep key (float z) all e = absurd cc
texts_keep key (boolean z) all e = absurd cc
texts_keep key (datetime z) all e = absurd cc
texts_keep key (table z) all e = absurd cc

-- ---- lists of names

pub record AreOnce (least most : ℕ) (all : List (List ℕ)) : Type 0 where
  pub count : is_within least most (length all) ≡ true
  pub names : list_all is_name all ≡ true
  pub once : each_once all ≡ true

pub names_are : (least most : ℕ) (key : Key) (d : Data) (all : List (List ℕ)) → names_once least most key d ≡ Ok all
    → (d ≡ array (text_items all)) × AreOnce least most all
unfolding names_once
names_are least most key d all e =
    taken (λ all. (d ≡ array (text_items all)) × AreOnce least most all) (texts key d) _ all e (λ found read e1.
    held (λ all. (d ≡ array (text_items all)) × AreOnce least most all) (Range key) _ _ all e1 (λ range e2.
    held (λ all. (d ≡ array (text_items all)) × AreOnce least most all) (Twice key) _ _ all e2 (λ once e3.
    let parts = and_parts (is_within least most (length found)) (list_all is_name found) range in
    subst (λ all. (d ≡ array (text_items all)) × AreOnce least most all) (value_is found all e3)
    (texts_keep key d found read, record { count = parts.0; names = parts.1; once = once }))))

pub record IsAllNamed (names : List (List ℕ)) (least most : ℕ) (key : Key) (ns : List ℕ) : Type 0 where
  pub numbers : AreNumbers (length names) ns
  pub count : IsTrue (is_within least most (length ns))
  pub again : all_named names least most key (array (text_items (map (name_at names) ns))) ≡ Ok ns

pub all_is : (names : List (List ℕ)) (least most : ℕ) (key : Key) (d : Data) (ns : List ℕ)
    → all_named names least most key d ≡ Ok ns → IsAllNamed names least most key ns
all_is names least most key d ns e =
    taken (IsAllNamed names least most key) (names_once least most key d) _ ns e (λ all read rest.
    let are = names_are least most key d all read in
    let places = places_from key names [] all ns rest in
    let same : ns ≡ places.0 = places.1 in
    let texts_are : map (name_at names) ns ≡ all = rw same places.2.texts_are in
    let size : length ns ≡ length all = sym (length-map ns (name_at names)) ∙ ap length texts_are in
    record {
      numbers = record {
        within = subst (λ ns. All (λ n. n < length names) ns) (sym same) places.2.within;
        once = once_from names ns (subst (λ all. each_once all ≡ true) (sym texts_are) are.1.once);
      };
      count = subst (λ n. is_within least most n ≡ true) (sym size) are.1.count;
      again = subst (λ (v : Data). all_named names least most key v ≡ done ns)
          (are.0 ∙ ap (λ all. array (text_items all)) (sym texts_are)) e;
    })

-- ---- filters for single mountpoints

pub record IsFiltered (names : List (List ℕ)) (key : Key) (fs : List GroupFilter) : Type 0 where
  pub numbers : AreNumbers (length names) (filtered fs)
  pub few : length fs ≤ 64

pub none_filtered : (names : List (List ℕ)) (key : Key) → IsFiltered names key []
none_filtered names key = record {
  numbers = record { within = All-nil (λ n. n < length names); once = refl };
  few =
      omega arith;
}

pub joined_ok : {A B C : Type 0} (make : A → B → C) (a : Read A) (b : Read B) (c : C) → both make a b ≡ Ok c → (x : A)
    × (y : B) × (a ≡ Ok x) × (b ≡ Ok y) × (make x y ≡ c)
joined_ok make (Ok x) (Ok y) c e = (x, y, refl, refl, value_is (make x y) c e)
joined_ok make (Ok x) (Err g) c e = absurd cc
joined_ok make (Err f) (Ok y) c e = absurd cc
joined_ok make (Err f) (Err g) c e = absurd cc

-- each element was read, behind those before
few_filters : (key : Key) (before : Read (List FilterEntry)) (ds : Items) (all : List FilterEntry)
    → each_filter key before ds ≡ Ok all
    → (first : List FilterEntry) × (before ≡ Ok first) × (length all ≡ length first + item_count ds)
few_filters key before no_items all e = (all, e, omega arith)
few_filters key before (item d ds) all e =
    let rest = few_filters key (both push before (filter_in key d)) ds all e in
    let parts = joined_ok push before (filter_in key d) rest.0 rest.1 in
    let size : length rest.0 ≡ length parts.0 + 1 = ap length (sym parts.4) ∙ length-append parts.0 (parts.1 ∷ []) in
    let all_is : length all ≡ length rest.0 + item_count ds = rest.2 in
    (parts.0, parts.2, omega arith)

nothing_first : (key : Key) (ds : Items) (first : List FilterEntry) → at_most 64 key ds ≡ Ok first
    → (item_count ds ≤ 64) × (first ≡ [])
nothing_first key ds first e =
    elim (cases_Bool (leb (item_count ds) 64)) [
      | inl few ↦ (leb-true (item_count ds) 64 few, sym (value_is [] first (rw few at e)))
      | inr many ↦ absurd (let h = rw many at e in cc)
    ]

few_read : (key : Key) (d : Data) (all : List FilterEntry) → filters key d ≡ Ok all → length all ≤ 64
unfolding filters
few_read key (array ds) all e =
    let first = few_filters key (at_most 64 key ds) ds all e in
    let few = nothing_first key ds first.0 first.1 in
    let none : length first.0 ≡ 0 = ap length few.1 in
    let size : length all ≡ length first.0 + item_count ds = first.2 in
    omega (arith, few.0)
few_read key (string z) all e = absurd cc
few_read key (integer z) all e = absurd cc
few_read key (float z) all e = absurd cc
few_read key (boolean z) all e = absurd cc
few_read key (datetime z) all e = absurd cc
few_read key (table z) all e = absurd cc

filter_place : (key : Key) (names : List (List ℕ)) (s : FilterEntry) (f : GroupFilter) → filter_at key names s ≡ Ok f
    → IsPlace names s.mount f.mount
filter_place key names s f e =
    taken (λ (f : GroupFilter). IsPlace names s.mount f.mount) (place_at key names s.mount) _ f e (λ n read last.
    subst (λ (f : GroupFilter). IsPlace names s.mount f.mount) (value_is _ f last)
    (place_read key names s.mount n read))

entries_are : (key : Key) (d : Data) (all : List FilterEntry) → entries_once key d ≡ Ok all
    → (each_once (entry_names all) ≡ true) × (length all ≤ 64)
unfolding entries_once
entries_are key d all e =
    taken (λ all. (each_once (entry_names all) ≡ true) × (length all ≤ 64)) (filters key d) _ all e (λ found read e1.
    held (λ all. (each_once (entry_names all) ≡ true) × (length all ≤ 64)) (Twice key) _ _ all e1 (λ once e2.
    subst (λ all. (each_once (entry_names all) ≡ true) × (length all ≤ 64)) (value_is found all e2)
    (once, few_read key d found read)))

-- the mountpoints of filters that were read
filters_from : (key : Key) (names : List (List ℕ)) (before : List GroupFilter) (entries : List FilterEntry)
    (fs : List GroupFilter)
    → each_of (filter_at key names) before entries ≡ Ok fs
    → (more : List GroupFilter) × (fs ≡ before ++ more) × ArePlaces names (entry_names entries) (filtered more)
filters_from key names before [] fs e =
    let same : before ≡ fs = value_is before fs e in
    ([], sym same ∙ sym (append-nil before), record { within = All-nil (λ n. n < length names); texts_are = refl })
filters_from key names before (s ∷ entries) fs e =
    taken (λ fs. (more : List GroupFilter) × (fs ≡ before ++ more) × ArePlaces names (entry_names (s ∷ entries))
    (filtered more)) (filter_at key names s) _ fs e (λ f read rest.
    let at = filter_place key names s f read in
    let more = filters_from key names (before ++ f ∷ []) entries fs rest in (
      f ∷ more.0,
      more.1 ∙ append_assoc before (f ∷ []) more.0,
      record {
        within = All-cons (λ n. n < length names) f.mount (filtered more.0) at.within more.2.within;
        texts_are = rw (at.name, more.2.texts_are) refl;
      },
    ))

pub filtered_is : (names : List (List ℕ)) (key : Key) (d : Data) (fs : List GroupFilter)
    → filters_at names key d ≡ Ok fs → IsFiltered names key fs
filtered_is names key d fs e =
    taken (IsFiltered names key) (entries_once key d) _ fs e (λ entries read rest.
    let are = entries_are key d entries read in
    let places = filters_from key names [] entries fs rest in
    let same : fs ≡ places.0 = places.1 in
    let names_are : map (name_at names) (filtered fs) ≡ entry_names entries = rw same places.2.texts_are in
    let size : length fs ≡ length entries =
    sym (length-map fs (λ (f : GroupFilter). f.mount)) ∙ sym (length-map (filtered fs) (name_at names))
    ∙ ap length names_are
    ∙ length-map entries (λ (e : FilterEntry). e.mount) in
    let few : length entries ≤ 64 = are.1 in
    record {
      numbers = record {
        within = subst (λ fs. All (λ n. n < length names) (filtered fs)) (sym same) places.2.within;
        once = once_from names (filtered fs) (subst (λ all. each_once all ≡ true) (sym names_are) are.0);
      };
      few = omega arith;
    })
