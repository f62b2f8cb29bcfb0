-- Filters for single mountpoints that were read are read again from what is written of them.
use Rattle.std.proofs.Common.{◌≡◌, ℕ, ◌≤◌, true, List, [], ◌∷◌, ◌++◌, length, map, Option, Some, None, Ok, refl, sym, ap, subst, ◌∙◌, append_assoc, inl, inr, leb}
use Rattle.std.specs.Prelude.{codes}
use Rattle.std.specs.List.{All}
use Rattle.std.proofs.lemmas.Bool.{cases_Bool, le-leb}
use Rattle.std.proofs.lemmas.List.{append-nil, length-map}
use Rattle.std.proofs.lemmas.List.Elements.{All-append, All-cons, All-head, All-nil, All-tail}
use Rattle.toml.specs.Data.{Data, string, integer, float, boolean, datetime, array, table, Items, no_items, item, Members, get_member, no_members}
use Rattle.toml.specs.View.{items_of}
use Rattle.type_filter.specs.Permitted.{FilterValue}
use Rattle.config_keys.specs.declared.key.Key.{Key}
use Rattle.config_keys.specs.declared.filters.FilterEntry.{FilterEntry}
use Rattle.config_keys.specs.declared.fault.KeyFault.TheVariants.{Twice}
use Rattle.config_keys.specs.Answers.{Read}
use Rattle.config_keys.specs.Lists.{each_of, each_once, item_count}
use Rattle.config_keys.specs.Rules.{required}
use Rattle.config_keys.specs.Texts.{name}
use Rattle.config_keys.specs.Types.{types, both, push, filter_entry, filter_in, each_filter, at_most, filters}
use Rattle.config_keys.proofs.KeepLemmas.{value_is, taken, held, again, name_keeps}
use Rattle.cast_config.specs.declared.config.GroupFilter.{GroupFilter}
use Rattle.cast_config.specs.Names.{entry_names, entries_once, filter_at, filters_at, place_at}
use Rattle.cast_config.proofs.NameKeeps.{place_read}
use Rattle.cast_config.proofs.ReferenceKeeps.{joined_ok}
use Rattle.config_write.specs.Members.{put_keys, list_data}
use Rattle.config_write.specs.Entries.{name_at, types_data, filter_tree}
use Rattle.config_write.proofs.DataLemmas.{count_is}
use Rattle.config_write.proofs.TypesAgain.{types_again}

-- ---- one element

pub record IsEntry (key : Key) (e : FilterEntry) : Type 0 where
  pub mount : name key (string e.mount) ≡ Ok e.mount
  pub types : types key (types_data e.types) ≡ Ok e.types

abbrev pub entry_tree : FilterEntry → Members
entry_tree e = put_keys ((codes "mount", string e.mount) ∷ (codes "types", types_data e.types) ∷ []) no_members

read_types : (key : Key) (o : Option Data) (f : FilterValue) → required types key o ≡ Ok f
    → types key (types_data f) ≡ Ok f
read_types key None f e = absurd cc
read_types key (Some d) f e = types_again key d f e

element_is : (key : Key) (d : Data) (e : FilterEntry) → filter_in key d ≡ Ok e → IsEntry key e
unfolding filter_in
element_is key (table ms) e read =
    let parts = joined_ok filter_entry (required name key (get_member (codes "mount") ms))
    (required types key (get_member (codes "types") ms)) e read in
    subst (IsEntry key) parts.4 (record {
      mount = again name string name_keeps key (get_member (codes "mount") ms) parts.0 parts.2;
      types = read_types key (get_member (codes "types") ms) parts.1 parts.3;
    })
element_is key (string s) e read = absurd cc
element_is key (integer z) e read = absurd cc
element_is key (float z) e read = absurd cc
element_is key (boolean z) e read = absurd cc
element_is key (datetime z) e read = absurd cc
element_is key (array z) e read = absurd cc

element_again : (key : Key) (e : FilterEntry) → IsEntry key e → filter_in key (table (entry_tree e)) ≡ Ok e
unfolding filter_in
element_again key e is = rw (is.mount, is.types) refl

-- ---- all of them

elements_from : (key : Key) (before : Read (List FilterEntry)) (ds : Items) (all : List FilterEntry)
    → each_filter key before ds ≡ Ok all
    → (first : List FilterEntry) × (before ≡ Ok first) × (All (IsEntry key) first → All (IsEntry key) all)
elements_from key before no_items all e = (all, e, λ kept. kept)
elements_from key before (item d ds) all e =
    let rest = elements_from key (both push before (filter_in key d)) ds all e in
    let parts = joined_ok push before (filter_in key d) rest.0 rest.1 in
    let one : IsEntry key parts.1 = element_is key d parts.1 parts.3 in (
      parts.0,
      parts.2,
      λ kept. rest.2 (subst (All (IsEntry key)) parts.4
          (All-append (IsEntry key) parts.0 (parts.1 ∷ []) kept (All-cons (IsEntry key) parts.1 [] one
          (All-nil (IsEntry key))))),
    )

nothing_first : (key : Key) (ds : Items) (first : List FilterEntry) → at_most 64 key ds ≡ Ok first
    → All (IsEntry key) first
nothing_first key ds first e =
    elim (cases_Bool (leb (item_count ds) 64)) [
      | inl few ↦ subst (All (IsEntry key)) (value_is [] first (rw few at e)) (All-nil (IsEntry key))
      | inr many ↦ absurd (let h = rw many at e in cc)
    ]

elements_are : (key : Key) (d : Data) (all : List FilterEntry) → filters key d ≡ Ok all → All (IsEntry key) all
unfolding filters
elements_are key (array ds) all e =
    let from = elements_from key (at_most 64 key ds) ds all e in
    from.2 (nothing_first key ds from.0 from.1)
elements_are key (string s) all e = absurd cc
elements_are key (integer z) all e = absurd cc
elements_are key (float z) all e = absurd cc
elements_are key (boolean z) all e = absurd cc
elements_are key (datetime z) all e = absurd cc
elements_are key (table z) all e = absurd cc

elements_again_from : (key : Key) (before all : List FilterEntry) → All (IsEntry key) all
    → each_filter key (Ok before) (items_of (map (λ e. table (entry_tree e)) all)) ≡ Ok (before ++ all)
elements_again_from key before [] are = ap Ok (sym (append-nil before))
elements_again_from key before (e ∷ all) are =
    ap (λ r. each_filter key (both push (Ok before) r) (items_of (map (λ e. table (entry_tree e)) all)))
    (element_again key e (All-head (IsEntry key) e all are))
    ∙ elements_again_from key (before ++ e ∷ []) all (All-tail (IsEntry key) e all are)
    ∙ ap Ok (append_assoc before (e ∷ []) all)

elements_again : (key : Key) (all : List FilterEntry) → All (IsEntry key) all → length all ≤ 64
    → filters key (list_data (λ e. table (entry_tree e)) all) ≡ Ok all
unfolding filters
elements_again key all are few =
    rw (count_is (λ e. table (entry_tree e)) all, le-leb (length all) 64 few) (elements_again_from key [] all are)

-- ---- elements whose mountpoints have numbers

abbrev entry_of : List (List ℕ) → GroupFilter → FilterEntry
entry_of names f = filter_entry (name_at names f.mount) f.types

numbered : (key : Key) (names : List (List ℕ)) (e : FilterEntry) (f : GroupFilter) → filter_at key names e ≡ Ok f
    → entry_of names f ≡ e
numbered key names e f read =
    taken (λ (f : GroupFilter). entry_of names f ≡ e) (place_at key names e.mount) _ f read (λ n place last.
    subst (λ (f : GroupFilter). entry_of names f ≡ e) (value_is _ f last)
    (ap (λ (s : List ℕ). filter_entry s e.types) (place_read key names e.mount n place).name))

numbered_from : (key : Key) (names : List (List ℕ)) (before : List GroupFilter) (all : List FilterEntry)
    (fs : List GroupFilter)
    → each_of (filter_at key names) before all ≡ Ok fs → (more : List GroupFilter) × (fs ≡ before ++ more)
    × (map (entry_of names) more ≡ all)
numbered_from key names before [] fs e =
    let same : before ≡ fs = value_is before fs e in ([], sym same ∙ sym (append-nil before), refl)
numbered_from key names before (s ∷ all) fs e =
    taken (λ fs. (more : List GroupFilter) × (fs ≡ before ++ more) × (map (entry_of names) more ≡ s ∷ all))
    (filter_at key names s) _ fs e (λ f read rest.
    let more = numbered_from key names (before ++ f ∷ []) all fs rest in (
      f ∷ more.0,
      more.1 ∙ append_assoc before (f ∷ []) more.0,
      ap (λ one. one ∷ map (entry_of names) more.0) (numbered key names s f read)
          ∙ ap (λ (all : List FilterEntry). s ∷ all) more.2,
    ))

data_same : (names : List (List ℕ)) (fs : List GroupFilter)
    → items_of (map (λ e. table (entry_tree e)) (map (entry_of names) fs)) ≡ items_of
    (map (λ f. table (filter_tree names f)) fs)
data_same names [] = refl
data_same names (f ∷ fs) = ap (item (table (filter_tree names f))) (data_same names fs)

once_again : (key : Key) (all : List FilterEntry) → All (IsEntry key) all → length all ≤ 64
    → each_once (entry_names all) ≡ true
    → entries_once key (list_data (λ e. table (entry_tree e)) all) ≡ Ok all
unfolding entries_once
once_again key all are few once = rw (elements_again key all are few, once) refl

-- what `entries_once` read, and that no name stands there twice
record IsOnce (key : Key) (all : List FilterEntry) : Type 0 where
  pub each : All (IsEntry key) all
  pub once : each_once (entry_names all) ≡ true

once_is : (key : Key) (d : Data) (all : List FilterEntry) → entries_once key d ≡ Ok all → IsOnce key all
unfolding entries_once
once_is key d all e =
    taken (IsOnce key) (filters key d) _ all e (λ found read e1.
    held (IsOnce key) (Twice key) (each_once (entry_names found)) _ all e1 (λ once e2.
    subst (IsOnce key) (value_is found all e2) (record { each = elements_are key d found read; once = once })))

pub filters_again : (names : List (List ℕ)) (key : Key) (d : Data) (fs : List GroupFilter) → length fs ≤ 64
    → filters_at names key d ≡ Ok fs
    → filters_at names key (list_data (λ f. table (filter_tree names f)) fs) ≡ Ok fs
filters_again names key d fs few e =
    taken (λ (fs : List GroupFilter). length fs ≤ 64 → filters_at names key
    (list_data (λ f. table (filter_tree names f)) fs) ≡ Ok fs) (entries_once key d) _ fs e (λ all read rest few.
    let is = once_is key d all read in
    let more = numbered_from key names [] all fs rest in
    let entries : map (entry_of names) fs ≡ all = ap (map (entry_of names)) more.1 ∙ more.2 in
    let size : length all ≡ length fs = ap length (sym entries) ∙ length-map fs (entry_of names) in
    let same : list_data (λ e. table (entry_tree e)) all ≡ list_data (λ f. table (filter_tree names f)) fs =
    ap (λ (all : List FilterEntry). list_data (λ e. table (entry_tree e)) all) (sym entries)
    ∙ ap array (data_same names fs) in
    rw (← same, once_again key all is.each (subst (λ n. n ≤ 64) (sym size) few) is.once) rest) few

pub none_again : (names : List (List ℕ)) (key : Key) → filters_at names key
    (list_data (λ f. table (filter_tree names f)) []) ≡ Ok []
unfolding entries_once filters
none_again names key = refl
