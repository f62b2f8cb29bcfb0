-- Lists of entries that were read: their length, what holds of each, and that names differ.
use Rattle.std.proofs.Common.{◌≡◌, ℕ, ◌+◌, true, false, List, [], ◌∷◌, ◌++◌, length, map, Option, Some, None, Ok, refl, sym, ap, subst, ◌∙◌, arith, append_assoc, length-append}
use Rattle.std.specs.List.{All}
use Rattle.std.proofs.lemmas.Bool.{le-leb}
use Rattle.std.proofs.lemmas.List.{map-append}
use Rattle.std.proofs.lemmas.List.Elements.{All-append, All-cons, All-nil}
use Rattle.toml.specs.Data.{Data, string, integer, float, boolean, datetime, array, table, Items, no_items, item, Members}
use Rattle.config_keys.specs.declared.key.Key.{Key}
use Rattle.config_keys.specs.declared.fault.KeyFault.TheVariants.{Wrong, Range}
use Rattle.config_keys.specs.Answers.{Read, ◌>>=◌, holds}
use Rattle.config_keys.specs.Lists.{is_among, each_once, item_count, are_tables, tables}
use Rattle.config_keys.specs.Rules.{required, optional, is_within}
use Rattle.config_keys.proofs.KeepLemmas.{done, value_is, taken, held}
use Rattle.cast_config.specs.Document.{entries, listed, listed_or_none}
use Rattle.cast_config.proofs.NameKeeps.{once_more}

-- what holds of each entry that a list was read of
pub record AreKept {A : Type 0} (P : A → Type 0) (least most : ℕ) (xs : List A) : Type 0 where
  pub each : All P xs
  pub count : is_within least most (length xs) ≡ true

entries_kept : {A : Type 0} (P : A → Type 0) (key : Key) (one : ℕ → List A → Members → Read A)
    → ((n : ℕ) (before : List A) (ms : Members) (a : A) → one n before ms ≡ Ok a → P a)
    → (n : ℕ) (before : List A) (ds : Items) (xs : List A) → All P before → entries key one n before ds ≡ Ok xs
    → All P xs × (length xs ≡ length before + item_count ds)
entries_kept P key one each n before no_items xs kept e =
    let same = value_is before xs e in
    (subst (λ xs. All P xs) same kept, ap length (sym same) ∙ omega arith)
entries_kept P key one each n before (item (table ms) ds) xs kept e =
    taken (λ xs. All P xs × (length xs ≡ length before + item_count (item (table ms) ds))) (one n before ms) _ xs e
    (λ a read rest.
    let more = entries_kept P key one each (n + 1) (before ++ a ∷ []) ds xs
    (All-append P before (a ∷ []) kept (All-cons P a [] (each n before ms a read) (All-nil P))) rest in
    let size : length (before ++ a ∷ []) ≡ length before + 1 = length-append before (a ∷ []) in
    let all : length xs ≡ length (before ++ a ∷ []) + item_count ds = more.1 in
    (more.0, omega arith))
entries_kept P key one each n before (item (string z) ds) xs kept e = absurd cc
entries_kept P key one each n before (item (integer z) ds) xs kept e = absurd cc
entries_kept P key one each n before (item (float z) ds) xs kept e = absurd cc
entries_kept P key one each n before (item (boolean z) ds) xs kept e = absurd cc
entries_kept P key one each n before (item (datetime z) ds) xs kept e = absurd cc
entries_kept P key one each n before (item (array z) ds) xs kept e = absurd cc

tables_count : (least most : ℕ) (key : Key) (d : Data) (ds : Items) → tables least most key d ≡ Ok ds
    → is_within least most (item_count ds) ≡ true
unfolding tables
tables_count least most key (array all) ds e =
    held (λ ds. is_within least most (item_count ds) ≡ true) (Wrong key) (are_tables all)
    (λ u. holds (Range key) (is_within least most (item_count all)) >>= (λ v. done all)) ds e (λ are e1.
    held (λ ds. is_within least most (item_count ds) ≡ true) (Range key) (is_within least most (item_count all))
    (λ v. done all) ds e1 (λ range e2.
    subst (λ ds. is_within least most (item_count ds) ≡ true) (value_is all ds e2) range))
tables_count least most key (string z) ds e = absurd cc
tables_count least most key (integer z) ds e = absurd cc
tables_count least most key (float z) ds e = absurd cc
tables_count least most key (boolean z) ds e = absurd cc
tables_count least most key (datetime z) ds e = absurd cc
tables_count least most key (table z) ds e = absurd cc

within_zero : (most : ℕ) → is_within 0 most 0 ≡ true
within_zero most = rw (le-leb 0 most (omega arith)) refl

required_count : (least most : ℕ) (key : Key) (o : Option Data) (ds : Items)
    → required (tables least most) key o ≡ Ok ds → is_within least most (item_count ds) ≡ true
required_count least most key None ds e = absurd cc
required_count least most key (Some d) ds e = tables_count least most key d ds e

optional_count : (most : ℕ) (key : Key) (o : Option Data) (ds : Items) → optional no_items (tables 0 most) key o ≡ Ok ds
    → is_within 0 most (item_count ds) ≡ true
optional_count most key None ds e = subst (λ ds. is_within 0 most (item_count ds) ≡ true) (value_is no_items ds e)
    (within_zero most)
optional_count most key (Some d) ds e = tables_count 0 most key d ds e

pub listed_kept : {A : Type 0} (P : A → Type 0) (one : ℕ → List A → Members → Read A)
    → ((n : ℕ) (before : List A) (ms : Members) (a : A) → one n before ms ≡ Ok a → P a)
    → (least most : ℕ) (key : Key) (o : Option Data) (xs : List A) → listed one least most key o ≡ Ok xs
    → AreKept P least most xs
listed_kept P one each least most key o xs e =
    taken (AreKept P least most) (required (tables least most) key o) _ xs e (λ ds read rest.
    let kept = entries_kept P key one each 1 [] ds xs (All-nil P) rest in
    let size : item_count ds ≡ length xs = (let all : length xs ≡ 0 + item_count ds = kept.1 in omega arith) in
    record {
      each = kept.0;
      count = subst (λ n. is_within least most n ≡ true) size
          (required_count least most key o ds read);
    })

pub listed_or_none_kept : {A : Type 0} (P : A → Type 0) (one : ℕ → List A → Members → Read A)
    → ((n : ℕ) (before : List A) (ms : Members) (a : A) → one n before ms ≡ Ok a → P a)
    → (most : ℕ) (key : Key) (o : Option Data) (xs : List A) → listed_or_none one most key o ≡ Ok xs
    → AreKept P 0 most xs
listed_or_none_kept P one each most key o xs e =
    taken (AreKept P 0 most) (optional no_items (tables 0 most) key o) _ xs e (λ ds read rest.
    let kept = entries_kept P key one each 1 [] ds xs (All-nil P) rest in
    let size : item_count ds ≡ length xs = (let all : length xs ≡ 0 + item_count ds = kept.1 in omega arith) in
    record { each = kept.0; count = subst (λ n. is_within 0 most n ≡ true) size (optional_count most key o ds read) })

-- ---- names that differ, behind others

entries_differ : {A : Type 0} (title : A → List ℕ) (others : List (List ℕ)) (key : Key)
    (one : ℕ → List A → Members → Read A)
    → ((n : ℕ) (before : List A) (ms : Members) (a : A) → one n before ms ≡ Ok a
    → is_among (others ++ map title before) (title a) ≡ false)
    → (n : ℕ) (before : List A) (ds : Items) (xs : List A) → each_once (others ++ map title before) ≡ true
    → entries key one n before ds ≡ Ok xs
    → each_once (others ++ map title xs) ≡ true
entries_differ title others key one each n before no_items xs once e =
    subst (λ xs. each_once (others ++ map title xs) ≡ true) (value_is before xs e) once
entries_differ title others key one each n before (item (table ms) ds) xs once e =
    taken (λ xs. each_once (others ++ map title xs) ≡ true) (one n before ms) _ xs e (λ a read rest.
    let new = once_more (others ++ map title before) (title a) once (each n before ms a read) in
    let same : (others ++ map title before) ++ title a ∷ [] ≡ others ++ map title (before ++ a ∷ []) =
    append_assoc others (map title before) (title a ∷ []) ∙ ap (λ (ns : List (List ℕ)). others ++ ns)
    (sym (map-append title before (a ∷ []))) in
    entries_differ title others key one each (n + 1) (before ++ a ∷ []) ds xs
    (subst (λ ns. each_once ns ≡ true) same new) rest)
entries_differ title others key one each n before (item (string z) ds) xs once e = absurd cc
entries_differ title others key one each n before (item (integer z) ds) xs once e = absurd cc
entries_differ title others key one each n before (item (float z) ds) xs once e = absurd cc
entries_differ title others key one each n before (item (boolean z) ds) xs once e = absurd cc
entries_differ title others key one each n before (item (datetime z) ds) xs once e = absurd cc
entries_differ title others key one each n before (item (array z) ds) xs once e = absurd cc

pub listed_differ : {A : Type 0} (title : A → List ℕ) (others : List (List ℕ)) (one : ℕ → List A → Members → Read A)
    → ((n : ℕ) (before : List A) (ms : Members) (a : A) → one n before ms ≡ Ok a
    → is_among (others ++ map title before) (title a) ≡ false)
    → each_once (others ++ []) ≡ true
    → (least most : ℕ) (key : Key) (o : Option Data) (xs : List A) → listed one least most key o ≡ Ok xs
    → each_once (others ++ map title xs) ≡ true
listed_differ title others one each base least most key o xs e =
    taken (λ xs. each_once (others ++ map title xs) ≡ true) (required (tables least most) key o) _ xs e (λ ds read rest.
    entries_differ title others key one each 1 [] ds xs base rest)

pub listed_or_none_differ : {A : Type 0} (title : A → List ℕ) (others : List (List ℕ))
    (one : ℕ → List A → Members → Read A)
    → ((n : ℕ) (before : List A) (ms : Members) (a : A) → one n before ms ≡ Ok a
    → is_among (others ++ map title before) (title a) ≡ false)
    → each_once (others ++ []) ≡ true
    → (most : ℕ) (key : Key) (o : Option Data) (xs : List A) → listed_or_none one most key o ≡ Ok xs
    → each_once (others ++ map title xs) ≡ true
listed_or_none_differ title others one each base most key o xs e =
    taken (λ xs. each_once (others ++ map title xs) ≡ true) (optional no_items (tables 0 most) key o) _ xs e
    (λ ds read rest.
    entries_differ title others key one each 1 [] ds xs base rest)
