-- Lists of entries that were read are read again from what is written of them.
use Rattle.std.proofs.Common.{◌≡◌, ℕ, ◌+◌, true, List, [], ◌∷◌, ◌++◌, length, map, Option, Some, Ok, sym, subst, ◌∙◌, append_assoc}
use Rattle.std.proofs.lemmas.List.{append-nil}
use Rattle.toml.specs.Data.{Data, string, integer, float, boolean, datetime, array, table, Items, no_items, item, Members}
use Rattle.toml.specs.View.{items_of}
use Rattle.config_keys.specs.declared.key.Key.{Key}
use Rattle.config_keys.specs.Answers.{Read}
use Rattle.config_keys.specs.Lists.{tables}
use Rattle.config_keys.specs.Rules.{required, optional, is_within}
use Rattle.config_keys.proofs.KeepLemmas.{value_is, taken}
use Rattle.cast_config.specs.Document.{entries, listed, listed_or_none}
use Rattle.config_write.specs.Members.{list_data}
use Rattle.config_write.proofs.DataLemmas.{tables_read}

-- an entry is read again by the other reader, whatever it was read of
abbrev pub IsReread : {A : Type 0} → (ℕ → List A → Members → Read A) → (ℕ → List A → Members → Read A) → (A → Members)
    → Type 0
IsReread {A} one other tree = (n : ℕ) (before : List A) (ms : Members) (a : A) → one n before ms ≡ Ok a
    → other n before (tree a) ≡ Ok a

entries_from : {A : Type 0} (key : Key) (one other : ℕ → List A → Members → Read A) (tree : A → Members)
    → IsReread one other tree
    → (n : ℕ) (before : List A) (ds : Items) (xs : List A) → entries key one n before ds ≡ Ok xs
    → (more : List A) × (xs ≡ before ++ more) × (entries key other n before (items_of (map (λ x. table (tree x)) more))
    ≡ Ok xs)
entries_from key one other tree again n before no_items xs e =
    let same : before ≡ xs = value_is before xs e in ([], sym same ∙ sym (append-nil before), e)
entries_from {A} key one other tree again n before (item (table ms) ds) xs e =
    taken (λ xs. (more : List A) × (xs ≡ before ++ more) × (entries key other n before
    (items_of (map (λ x. table (tree x)) more)) ≡ Ok xs)) (one n before ms) _ xs e (λ a read rest.
    let more = entries_from key one other tree again (n + 1) (before ++ a ∷ []) ds xs rest in
    (a ∷ more.0, more.1 ∙ append_assoc before (a ∷ []) more.0, rw (again n before ms a read) more.2))
entries_from key one other tree again n before (item (string z) ds) xs e = absurd cc
entries_from key one other tree again n before (item (integer z) ds) xs e = absurd cc
entries_from key one other tree again n before (item (float z) ds) xs e = absurd cc
entries_from key one other tree again n before (item (boolean z) ds) xs e = absurd cc
entries_from key one other tree again n before (item (datetime z) ds) xs e = absurd cc
entries_from key one other tree again n before (item (array z) ds) xs e = absurd cc

entries_again : {A : Type 0} (key : Key) (one other : ℕ → List A → Members → Read A) (tree : A → Members)
    → IsReread one other tree
    → (ds : Items) (xs : List A) → entries key one 1 [] ds ≡ Ok xs → entries key other 1 []
    (items_of (map (λ x. table (tree x)) xs)) ≡ Ok xs
entries_again {A} key one other tree again ds xs e =
    let more = entries_from key one other tree again 1 [] ds xs e in
    let same : xs ≡ more.0 = more.1 in
    subst (λ (l : List A). entries key other 1 [] (items_of (map (λ x. table (tree x)) l)) ≡ Ok xs) (sym same) more.2

both_read : {A : Type 0} (key : Key) (one other : ℕ → List A → Members → Read A) (tree : A → Members)
    → IsReread one other tree
    → (least most : ℕ) (ds : Items) (xs : List A) → entries key one 1 [] ds ≡ Ok xs
    → is_within least most (length xs) ≡ true
    → listed other least most key (Some (list_data (λ x. table (tree x)) xs)) ≡ Ok xs
both_read key one other tree again least most ds xs e within =
    rw (tables_read tree least most key xs within) (entries_again key one other tree again ds xs e)

pub listed_again : {A : Type 0} (key : Key) (one other : ℕ → List A → Members → Read A) (tree : A → Members)
    → IsReread one other tree
    → (least most first last : ℕ) (o : Option Data) (xs : List A) → listed one first last key o ≡ Ok xs
    → is_within least most (length xs) ≡ true
    → listed other least most key (Some (list_data (λ x. table (tree x)) xs)) ≡ Ok xs
listed_again {A} key one other tree again least most first last o xs e =
    taken (λ (xs : List A). is_within least most (length xs) ≡ true → listed other least most key
    (Some (list_data (λ x. table (tree x)) xs)) ≡ Ok xs)
    (required (tables first last) key o) _ xs e (λ ds read rest. both_read key one other tree again least most ds xs
    rest)

pub listed_or_none_again : {A : Type 0} (key : Key) (one other : ℕ → List A → Members → Read A) (tree : A → Members)
    → IsReread one other tree
    → (most last : ℕ) (o : Option Data) (xs : List A) → listed_or_none one last key o ≡ Ok xs
    → is_within 0 most (length xs) ≡ true
    → listed_or_none other most key (Some (list_data (λ x. table (tree x)) xs)) ≡ Ok xs
listed_or_none_again {A} key one other tree again most last o xs e =
    taken (λ (xs : List A). is_within 0 most (length xs) ≡ true → listed_or_none other most key
    (Some (list_data (λ x. table (tree x)) xs)) ≡ Ok xs)
    (optional no_items (tables 0 last) key o) _ xs e (λ ds read rest. both_read key one other tree again 0 most ds xs
    rest)
