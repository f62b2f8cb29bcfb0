-- Names among others: what was read, and read again.
use Rattle.std.proofs.Common.{◌≡◌, ℕ, ◌+◌, ◌<◌, suc, Bool, true, false, not, List, [], ◌∷◌, ◌++◌, length, get_or, Option, Some, None, Ok, refl, sym, ap, subst, ◌∙◌, inl, inr, arith}
use Rattle.std.specs.List.{position_from}
use Rattle.std.specs.Str.{bytes_eq}
use Rattle.std.proofs.lemmas.Bool.{cases_Bool, and_parts, or_parts, false_from_ne_true, false≢true}
use Rattle.std.proofs.lemmas.List.Folds.{list_any-append}
use Rattle.std.proofs.lemmas.Slice.Eq.{bytes_eq-Decides}
use Rattle.toml.specs.Data.{Data, string}
use Rattle.config_keys.specs.declared.key.Key.{Key}
use Rattle.config_keys.specs.declared.fault.KeyFault.{KeyFault}
use Rattle.config_keys.specs.declared.fault.KeyFault.TheVariants.{Twice, Unknown}
use Rattle.config_keys.specs.Answers.{given}
use Rattle.config_keys.specs.Lists.{is_among, each_once}
use Rattle.config_keys.specs.Texts.{name}
use Rattle.config_keys.proofs.KeepLemmas.{done, value_is, taken, held, name_keeps}
use Rattle.cast_config.specs.Names.{new_name, named, place_of, place_at}
use Rattle.cast_config.specs.Kept.{once}

abbrev pub name_at : List (List ℕ) → ℕ → List ℕ
name_at names n = get_or names n []

pub same_bytes : (xs ys : List ℕ) → bytes_eq xs ys ≡ true → xs ≡ ys
same_bytes xs ys e = (bytes_eq-Decides xs ys).0 e

pub bytes_same : (xs : List ℕ) → bytes_eq xs xs ≡ true
bytes_same xs = (bytes_eq-Decides xs xs).1 refl

-- ---- new names

pub record IsNew (names : List (List ℕ)) (key : Key) (s : List ℕ) : Type 0 where
  pub is : name key (string s) ≡ Ok s
  pub new : is_among names s ≡ false

pub not_true : (b : Bool) → not b ≡ true → b ≡ false
not_true true e = absurd cc
not_true false e = refl

-- a name that was read as new is one, and new
pub new_is : (names : List (List ℕ)) (key : Key) (d : Data) (s : List ℕ) → new_name names key d ≡ Ok s → (d ≡ string s)
    × IsNew names key s
unfolding new_name
new_is names key d s e =
    taken (λ s. (d ≡ string s) × IsNew names key s) (name key d) _ s e (λ x read more.
    held (λ s. (d ≡ string s) × IsNew names key s) (Twice key) (not (is_among names x)) _ s more (λ new last.
    let same : x ≡ s = value_is x s last in
    let at : d ≡ string x = name_keeps key d x read in
    subst (λ (s : List ℕ). (d ≡ string s) × IsNew names key s) same
    (at, record { is = subst (λ (v : Data). name key v ≡ done x) at read; new = not_true _ new })))

-- ---- a name's number

-- the number of a name is that of an equal one
pub record IsPlace (names : List (List ℕ)) (s : List ℕ) (n : ℕ) : Type 0 where
  pub within : n < length names
  pub name : name_at names n ≡ s

found_from : (names : List (List ℕ)) (s : List ℕ) (from n : ℕ) → position_from (λ other. bytes_eq other s) from names ≡
    Some n
    → (k : ℕ) × (n ≡ from + k) × IsPlace names s k
found_from [] s from n e = absurd cc
found_from (x ∷ names) s from n e =
    elim (cases_Bool (bytes_eq x s)) [
      | inl here ↦
          let first : Some from ≡ Some n = rw here at e in
          let same : from ≡ n = cc in
          (0, omega (arith, same), record { within = omega arith; name = same_bytes x s here })
      | inr later ↦
          let found = found_from names s (from + 1) n (rw later at e) in
          let within : found.0 < length names = found.2.within in
          let at : n ≡ (from + 1) + found.0 = found.1 in
          (suc found.0, omega arith, record { within = omega arith; name = found.2.name })
    ]

pub place_is : (names : List (List ℕ)) (s : List ℕ) (n : ℕ) → place_of names s ≡ Some n → IsPlace names s n
place_is names s n e =
    let found = found_from names s 0 n e in
    let same : found.0 ≡ n = (let at : n ≡ 0 + found.0 = found.1 in omega arith) in
    subst (IsPlace names s) same found.2

pub given_some : {A : Type 0} (fault : KeyFault) (o : Option A) (x : A) → given fault o ≡ Ok x → o ≡ Some x
given_some fault None x e = absurd cc
given_some fault (Some y) x e = ap Some (value_is y x e)

pub place_read : (key : Key) (names : List (List ℕ)) (s : List ℕ) (n : ℕ) → place_at key names s ≡ Ok n
    → IsPlace names s n
place_read key names s n e = place_is names s n (given_some (Unknown key) (place_of names s) n e)

pub record IsNamed (names : List (List ℕ)) (key : Key) (n : ℕ) : Type 0 where
  pub within : n < length names
  pub again : named names key (string (name_at names n)) ≡ Ok n

pub named_is : (names : List (List ℕ)) (key : Key) (d : Data) (n : ℕ) → named names key d ≡ Ok n → IsNamed names key n
unfolding named
named_is names key d n e =
    taken (λ n. IsNamed names key n) (name key d) _ n e (λ s read more.
    let place : IsPlace names s n = place_read key names s n more in
    let at : d ≡ string s = name_keeps key d s read in
    let read_s : name key (string s) ≡ Ok s = subst (λ (v : Data). name key v ≡ done s) at read in
    record { within = place.within; again = rw (place.name, read_s) more })

-- ---- names that differ

among_more : (names : List (List ℕ)) (s x : List ℕ) → is_among names x ≡ false → bytes_eq s x ≡ false
    → is_among (names ++ s ∷ []) x ≡ false
among_more names s x none other = list_any-append (λ n. bytes_eq n x) names (s ∷ []) ∙ rw (none, other) refl

turned : (x s : List ℕ) → bytes_eq x s ≡ false → bytes_eq s x ≡ false
turned x s e = false_from_ne_true _ (λ same. false≢true (sym e ∙ (let eq : s ≡ x = same_bytes s x same in
    rw eq (bytes_same x))))

pub once_more : (names : List (List ℕ)) (s : List ℕ) → each_once names ≡ true → is_among names s ≡ false
    → each_once (names ++ s ∷ []) ≡ true
once_more [] s once new = refl
once_more (x ∷ names) s once new =
    let parts = and_parts (not (is_among names x)) (each_once names) once in
    let others = or_parts (bytes_eq x s) (is_among names s) new in
    let none : is_among (names ++ s ∷ []) x ≡ false = among_more names s x (not_true _ parts.0) (turned x s others.0) in
    rw (none, once_more names s parts.1 others.1) refl
