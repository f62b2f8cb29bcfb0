-- Names in two lists, one after the other.
use Rattle.std.proofs.Common.{◌≡◌, ℕ, ◌+◌, ◌||◌, List, [], ◌∷◌, ◌++◌, length, Option, Some, None, option_map, refl, ap, ◌∙◌, arith, inl, inr}
use Rattle.std.proofs.lemmas.List.{length-map}
use Rattle.std.specs.List.{position_from}
use Rattle.std.specs.Str.{bytes_eq}
use Rattle.std.specs.Option.{is_some}
use Rattle.std.proofs.lemmas.Bool.{cases_Bool}
use Rattle.config_keys.specs.Lists.{is_among}
use Rattle.cast_config.specs.declared.config.Mount.{Mount}
use Rattle.cast_config.specs.declared.config.Near.{Near}
use Rattle.cast_config.specs.Names.{mount_names, near_names, heard_names, place_of}

-- a name is found from any number on, or is none of these
found_from : (names : List (List ℕ)) (name : List ℕ) (from : ℕ)
    → is_some (position_from (λ n. bytes_eq n name) from names) ≡ is_among names name
found_from [] name from = refl
found_from (n ∷ names) name from =
    elim (cases_Bool (bytes_eq n name)) [
      | inl same ↦ rw same refl
      | inr other ↦ rw other (found_from names name (from + 1))
    ]

pub among_both : (names others : List (List ℕ)) (name : List ℕ) → is_among (names ++ others) name ≡
    (is_among names name || is_among others name)
among_both [] others name = refl
among_both (n ∷ names) others name =
    elim (cases_Bool (bytes_eq n name)) [
      | inl same ↦ rw same refl
      | inr other ↦ rw other (among_both names others name)
    ]

-- found in the first list
found_first : (names others : List (List ℕ)) (name : List ℕ) (from place : ℕ)
    → position_from (λ n. bytes_eq n name) from names ≡ Some place → position_from (λ n. bytes_eq n name) from
    (names ++ others) ≡ Some place
found_first [] others name from place e = absurd cc
found_first (n ∷ names) others name from place e =
    elim (cases_Bool (bytes_eq n name)) [
      | inl same ↦ rw same (rw same at e)
      | inr other ↦ rw other (found_first names others name (from + 1) place (rw other at e))
    ]

-- not found there, and so looked for in the second one
found_second : (names others : List (List ℕ)) (name : List ℕ) (from : ℕ)
    → position_from (λ n. bytes_eq n name) from names ≡ None
    → position_from (λ n. bytes_eq n name) from (names ++ others) ≡ position_from (λ n. bytes_eq n name)
    (from + length names) others
found_second [] others name from e = let same : from + 0 ≡ from = omega arith in rw same refl
found_second (n ∷ names) others name from e =
    elim (cases_Bool (bytes_eq n name)) [
      | inl same ↦ absurd (let h = rw same at e in cc)
      | inr other ↦
          let there : (from + 1) + length names ≡ from + length (n ∷ names) = omega arith in
          rw other (found_second names others name (from + 1) (rw other at e) ∙ rw there refl)
    ]

-- looked for from another number on
shifted : (names : List (List ℕ)) (name : List ℕ) (from more : ℕ)
    → position_from (λ n. bytes_eq n name) (from + more) names ≡ option_map (λ i. from + i)
    (position_from (λ n. bytes_eq n name) more names)
shifted [] name from more = refl
shifted (n ∷ names) name from more =
    elim (cases_Bool (bytes_eq n name)) [
      | inl same ↦ rw same refl
      | inr other ↦
          let there : (from + more) + 1 ≡ from + (more + 1) = omega arith in
          rw (other, there) (shifted names name from (more + 1))
    ]

-- the number of a mountpoint
pub in_mounts : (mounts : List Mount) (nears : List Near) (name : List ℕ) (place : ℕ)
    → place_of (mount_names mounts) name ≡ Some place → place_of (heard_names mounts nears) name ≡ Some place
in_mounts mounts nears name place e = found_first (mount_names mounts) (near_names nears) name 0 place e

-- the number of a near mountpoint
pub not_in_mounts : (mounts : List Mount) (nears : List Near) (name : List ℕ) (place : Option ℕ)
    → place_of (mount_names mounts) name ≡ None → place_of (near_names nears) name ≡ place
    → place_of (heard_names mounts nears) name ≡ option_map (λ i. length mounts + i) place
not_in_mounts mounts nears name place e f =
    let from : 0 + length (mount_names mounts) ≡ length mounts + 0 = let same : length (mount_names mounts) ≡ length
    mounts = length-map mounts (λ (m : Mount). m.name) in omega arith in
    found_second (mount_names mounts) (near_names nears) name 0 e
    ∙ ap (λ n. position_from (λ other. bytes_eq other name) n (near_names nears)) from
    ∙ shifted (near_names nears) name (length mounts) 0
    ∙ ap (option_map (λ i. length mounts + i)) f

-- what is found among names is one of them
pub found_among : (names : List (List ℕ)) (name : List ℕ) → is_some (place_of names name) ≡ is_among names name
found_among names name = found_from names name 0
