-- Bytes without a fault are a name.
use Rattle.std.proofs.Common.{◌≡◌, ℕ, ◌≤◌, Bool, true, false, not, cond, ◌&&◌, eqb, ltb, leb, List, [], ◌∷◌, length, Option, Some, None, refl, sym, ◌∙◌, arith, inl, inr}
use Rattle.std.specs.Prelude.{position, Ok}
use Rattle.std.specs.List.{list_all, prefix_len}
use Rattle.std.specs.Option.{is_none}
use Rattle.std.proofs.lemmas.Bool.{cases_Bool, cases_lt, false_from_ne_true, false≢true, eqb-false, ltb-false, le-leb, lt-ltb, le-ltb, leb-true, ne_eqb, and_from, and_parts}
use Rattle.cast_text.specs.declared.fault.NameFault.{NameFault}
use Rattle.cast_text.specs.Name.{is_name_byte, is_name, name_fault, fault_at, name_unless, name_of}

-- a front of allowed bytes that takes all of the list
all_from_prefix : (p : ℕ → Bool) (bs : List ℕ) → length bs ≤ prefix_len (λ b. not (not (p b))) bs → list_all p bs ≡ true
all_from_prefix p [] le = refl
all_from_prefix p (b ∷ bs) le =
    elim (cases_Bool (p b)) [
      | inl allowed ↦ rw allowed (all_from_prefix p bs (let h = rw allowed at le in omega arith))
      | inr refused ↦ absurd (let h = rw refused at le in omega arith)
    ]

-- no test that is made in turn found a fault
no_place : (p : ℕ → Bool) (bs : List ℕ) → fault_at (position (λ b. not (p b)) bs) ≡ None → list_all p bs ≡ true
no_place p bs none =
    elim (cases_lt (prefix_len (λ b. not (not (p b))) bs) (length bs)) [
      | inl lt ↦ absurd (let h = rw (lt-ltb _ _ lt) at none in cc)
      | inr le ↦ all_from_prefix p bs le
    ]

cond_none : {A : Type 0} (b : Bool) (x : A) (o : Option A) → cond b (Some x) o ≡ None → (b ≡ false) × (o ≡ None)
cond_none true x o none = absurd cc
cond_none false x o none = (refl, none)

pub is_name_unless : (text : List ℕ) → name_fault text ≡ None → is_name text ≡ true
is_name_unless text none =
    let a = cond_none (eqb (length text) 0) _ _ none in
    let b = cond_none (ltb 100 (length text)) _ _ a.1 in
    let some : 1 ≤ length text = omega (arith, eqb-false (length text) 0 a.0) in
    let few : length text ≤ 100 = ltb-false 100 (length text) b.0 in
    and_from _ _ (and_from _ _ (le-leb 1 (length text) some) (le-leb (length text) 100 few))
    (no_place is_name_byte text b.1)

-- where each byte is allowed, no place is refused
whole_prefix : (p : ℕ → Bool) (bs : List ℕ) → list_all p bs ≡ true → prefix_len (λ b. not (not (p b))) bs ≡ length bs
whole_prefix p [] all = refl
whole_prefix p (b ∷ bs) all =
    let parts = and_parts (p b) (list_all p bs) all in
    rw parts.0 (let more = whole_prefix p bs parts.1 in omega arith)

no_place_refused : (p : ℕ → Bool) (bs : List ℕ) → list_all p bs ≡ true → position (λ b. not (p b)) bs ≡ None
no_place_refused p bs all = rw
    (le-ltb (prefix_len (λ b. not (not (p b))) bs) (length bs) (let whole = whole_prefix p bs all in omega arith)) refl

-- a name is read as itself
pub name_of-name : (text : List ℕ) → is_name text ≡ true → name_of text ≡ Ok text
name_of-name text name =
    let a = and_parts (leb 1 (length text) && leb (length text) 100) (list_all is_name_byte text) name in
    let b = and_parts (leb 1 (length text)) (leb (length text) 100) a.0 in
    let some : eqb (length text) 0 ≡ false = ne_eqb (length text) 0
    (λ none. let one = leb-true 1 (length text) b.0 in omega arith) in
    let few : ltb 100 (length text) ≡ false = le-ltb 100 (length text) (leb-true (length text) 100 b.1) in
    rw (some, few, no_place_refused is_name_byte text a.1) refl

unless_ok : (text name : List ℕ) (fault : Option NameFault) → name_unless text fault ≡ Ok name → (fault ≡ None)
    × (text ≡ name)
unless_ok text name None ok = (refl, cc)
unless_ok text name (Some fault) ok = absurd cc

-- what is read as a name is one, and itself
pub name_of-ok : (text name : List ℕ) → name_of text ≡ Ok name → (text ≡ name) × (is_name text ≡ true)
name_of-ok text name ok = let h = unless_ok text name (name_fault text) ok in (h.1, is_name_unless text h.0)

fault_unless : (text : List ℕ) (fault : Option NameFault) → name_unless text fault ≡ Ok text → is_none fault ≡ true
fault_unless text None ok = refl
fault_unless text (Some fault) ok = absurd cc

no_fault : (fault : Option NameFault) → is_none fault ≡ true → fault ≡ None
no_fault None none = refl
no_fault (Some fault) none = absurd cc

-- bytes are a name exactly where nothing is wrong with them
pub none_is_name : (text : List ℕ) → is_none (name_fault text) ≡ is_name text
none_is_name text =
    elim (cases_Bool (is_name text)) [
      | inl name ↦ rw name (fault_unless text (name_fault text) (name_of-name text name))
      | inr other ↦ rw other (false_from_ne_true _ (λ none. false≢true
          (sym other ∙ is_name_unless text (no_fault (name_fault text) none))))
    ]
