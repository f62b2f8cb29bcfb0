-- What was read is read again from the data that stands for it, and keeps the rule of its key.
use Rattle.std.proofs.Common.{◌≡◌, ℕ, ◌≤◌, suc, ℤ, pos, negsuc, Bool, true, false, ◌&&◌, List, Option, Some, None, Ok, Err, refl, ap, subst, inl, inr, arith, leb}
use Rattle.std.specs.Prelude.{IsTrue, int_le, unsigned_abs}
use Rattle.std.proofs.lemmas.Bool.{cases_Bool, and_parts, leb-true}
use Rattle.toml.specs.Data.{Data, string, integer, float, boolean, datetime, array, table}
use Rattle.cast_text.specs.Name.{is_name}
use Rattle.config_keys.specs.declared.key.Key.{Key}
use Rattle.config_keys.specs.declared.strings.TextKind.{TextKind}
use Rattle.config_keys.specs.declared.fault.KeyFault.{KeyFault}
use Rattle.config_keys.specs.Answers.{Read, ◌>>=◌, holds}
use Rattle.config_keys.specs.Rules.{Rule, required, optional, whole, count, is_within}
use Rattle.config_keys.specs.Texts.{is_fit, text, name}

abbrev pub done : {A : Type 0} → A → Read A
done x = Ok x

pub value_is : {A : Type 0} (x y : A) → done x ≡ done y → x ≡ y
value_is x y e = cc

-- what a step read, and what was read after it
pub taken : {A B : Type 0} (P : B → Type 0) (r : Read A) (f : A → Read B) (y : B) → (r >>= f) ≡ Ok y
    → ((x : A) → r ≡ Ok x → f x ≡ Ok y → P y) → P y
taken P (Ok x) f y e k = k x refl e
taken P (Err d) f y e k = absurd cc

-- the test of a step held
pub held : {B : Type 0} (P : B → Type 0) (fault : KeyFault) (test : Bool) (f : Unit {0} → Read B) (y : B)
    → (holds fault test >>= f) ≡ Ok y → (test ≡ true → f tt ≡ Ok y → P y) → P y
held P fault true f y e k = k refl e
held P fault false f y e k = absurd cc

-- ---- keys

-- a rule that has one data for each value
abbrev pub Keeps : {A : Type 0} → Rule A → (A → Data) → Type 0
Keeps {A} rule back = (key : Key) (d : Data) (x : A) → rule key d ≡ Ok x → d ≡ back x

pub again : {A : Type 0} (rule : Rule A) (back : A → Data) → Keeps rule back
    → (key : Key) (o : Option Data) (x : A) → required rule key o ≡ Ok x → rule key (back x) ≡ Ok x
again rule back keeps key None x e = absurd cc
again {A} rule back keeps key (Some d) x e = subst (λ (v : Data). rule key v ≡ done x) (keeps key d x e) e

pub again_or : {A : Type 0} (rule : Rule A) (back : A → Data) → Keeps rule back
    → (key : Key) (default : A) (o : Option Data) (x : A) → rule key (back default) ≡ Ok default
    → optional default rule key o ≡ Ok x → rule key (back x) ≡ Ok x
again_or {A} rule back keeps key default None x base e = subst (λ (v : A). rule key (back v) ≡ done v)
    (value_is default x e) base
again_or rule back keeps key default (Some d) x base e = subst (λ (v : Data). rule key v ≡ done x) (keeps key d x e) e

-- ---- texts and names

fits : (kind : TextKind) (key : Key) (s x : List ℕ) → text kind key (string s) ≡ Ok x → (is_fit kind s ≡ true) × (s ≡ x)
fits kind key s x e =
    elim (cases_Bool (is_fit kind s)) [
      | inl fit ↦ (fit, value_is s x (rw fit at e))
      | inr other ↦ absurd (let h = rw other at e in cc)
    ]

pub text_keeps : (kind : TextKind) → Keeps (text kind) string
text_keeps kind key (string s) x e = ap string (fits kind key s x e).1
text_keeps kind key (integer z) x e = absurd cc
text_keeps kind key (float z) x e = absurd cc
text_keeps kind key (boolean z) x e = absurd cc
text_keeps kind key (datetime z) x e = absurd cc
text_keeps kind key (array z) x e = absurd cc
text_keeps kind key (table z) x e = absurd cc

pub text_fits : (kind : TextKind) (key : Key) (s : List ℕ) → text kind key (string s) ≡ Ok s → IsTrue (is_fit kind s)
text_fits kind key s e = (fits kind key s s e).0

pub fit_text : (kind : TextKind) (key : Key) (s : List ℕ) → is_fit kind s ≡ true → text kind key (string s) ≡ Ok s
fit_text kind key s fit = rw fit refl

names : (key : Key) (s x : List ℕ) → name key (string s) ≡ Ok x → (is_name s ≡ true) × (s ≡ x)
names key s x e =
    elim (cases_Bool (is_name s)) [
      | inl is ↦ (is, value_is s x (rw is at e))
      | inr other ↦ absurd (let h = rw other at e in cc)
    ]

pub name_keeps : Keeps name string
name_keeps key (string s) x e = ap string (names key s x e).1
name_keeps key (integer z) x e = absurd cc
name_keeps key (float z) x e = absurd cc
name_keeps key (boolean z) x e = absurd cc
name_keeps key (datetime z) x e = absurd cc
name_keeps key (array z) x e = absurd cc
name_keeps key (table z) x e = absurd cc

pub name_is : (key : Key) (s : List ℕ) → name key (string s) ≡ Ok s → IsTrue (is_name s)
name_is key s e = (names key s s e).0

-- ---- numbers

counted : (least most : ℕ) (key : Key) (n x : ℕ) → count least most key (integer (pos n)) ≡ Ok x
    → (is_within least most n ≡ true) × (n ≡ x)
counted least most key n x e =
    elim (cases_Bool (is_within least most n)) [
      | inl within ↦ (within, value_is n x (rw within at e))
      | inr other ↦ absurd (let h = rw other at e in cc)
    ]

pub count_keeps : (least most : ℕ) → Keeps (count least most) (λ n. integer (pos n))
count_keeps least most key (integer (pos n)) x e = ap (λ m. integer (pos m)) (counted least most key n x e).1
count_keeps least most key (integer (negsuc n)) x e = absurd cc
count_keeps least most key (string z) x e = absurd cc
count_keeps least most key (float z) x e = absurd cc
count_keeps least most key (boolean z) x e = absurd cc
count_keeps least most key (datetime z) x e = absurd cc
count_keeps least most key (array z) x e = absurd cc
count_keeps least most key (table z) x e = absurd cc

pub count_within : (least most : ℕ) (key : Key) (n : ℕ) → count least most key (integer (pos n)) ≡ Ok n
    → IsTrue (is_within least most n)
count_within least most key n e = (counted least most key n n e).0

ranged : (least most : ℤ) (key : Key) (z x : ℤ) → whole least most key (integer z) ≡ Ok x
    → ((int_le least z && int_le z most) ≡ true) × (z ≡ x)
ranged least most key z x e =
    elim (cases_Bool (int_le least z && int_le z most)) [
      | inl within ↦ (within, value_is z x (rw within at e))
      | inr other ↦ absurd (let h = rw other at e in cc)
    ]

pub whole_keeps : (least most : ℤ) → Keeps (whole least most) integer
whole_keeps least most key (integer z) x e = ap integer (ranged least most key z x e).1
whole_keeps least most key (string z) x e = absurd cc
whole_keeps least most key (float z) x e = absurd cc
whole_keeps least most key (boolean z) x e = absurd cc
whole_keeps least most key (datetime z) x e = absurd cc
whole_keeps least most key (array z) x e = absurd cc
whole_keeps least most key (table z) x e = absurd cc

size_within : (most : ℕ) (z : ℤ) → (int_le (negsuc most) z && int_le z (pos (suc most))) ≡ true
    → unsigned_abs z ≤ suc most
size_within most (pos n) e = let h = leb-true n (suc most) e in h
size_within most (negsuc n) e =
    let parts = and_parts (leb n most) true e in let h : n ≤ most = leb-true n most parts.0 in omega arith

-- a whole number of this size at most
pub whole_within : (most : ℕ) (key : Key) (z : ℤ) → whole (negsuc most) (pos (suc most)) key (integer z) ≡ Ok z
    → unsigned_abs z ≤ suc most
whole_within most key z e = size_within most z (ranged (negsuc most) (pos (suc most)) key z z e).0
