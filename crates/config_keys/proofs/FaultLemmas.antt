-- Faults of two parts that are tested together.
use Rattle.std.proofs.Common.{◌≡◌, ℕ, ◌⊎◌, inl, inr, refl, ap, ◌∙◌, List, Option, Some, Ok, Err}
use Rattle.std.specs.Prelude.{codes}
use Rattle.toml.specs.Data.{Data, string, integer, float, boolean, datetime, array, table, Members, as_table, get_member}
use Rattle.type_filter.specs.Permitted.{FilterValue}
use Rattle.config_keys.specs.declared.key.Key.{Key}
use Rattle.config_keys.specs.declared.fault.KeyFault.{KeyFault}
use Rattle.config_keys.specs.declared.fault.KeyFault.TheVariants.{Missing, Wrong, Range, Twice, Unknown, Memory}
use Rattle.config_keys.specs.Answers.{Read, Refuses, Gives}
use Rattle.config_keys.specs.Rules.{required}
use Rattle.config_keys.specs.Texts.{name}
use Rattle.config_keys.specs.Types.{types as types_rule, first_of, both, with_fault, filter_entry, filter_in}

abbrev failed : {A : Type 0} → KeyFault → Read A
failed fault = Err fault

-- a refusal is for want of memory, or for the reason that it names
either : {A : Type 0} (fault : KeyFault) (read : Read A) → Refuses fault read → (fault ≡ Memory) ⊎ (read ≡ failed fault)
either Memory read h = inl refl
either (Missing key) read h = inr h
either (Wrong key) read h = inr h
either (Range key) read h = inr h
either (Twice key) read h = inr h
either (Unknown key) read h = inr h

pub refuses : {A : Type 0} (fault : KeyFault) (read : Read A) → read ≡ failed fault → Refuses fault read
refuses Memory read h = tt
refuses (Missing key) read h = h
refuses (Wrong key) read h = h
refuses (Range key) read h = h
refuses (Twice key) read h = h
refuses (Unknown key) read h = h

memory_first : (fault : KeyFault) → first_of Memory fault ≡ Memory
memory_first Memory = refl
memory_first (Missing key) = refl
memory_first (Wrong key) = refl
memory_first (Range key) = refl
memory_first (Twice key) = refl
memory_first (Unknown key) = refl

memory_second : (fault : KeyFault) → first_of fault Memory ≡ Memory
memory_second Memory = refl
memory_second (Missing key) = refl
memory_second (Wrong key) = refl
memory_second (Range key) = refl
memory_second (Twice key) = refl
memory_second (Unknown key) = refl

lacking : {A : Type 0} (fault : KeyFault) (read : Read A) → fault ≡ Memory → Refuses fault read
lacking Memory read e = tt
lacking (Missing key) read e = absurd cc
lacking (Wrong key) read e = absurd cc
lacking (Range key) read e = absurd cc
lacking (Twice key) read e = absurd cc
lacking (Unknown key) read e = absurd cc

both_fail : {A B C : Type 0} (make : A → B → C) (fault other : KeyFault) (a : Read A) (b : Read B)
    → (fault ≡ Memory) ⊎ (a ≡ failed fault) → (other ≡ Memory) ⊎ (b ≡ failed other)
    → Refuses (first_of fault other) (both make a b)
both_fail make fault other a b (inl e) h = lacking _ _ (ap (λ f. first_of f other) e ∙ memory_first other)
both_fail make fault other a b (inr e) (inl o) = lacking _ _ (ap (first_of fault) o ∙ memory_second fault)
both_fail make fault other a b (inr e) (inr o) = refuses _ _ (rw (e, o) refl)

first_fails : {A B C : Type 0} (make : A → B → C) (fault : KeyFault) (y : B) (a : Read A) (b : Read B)
    → (fault ≡ Memory) ⊎ (a ≡ failed fault) → b ≡ Ok y → Refuses fault (both make a b)
first_fails make fault y a b (inl e) h = lacking _ _ e
first_fails make fault y a b (inr e) h = refuses _ _ (rw (e, h) refl)

second_fails : {A B C : Type 0} (make : A → B → C) (fault : KeyFault) (x : A) (a : Read A) (b : Read B)
    → a ≡ Ok x → (fault ≡ Memory) ⊎ (b ≡ failed fault) → Refuses fault (both make a b)
second_fails make fault x a b h (inl e) = lacking _ _ e
second_fails make fault x a b h (inr e) = refuses _ _ (rw (h, e) refl)

-- where each part was answered so, unless memory ran out, so was what is made of both
pub both_give : {A B C : Type 0} (make : A → B → C) (a : Read A) (b : Read B) (first : Read A) (second : Read B)
    → Gives a first → Gives b second → Gives (both make a b) (both make first second)
both_give make (Ok x) (Ok y) first second h k = rw (h, k) refl
both_give make (Ok x) (Err other) first second h k = second_fails make other x first second h (either other second k)
both_give make (Err fault) (Ok y) first second h k = first_fails make fault y first second (either fault first h) k
both_give make (Err fault) (Err other) first second h k = both_fail make fault other first second (either fault first h)
    (either other second k)

pub pushed_fails : {A B C : Type 0} (make : A → B → C) (fault : KeyFault) (next : Read B) (all : Read A) (one : Read B)
    → Refuses fault all → Gives next one → Refuses (with_fault fault next) (both make all one)
pushed_fails make fault (Ok y) all one h k = first_fails make fault y all one (either fault all h) k
pushed_fails make fault (Err other) all one h k = both_fail make fault other all one (either fault all h)
    (either other one k)

-- an element of two parts
pub element : (key : Key) (d : Data) (ms : Members) (mount types : Option Data) (a : Read (List ℕ))
    (b : Read FilterValue)
    → as_table d ≡ Some ms → mount ≡ get_member (codes "mount") ms → types ≡ get_member (codes "types") ms
    → Gives a (required name key mount) → Gives b (required types_rule key types)
    → Gives (both filter_entry a b) (filter_in key d)
unfolding filter_in
element key (table ms) all mount types a b is m t h k =
    let same : ms ≡ all = cc in
    both_give filter_entry a b _ _ (rw (m, ← same) at h) (rw (t, ← same) at k)
element key (string s) all mount types a b is m t h k = absurd cc
element key (integer z) all mount types a b is m t h k = absurd cc
element key (float x) all mount types a b is m t h k = absurd cc
element key (boolean x) all mount types a b is m t h k = absurd cc
element key (datetime x) all mount types a b is m t h k = absurd cc
element key (array x) all mount types a b is m t h k = absurd cc
