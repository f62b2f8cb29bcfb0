-- What is read is of the kind, and no longer than the bytes.
use Rattle.std.proofs.Common.{◌≡◌, ℕ, suc, ◌+◌, ◌-◌, ◌*◌, ◌^◌, ◌≤◌, Bool, true, false, not, cond, ◌&&◌, eqb, leb, ltb, List, [], ◌∷◌, length, get_or, Option, Some, None, Result, Ok, Err, refl, ap, subst, arith, inl, inr}
use Rattle.std.specs.Prelude.{codes}
use Rattle.std.specs.List.{list_all, slice_split, onto_first}
use Rattle.std.specs.Option.{option_map, option_and_then}
use Rattle.std.specs.Result.{result_ok}
use Rattle.std.specs.Str.{bytes_eq}
use Rattle.std.specs.Str.Lines.{lines, lines_of_parts, strip_carriage_return}
use Rattle.std.proofs.lemmas.Bool.{cases_Bool, and_parts, and_from, eqb-false, leb-true, le-leb, lt-ltb, not-true, cond_both}
use Rattle.std.proofs.lemmas.List.{length-take}
use Rattle.hex.specs.Hex.{IsBytes, decode_of}
use Rattle.hex.proofs.HexLemmas.{decode_of-ok}
use Rattle.cast_text.specs.Name.{is_name, name_of}
use Rattle.cast_text.proofs.NameLemmas.{name_of-ok}
use Rattle.session_script.specs.declared.Event.{Event}
use Rattle.session_script.specs.declared.Event.TheVariants.{Source, Rover, Open, Relay, In, Turn, Break, End}
use Rattle.session_script.specs.declared.ScriptKind.{ScriptKind}
use Rattle.session_script.specs.Digits.{is_digit, number_from, is_number, number_of, at_most}
use Rattle.session_script.specs.Line.{is_connection, is_bare, is_replay, is_input, is_event, mount_of, input_within, input_of, relay_number, short_event, long_event, event_of_parts, event_of_line}
use Rattle.session_script.specs.Script.{input_length}
use Rattle.cast_text.proofs.SplitLemmas.{HasPart, part, has_part}

-- ---- numbers

number_from-ge : (n : ℕ) (cs : List ℕ) → n ≤ number_from n cs
number_from-ge n [] = omega arith
number_from-ge n (c ∷ cs) = let more = number_from-ge (10 * n + (c - 48)) cs in omega arith

number_from-pos : (text : List ℕ) → is_number text ≡ true → 1 ≤ number_from 0 text
number_from-pos [] number = absurd cc
number_from-pos (c ∷ cs) number =
    let a = and_parts (leb 1 (length (c ∷ cs)) && not (eqb c 48)) (list_all is_digit (c ∷ cs)) number in
    let b = and_parts (leb 1 (length (c ∷ cs))) (not (eqb c 48)) a.0 in
    let d = and_parts (is_digit c) (list_all is_digit cs) a.1 in
    let digit = and_parts (leb 48 c) (leb c 57) d.0 in
    let low : 48 ≤ c = leb-true 48 c digit.0 in
    let other : c ≡ 48 → ⊥ = eqb-false c 48 (not-true (eqb c 48) b.1) in
    let more = number_from-ge (10 * 0 + (c - 48)) cs in
    omega arith

pub cond_is : {A : Type 0} (b : Bool) (x y : A) → cond b (Some x) None ≡ Some y → (b ≡ true) × (x ≡ y)
cond_is true x y e = (refl, cc)
cond_is false x y e = absurd cc

pub number_of-pos : (text : List ℕ) (n : ℕ) → number_of text ≡ Some n → 1 ≤ n
number_of-pos text n e =
    let h = cond_is (is_number text) (number_from 0 text) n e in
    let pos = number_from-pos text h.0 in
    omega (arith, h.1)

pub at_most-is : (limit n : ℕ) (o : Option ℕ) → at_most limit o ≡ Some n → (o ≡ Some n) × (n ≤ limit)
at_most-is limit n None e = absurd cc
at_most-is limit n (Some m) e =
    let h = cond_is (leb m limit) m n e in
    let le = leb-true m limit h.0 in
    (ap (λ (k : ℕ). Some k) h.1, omega (arith, h.1))

-- a number from 1 to the limit
in_limits : (limit n : ℕ) (text : List ℕ) → at_most limit (number_of text) ≡ Some n → (leb 1 n && leb n limit) ≡ true
in_limits limit n text e =
    let h = at_most-is limit n (number_of text) e in
    and_from (leb 1 n) (leb n limit) (le-leb 1 n (number_of-pos text n h.0)) (le-leb n limit h.1)

-- ---- values

pub map_some : {A B : Type 0} (f : A → B) (o : Option A) (y : B) → option_map f o ≡ Some y → (x : A) × (o ≡ Some x)
    × (f x ≡ y)
map_some f None y e = absurd cc
map_some f (Some x) y e = (x, refl, cc)

pub then_is : {A B : Type 0} (f : A → Option B) (o : Option A) (y : B) → option_and_then f o ≡ Some y → (x : A)
    × (o ≡ Some x) × (f x ≡ Some y)
then_is f None y e = absurd cc
then_is f (Some x) y e = (x, refl, e)

pub some_is : {A : Type 0} (x y : A) → Some x ≡ Some y → x ≡ y
some_is x y e = cc

pub ok_is_some : {A E : Type 0} (r : Result A E) (x : A) → result_ok r ≡ Some x → r ≡ Ok x
ok_is_some (Ok y) x e = ap (λ z. Ok z) (some_is y x e)
ok_is_some (Err f) x e = absurd cc

pub input_is : (o : Option (List ℕ)) (bytes : List ℕ) → input_within o ≡ Some bytes → (o ≡ Some bytes)
    × (is_input bytes ≡ true)
input_is None bytes e = absurd cc
input_is (Some found) bytes e =
    let h = cond_is (is_input found) found bytes e in
    (ap (λ (b : List ℕ). Some b) h.1, subst (λ (b : List ℕ). is_input b ≡ true) h.1 h.0)

bytes_from : (bs : List ℕ) → IsBytes bs → list_all (λ b. ltb b 256) bs ≡ true
bytes_from [] fits = refl
bytes_from (b ∷ bs) fits = and_from (ltb b 256) (list_all (λ c. ltb c 256) bs) (lt-ltb b 256 (fits 0))
    (bytes_from bs (λ i. fits (suc i)))

-- ---- lengths

-- the parts and a separator behind each
abbrev pub total : List (List ℕ) → ℕ
total [] = 0
total (x ∷ xs) = length x + 1 + total xs

total-onto : (c : ℕ) (ps : List (List ℕ)) → HasPart ps → total (onto_first c ps) ≡ total ps + 1
total-onto c [] h = elim h [ ]
total-onto c (x ∷ more) h = omega arith

total-split : (p : ℕ → Bool) (bs : List ℕ) → total (slice_split p bs) ≡ length bs + 1
total-split p [] = refl
total-split p (b ∷ bs) =
    let more = total-split p bs in
    elim (cases_Bool (p b)) [
      | inl splits ↦ rw splits (omega arith)
      | inr stays ↦ rw stays (let onto = total-onto b (slice_split p bs) (has_part p bs) in omega arith)
    ]

abbrev pub lengths : List (List ℕ) → ℕ
lengths [] = 0
lengths (x ∷ xs) = length x + lengths xs

strip-le : (line : List ℕ) → length (strip_carriage_return line) ≤ length line
strip-le line = cond_both (eqb (get_or line (length line - 1) 0) 13) _ line (λ l. length l ≤ length line)
    (λ _. omega (arith, length-take (length line - 1) line)) (λ _. omega arith)

lengths-parts : (ps : List (List ℕ)) → HasPart ps → lengths (lines_of_parts ps) + 1 ≤ total ps
lengths-parts [] h = elim h [ ]
lengths-parts (x ∷ []) h = cond_both (eqb (length x) 0) [] (x ∷ []) (λ ls. lengths ls + 1 ≤ length x + 1 + 0)
    (λ _. omega arith) (λ _. omega arith)
lengths-parts (x ∷ y ∷ more) h = let others = lengths-parts (y ∷ more)
    (part y more) in let strip = strip-le x in omega arith

-- the lines are no longer than the bytes
pub lengths-lines : (bytes : List ℕ) → lengths (lines bytes) ≤ length bytes
lengths-lines bytes =
    let parts = lengths-parts (slice_split (λ b. eqb b 10) bytes) (has_part (λ b. eqb b 10) bytes) in
    let all = total-split (λ b. eqb b 10) bytes in
    omega arith

-- ---- events

-- the event is of the kind and its line takes at least as many bytes as come in with it
pub record IsSound (kind : ScriptKind) (event : Event) (size : ℕ) : Type 0 where
  pub in_grammar : is_event kind event ≡ true
  pub fits : 2 + input_length event ≤ size

IsSound-at : (kind : ScriptKind) (size : ℕ) (a b : Event) → a ≡ b → IsSound kind a size → IsSound kind b size
IsSound-at kind size a b e h = subst (λ (x : Event). IsSound kind x size) e h

mount_sound : (value mount : List ℕ) → mount_of value ≡ Some mount → is_name mount ≡ true
mount_sound value mount e =
    let h = name_of-ok value mount (ok_is_some (name_of value) mount e) in
    subst (λ (text : List ℕ). is_name text ≡ true) h.0 h.1

short_sound : (kind : ScriptKind) (word : List ℕ) (k size : ℕ) (event : Event) → is_connection k ≡ true → 2 ≤ size
    → short_event kind word k ≡ Some event → IsSound kind event size
short_sound kind word k size event number le e =
    elim (cases_Bool (bytes_eq word (codes "break"))) [
      | inl breaks ↦ IsSound-at kind size (Break k) event (some_is _ _ (rw breaks at e))
          (record { in_grammar = number; fits = omega arith })
      | inr a ↦ elim (cases_Bool (bytes_eq word (codes "end"))) [
        | inl ends ↦ IsSound-at kind size (End k) event (some_is _ _ (rw (a, ends) at e))
            (record { in_grammar = number; fits = omega arith })
        | inr b ↦
            let h = cond_is (bytes_eq word (codes "open") && is_replay kind) (Open k) event (rw (a, b) at e) in
            let replay = and_parts (bytes_eq word (codes "open")) (is_replay kind) h.0 in
            IsSound-at kind size (Open k) event h.1
            (record {
              in_grammar = and_from (is_replay kind)
                  (is_connection k) replay.1 number;
              fits = omega arith;
            })
      ]
    ]

-- the lines of three parts
module _ (kind : ScriptKind) (k size : ℕ) (value : List ℕ) (number : is_connection k ≡ true)
    (room : 2 + length value ≤ size) where
  input_sound : (event : Event) → option_map (λ bytes. In k bytes) (input_of value) ≡ Some event
      → IsSound kind event size
  input_sound event e =
      let m = map_some (λ bytes. In k bytes) (input_of value) event e in
      let i = input_is (result_ok (decode_of value)) m.0 m.1 in
      let d = decode_of-ok value m.0 (ok_is_some (decode_of value) m.0 i.0) in
      IsSound-at kind size (In k m.0) event m.2 (record {
        in_grammar = and_from (is_connection k && is_input m.0) (list_all (λ b. ltb b 256) m.0)
            (and_from (is_connection k) (is_input m.0) number i.1) (bytes_from m.0 d.3);
        fits = omega (arith, d.2);
      })

  turn_sound : (event : Event) → option_map (λ budget. Turn k budget) (at_most 16 (number_of value)) ≡ Some event
      → IsSound kind event size
  turn_sound event e =
      let m = map_some (λ budget. Turn k budget) (at_most 16 (number_of value)) event e in
      let l = and_parts (leb 1 m.0) (leb m.0 16) (in_limits 16 m.0 value m.1) in
      IsSound-at kind size (Turn k m.0) event m.2 (record {
        in_grammar = and_from (is_connection k && leb 1 m.0) (leb m.0 16)
            (and_from (is_connection k) (leb 1 m.0) number l.0) l.1;
        fits = omega arith;
      })

  source_sound : (event : Event) → is_bare kind ≡ true
      → option_map (λ mount. Source k mount) (mount_of value) ≡ Some event → IsSound kind event size
  source_sound event bare e =
      let m = map_some (λ mount. Source k mount) (mount_of value) event e in
      IsSound-at kind size (Source k m.0) event m.2 (record {
        in_grammar = and_from (is_bare kind && is_connection k) (is_name m.0)
            (and_from (is_bare kind) (is_connection k) bare number) (mount_sound value m.0 m.1);
        fits = omega arith;
      })

  rover_sound : (event : Event) → is_bare kind ≡ true
      → option_map (λ mount. Rover k mount) (mount_of value) ≡ Some event → IsSound kind event size
  rover_sound event bare e =
      let m = map_some (λ mount. Rover k mount) (mount_of value) event e in
      IsSound-at kind size (Rover k m.0) event m.2 (record {
        in_grammar = and_from (is_bare kind && is_connection k) (is_name m.0)
            (and_from (is_bare kind) (is_connection k) bare number) (mount_sound value m.0 m.1);
        fits = omega arith;
      })

  relay_sound : (event : Event) → is_replay kind ≡ true
      → option_map (λ n. Relay k (relay_number n)) (number_of value) ≡ Some event → IsSound kind event size
  relay_sound event replay e =
      let m = map_some (λ n. Relay k (relay_number n)) (number_of value) event e in
      IsSound-at kind size (Relay k (relay_number m.0)) event m.2 (record {
        in_grammar = and_from (is_replay kind && is_connection k) (ltb (relay_number m.0) (2 ^ 32))
            (and_from (is_replay kind) (is_connection k) replay number)
            (lt-ltb (relay_number m.0) (2 ^ 32) (omega arith));
        fits = omega arith;
      })

  long_sound : (word : List ℕ) (event : Event) → long_event kind word k value ≡ Some event → IsSound kind event size
  long_sound word event e =
      elim (cases_Bool (bytes_eq word (codes "in"))) [
        | inl w ↦ input_sound event (rw w at e)
        | inr a ↦ elim (cases_Bool (bytes_eq word (codes "turn"))) [
          | inl w ↦ turn_sound event (rw (a, w) at e)
          | inr b ↦ elim (cases_Bool (bytes_eq word (codes "source") && is_bare kind)) [
            | inl w ↦ source_sound event (and_parts (bytes_eq word (codes "source")) (is_bare kind) w).1
                (rw (a, b, w) at e)
            | inr d ↦ elim (cases_Bool (bytes_eq word (codes "rover") && is_bare kind)) [
              | inl w ↦ rover_sound event (and_parts (bytes_eq word (codes "rover")) (is_bare kind) w).1
                  (rw (a, b, d, w) at e)
              | inr f ↦ elim (cases_Bool (bytes_eq word (codes "relay") && is_replay kind)) [
                | inl w ↦ relay_sound event (and_parts (bytes_eq word (codes "relay")) (is_replay kind) w).1
                    (rw (a, b, d, f, w) at e)
                | inr g ↦ absurd (let none = rw (a, b, d, f, g) at e in cc)
              ]
            ]
          ]
        ]
      ]

parts_sound : (kind : ScriptKind) (ps : List (List ℕ)) (event : Event) → event_of_parts kind ps ≡ Some event
    → (size : ℕ) → total ps ≤ size → IsSound kind event size
parts_sound kind [] event e size le = absurd cc
parts_sound kind (word ∷ []) event e size le = absurd cc
parts_sound kind (word ∷ number ∷ []) event e size le =
    let h = then_is (λ k. short_event kind word k) (at_most 9999 (number_of number)) event e in
    short_sound kind word h.0 size event (in_limits 9999 h.0 number h.1) (omega arith) h.2
parts_sound kind (word ∷ number ∷ value ∷ []) event e size le =
    let h = then_is (λ k. long_event kind word k value) (at_most 9999 (number_of number)) event e in
    long_sound kind h.0 size value (in_limits 9999 h.0 number h.1) (omega arith) word event h.2
parts_sound kind (word ∷ number ∷ value ∷ more ∷ others) event e size le = absurd cc

-- the event of a line
pub line_sound : (kind : ScriptKind) (line : List ℕ) (event : Event) → event_of_line kind line ≡ Some event
    → IsSound kind event (length line + 1)
unfolding event_of_line
line_sound kind line event e = parts_sound kind (slice_split (λ b. eqb b 32) line) event e (length line + 1)
    (let all = total-split (λ b. eqb b 32) line in omega arith)
