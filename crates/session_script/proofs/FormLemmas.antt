-- A line that reads as an event is a line of that event.
use Rattle.std.proofs.Common.{◌≡◌, ℕ, ◌+◌, ◌^◌, ◌<◌, true, not, ◌&&◌, eqb, leb, List, [], ◌∷◌, length, get_or, Some, refl, sym, ap, subst, ◌∙◌, arith, inl, inr}
use Rattle.std.specs.Prelude.{codes}
use Rattle.std.specs.List.{list_all, slice_split}
use Rattle.std.specs.Option.{option_map}
use Rattle.std.specs.Result.{result_ok}
use Rattle.std.specs.Str.{bytes_eq}
use Rattle.std.specs.Fmt.{decimal}
use Rattle.std.specs.Cmp.Lexicographic.{bytes_decides}
use Rattle.std.proofs.lemmas.Bool.{cases_Bool, and_parts, eqb-false, leb-true, not-true}
use Rattle.std.proofs.lemmas.Fmt.{decimal-digits_value}
use Rattle.std.proofs.lemmas.List.Splits.{join_with_byte-slice_split}
use Rattle.hex.specs.Hex.{decode_of}
use Rattle.cast_text.specs.Name.{name_of}
use Rattle.cast_text.proofs.NameLemmas.{name_of-ok}
use Rattle.session_script.specs.declared.Event.{Event}
use Rattle.session_script.specs.declared.Event.TheVariants.{Source, Rover, Open, Relay, In, Turn, Break, End}
use Rattle.session_script.specs.declared.ScriptKind.{ScriptKind}
use Rattle.session_script.specs.Digits.{is_digit, number_from, is_number, number_of, at_most}
use Rattle.session_script.specs.Line.{is_bare, is_replay, mount_of, input_of, relay_number, short_event, long_event, event_of_parts, event_of_line}
use Rattle.session_script.specs.Writing.{AreParts, IsLine, IsNear}
use Rattle.session_script.proofs.SoundLemmas.{cond_is, at_most-is, map_some, then_is, some_is, ok_is_some, input_is, number_of-pos}
use Rattle.session_script.proofs.WriteLemmas.{own}

word_is : (word text : List ℕ) → bytes_eq word text ≡ true → word ≡ text
word_is word text same = (bytes_decides word text).0 same

-- a number's text is its decimal text
number_text : (text : List ℕ) (n : ℕ) → number_of text ≡ Some n → n < 2 ^ 64 → text ≡ decimal n
number_text text n e small =
    let h = cond_is (is_number text) (number_from 0 text) n e in
    let a = and_parts (leb 1 (length text) && not (eqb (get_or text 0 0) 48)) (list_all is_digit text) h.0 in
    let b = and_parts (leb 1 (length text)) (not (eqb (get_or text 0 0) 48)) a.0 in
    let some : 0 < length text = leb-true 1 (length text) b.0 in
    let first : get_or text 0 0 ≡ 48 → ⊥ = eqb-false (get_or text 0 0) 48 (not-true (eqb (get_or text 0 0) 48) b.1) in
    let value : number_from 0 text < 2 ^ 64 = omega (arith, h.1, small) in
    sym (decimal-digits_value own text a.1 some (λ zero. absurd (first zero)) value) ∙ ap decimal h.1

within_text : (limit n : ℕ) (text : List ℕ) → limit < 2 ^ 64 → at_most limit (number_of text) ≡ Some n
    → text ≡ decimal n
within_text limit n text small e =
    let h = at_most-is limit n (number_of text) e in number_text text n h.0 (omega (arith, h.1))

-- the parts are those of the event, but for a relay's number that is too large
abbrev AreNear : Event → List (List ℕ) → Type 0
AreNear event parts = IsNear event → AreParts event parts

near_at : (parts : List (List ℕ)) (a b : Event) → a ≡ b → AreNear a parts → AreNear b parts
near_at parts a b e near = subst (λ (x : Event). AreNear x parts) e near

two_parts : (word number text : List ℕ) (k : ℕ) → word ≡ text → number ≡ decimal k
    → word ∷ number ∷ [] ≡ text ∷ decimal k ∷ []
two_parts word number text k w n = ap (λ (x : List ℕ). x ∷ number ∷ []) w ∙ ap (λ (x : List ℕ). text ∷ x ∷ []) n

three_parts : (word number value text : List ℕ) (k : ℕ) (last : List ℕ) → word ≡ text → number ≡ decimal k
    → value ≡ last
    → word ∷ number ∷ value ∷ [] ≡ text ∷ decimal k ∷ last ∷ []
three_parts word number value text k last w n v =
    ap (λ (x : List ℕ). x ∷ number ∷ value ∷ []) w ∙ ap (λ (x : List ℕ). text ∷ x ∷ value ∷ []) n
    ∙ ap (λ (x : List ℕ). text ∷ decimal k ∷ x ∷ []) v

short_form : (kind : ScriptKind) (word number : List ℕ) (k : ℕ) (event : Event) → number ≡ decimal k
    → short_event kind word k ≡ Some event
    → AreNear event (word ∷ number ∷ [])
short_form kind word number k event n e =
    elim (cases_Bool (bytes_eq word (codes "break"))) [
      | inl w ↦ near_at (word ∷ number ∷ []) (Break k) event (some_is _ _ (rw w at e))
          (λ _. two_parts word number (codes "break") k (word_is word (codes "break") w) n)
      | inr a ↦ elim (cases_Bool (bytes_eq word (codes "end"))) [
        | inl w ↦ near_at (word ∷ number ∷ []) (End k) event (some_is _ _ (rw (a, w) at e))
            (λ _. two_parts word number (codes "end") k (word_is word (codes "end") w) n)
        | inr b ↦
            let h = cond_is (bytes_eq word (codes "open") && is_replay kind) (Open k) event (rw (a, b) at e) in
            let w = (and_parts (bytes_eq word (codes "open")) (is_replay kind) h.0).0 in
            near_at (word ∷ number ∷ []) (Open k) event h.1 (λ _. two_parts word number (codes "open") k
            (word_is word (codes "open") w) n)
      ]
    ]

module _ (kind : ScriptKind) (word number value : List ℕ) (k : ℕ) (n : number ≡ decimal k) where
  input_form : (event : Event) → word ≡ codes "in" → option_map (λ bytes. In k bytes) (input_of value) ≡ Some event
      → AreNear event (word ∷ number ∷ value ∷ [])
  input_form event w e =
      let m = map_some (λ bytes. In k bytes) (input_of value) event e in
      let i = input_is (result_ok (decode_of value)) m.0 m.1 in
      near_at (word ∷ number ∷ value ∷ []) (In k m.0) event m.2
      (λ _. (value, ok_is_some (decode_of value) m.0 i.0, three_parts word number value (codes "in") k value w n refl))

  turn_form : (event : Event) → word ≡ codes "turn" → option_map (λ budget. Turn k budget)
      (at_most 16 (number_of value)) ≡ Some event → AreNear event (word ∷ number ∷ value ∷ [])
  turn_form event w e =
      let m = map_some (λ budget. Turn k budget) (at_most 16 (number_of value)) event e in
      near_at (word ∷ number ∷ value ∷ []) (Turn k m.0) event m.2
      (λ _. three_parts word number value (codes "turn") k (decimal m.0) w n
      (within_text 16 m.0 value (omega arith) m.1))

  source_form : (event : Event) → word ≡ codes "source" → option_map (λ mount. Source k mount) (mount_of value) ≡ Some
      event → AreNear event (word ∷ number ∷ value ∷ [])
  source_form event w e =
      let m = map_some (λ mount. Source k mount) (mount_of value) event e in
      near_at (word ∷ number ∷ value ∷ []) (Source k m.0) event m.2
      (λ _. three_parts word number value (codes "source") k m.0 w n (name_of-ok value m.0
      (ok_is_some (name_of value) m.0 m.1)).0)

  rover_form : (event : Event) → word ≡ codes "rover" → option_map (λ mount. Rover k mount) (mount_of value) ≡ Some
      event → AreNear event (word ∷ number ∷ value ∷ [])
  rover_form event w e =
      let m = map_some (λ mount. Rover k mount) (mount_of value) event e in
      near_at (word ∷ number ∷ value ∷ []) (Rover k m.0) event m.2
      (λ _. three_parts word number value (codes "rover") k m.0 w n (name_of-ok value m.0
      (ok_is_some (name_of value) m.0 m.1)).0)

  relay_form : (event : Event) → word ≡ codes "relay" → option_map (λ m. Relay k (relay_number m)) (number_of value) ≡
      Some event → AreNear event (word ∷ number ∷ value ∷ [])
  relay_form event w e =
      let m = map_some (λ x. Relay k (relay_number x)) (number_of value) event e in
      let pos = number_of-pos value m.0 m.1 in
      near_at (word ∷ number ∷ value ∷ []) (Relay k (relay_number m.0)) event m.2
      (λ near.
      let same : relay_number m.0 + 1 ≡ m.0 = omega (arith, near, pos) in
      let text : value ≡ decimal m.0 = number_text value m.0 m.1 (omega (arith, near, pos)) in
      three_parts word number value (codes "relay") k (decimal (relay_number m.0 + 1)) w n
      (text ∙ ap decimal (sym same)))

  long_form : (event : Event) → long_event kind word k value ≡ Some event → AreNear event (word ∷ number ∷ value ∷ [])
  long_form event e =
      elim (cases_Bool (bytes_eq word (codes "in"))) [
        | inl w ↦ input_form event (word_is word (codes "in") w) (rw w at e)
        | inr a ↦ elim (cases_Bool (bytes_eq word (codes "turn"))) [
          | inl w ↦ turn_form event (word_is word (codes "turn") w) (rw (a, w) at e)
          | inr b ↦ elim (cases_Bool (bytes_eq word (codes "source") && is_bare kind)) [
            | inl w ↦ source_form event (word_is word (codes "source")
                (and_parts (bytes_eq word (codes "source")) (is_bare kind) w).0) (rw (a, b, w) at e)
            | inr d ↦ elim (cases_Bool (bytes_eq word (codes "rover") && is_bare kind)) [
              | inl w ↦ rover_form event (word_is word (codes "rover")
                  (and_parts (bytes_eq word (codes "rover")) (is_bare kind) w).0) (rw (a, b, d, w) at e)
              | inr f ↦ elim (cases_Bool (bytes_eq word (codes "relay") && is_replay kind)) [
                | inl w ↦ relay_form event (word_is word (codes "relay")
                    (and_parts (bytes_eq word (codes "relay")) (is_replay kind) w).0) (rw (a, b, d, f, w) at e)
                | inr g ↦ absurd (let none = rw (a, b, d, f, g) at e in cc)
              ]
            ]
          ]
        ]
      ]

parts_form : (kind : ScriptKind) (ps : List (List ℕ)) (event : Event) → event_of_parts kind ps ≡ Some event
    → AreNear event ps
parts_form kind [] event e = absurd cc
parts_form kind (word ∷ []) event e = absurd cc
parts_form kind (word ∷ number ∷ []) event e =
    let h = then_is (λ k. short_event kind word k) (at_most 9999 (number_of number)) event e in
    short_form kind word number h.0 event (within_text 9999 h.0 number (omega arith) h.1) h.2
parts_form kind (word ∷ number ∷ value ∷ []) event e =
    let h = then_is (λ k. long_event kind word k value) (at_most 9999 (number_of number)) event e in
    long_form kind word number value h.0 (within_text 9999 h.0 number (omega arith) h.1) event h.2
parts_form kind (word ∷ number ∷ value ∷ more ∷ others) event e = absurd cc

-- a line is a line of the event that it reads as
pub line_form : (kind : ScriptKind) (line : List ℕ) (event : Event) → event_of_line kind line ≡ Some event
    → IsNear event → IsLine line event
unfolding event_of_line
line_form kind line event e near = (
  slice_split (λ b. eqb b 32) line,
  parts_form kind (slice_split (λ b. eqb b 32) line) event e near,
  sym
      (join_with_byte-slice_split 32 line),
)
