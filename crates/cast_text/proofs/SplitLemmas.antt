-- Texts split at the first byte of a kind, and into lines.
use Rattle.std.proofs.Common.{◌≡◌, ℕ, zero, suc, ◌+◌, ◌-◌, ◌<◌, Bool, true, false, not, cond, eqb, List, [], ◌∷◌, ◌++◌, length, get_or, take, drop, Some, None, refl, ap, sym, subst, ◌∙◌, arith, inl, inr}
use Rattle.std.specs.Prelude.{position}
use Rattle.std.specs.List.{before_first, list_all, list_any, onto_first, position_or_len, slice_split}
use Rattle.std.specs.Str.Lines.{lines, lines_of_parts, strip_carriage_return}
use Rattle.std.proofs.lemmas.Bool.{and_parts, cases_Bool, cases_lt, eqb-true, le-ltb, lt-ltb, not-true, or_from, or_parts}
use Rattle.std.proofs.lemmas.List.{drop_all, get_or_at, length-append, take_all, take_at, take_rest}
use Rattle.std.proofs.lemmas.List.Sums.{passes_at_first, split_at_first, take_while-cons}
use Rattle.cast_text.specs.Split.{HasNone}

-- ---- the first byte that passes a test

pub none_before_first : (p : ℕ → Bool) (xs : List ℕ) → HasNone p (before_first p xs)
none_before_first p [] = refl
none_before_first p (x ∷ xs) =
    rw (take_while-cons (λ b. not (p b)) x xs)
    (elim (cases_Bool (p x)) [
      | inl is ↦ rw is refl
      | inr not_so ↦ rw not_so (or_from (p x) (list_any p (before_first p xs)) not_so (none_before_first p xs))
    ])

pub position_none : (p : ℕ → Bool) (xs : List ℕ) → position p xs ≡ None → HasNone p xs
position_none p xs none =
    elim (cases_lt (position_or_len p xs) (length xs)) [
      | inl lt ↦ absurd (let h = rw (lt-ltb _ _ lt) at none in cc)
      | inr le ↦ subst (HasNone p) (take_all (position_or_len p xs) xs le) (none_before_first p xs)
    ]

-- where the first byte that passes stands
pub record IsFirstPlace (p : ℕ → Bool) (xs : List ℕ) (place : ℕ) : Type 0 where
  pub within : place < length xs
  pub none : HasNone p (take place xs)
  pub passes : p (get_or xs place 0) ≡ true
  pub parts : xs ≡ take place xs ++ get_or xs place 0 ∷ drop (place + 1) xs

first_place : (p : ℕ → Bool) (xs : List ℕ) → position_or_len p xs < length xs → IsFirstPlace p xs (position_or_len p xs)
first_place p xs lt = record {
  within = lt;
  none = none_before_first p xs;
  passes = passes_at_first p xs 0 lt;
  parts = split_at_first p xs 0 lt;
}

pub position_some : (p : ℕ → Bool) (xs : List ℕ) (place : ℕ) → position p xs ≡ Some place → IsFirstPlace p xs place
position_some p xs place some =
    elim (cases_lt (position_or_len p xs) (length xs)) [
      | inl lt ↦
          let e : position_or_len p xs ≡ place = let h = rw (lt-ltb _ _ lt) at some in cc in
          subst (IsFirstPlace p xs) e (first_place p xs lt)
      | inr le ↦ absurd (let h = rw (le-ltb _ _ le) at some in cc)
    ]

-- the same for one byte, in the words of two slices
pub parts_at : (byte : ℕ) (xs : List ℕ) (place : ℕ) → position (λ b. eqb b byte) xs ≡ Some place
    → xs ≡ take place xs ++ byte ∷ take (length xs - (place + 1)) (drop (place + 1) xs)
parts_at byte xs place some =
    let at : IsFirstPlace (λ b. eqb b byte) xs place = position_some (λ b. eqb b byte) xs place some in
    rw take_rest (subst (λ (b : ℕ). xs ≡ take place xs ++ b ∷ drop (place + 1) xs) (eqb-true _ _ at.passes) at.parts)

-- ---- parts are what they are

head_same : (x y : ℕ) (xs ys : List ℕ) → x ∷ xs ≡ y ∷ ys → x ≡ y
head_same x y xs ys e = cc

tail_same : (x y : ℕ) (xs ys : List ℕ) → x ∷ xs ≡ y ∷ ys → xs ≡ ys
tail_same x y xs ys e = cc

-- what stands before the first `y` and after it are two lists only
pub split_same : (p : ℕ → Bool) (y : ℕ) (a b x z : List ℕ) → p y ≡ true → HasNone p a → HasNone p b
    → a ++ y ∷ x ≡ b ++ y ∷ z → (a ≡ b) × (x ≡ z)
split_same p y [] [] x z at na nb e = (refl, tail_same y y x z e)
split_same p y [] (c ∷ b) x z at na nb e =
    let no : p c ≡ false = (or_parts (p c) (list_any p b) nb).0 in
    let is : y ≡ c = head_same y c x (b ++ y ∷ z) e in
    absurd (cc (ap p is))
split_same p y (c ∷ a) [] x z at na nb e =
    let no : p c ≡ false = (or_parts (p c) (list_any p a) na).0 in
    let is : c ≡ y = head_same c y (a ++ y ∷ x) z e in
    absurd (cc (ap p is))
split_same p y (c ∷ a) (d ∷ b) x z at na nb e =
    let more = split_same p y a b x z at (or_parts (p c) (list_any p a) na).1 (or_parts (p d) (list_any p b) nb).1
    (tail_same c d (a ++ y ∷ x) (b ++ y ∷ z) e) in
    let is : c ≡ d = head_same c d (a ++ y ∷ x) (b ++ y ∷ z) e in
    (cc, more.1)

abbrev pub is_lf : ℕ → Bool
is_lf b = eqb b 10

-- ---- parts around a byte

pub split_alone : (p : ℕ → Bool) (xs : List ℕ) → HasNone p xs → slice_split p xs ≡ xs ∷ []
split_alone p [] none = refl
split_alone p (x ∷ xs) none =
    let parts = or_parts (p x) (list_any p xs) none in
    rw (parts.0, split_alone p xs parts.1) refl

pub split_front : (p : ℕ → Bool) (xs : List ℕ) (y : ℕ) (ys : List ℕ) → HasNone p xs → p y ≡ true
    → slice_split p (xs ++ y ∷ ys) ≡ xs ∷ slice_split p ys
split_front p [] y ys none splits = rw splits refl
split_front p (x ∷ xs) y ys none splits =
    let parts = or_parts (p x) (list_any p xs) none in
    rw (parts.0, split_front p xs y ys parts.1 splits) refl

-- a text has a part at least
pub data HasPart : List (List ℕ) → Type 0 where
  part : (x : List ℕ) (more : List (List ℕ)) → HasPart (x ∷ more)

pub onto_has_part : (c : ℕ) (ps : List (List ℕ)) → HasPart (onto_first c ps)
onto_has_part c [] = part (c ∷ []) []
onto_has_part c (x ∷ more) = part (c ∷ x) more

cond_has_part : (b : Bool) (c : ℕ) (ps : List (List ℕ)) → HasPart (cond b ([] ∷ ps) (onto_first c ps))
cond_has_part true c ps = part [] ps
cond_has_part false c ps = onto_has_part c ps

pub has_part : (p : ℕ → Bool) (bs : List ℕ) → HasPart (slice_split p bs)
has_part p [] = part [] []
has_part p (c ∷ bs) = cond_has_part (p c) c (slice_split p bs)

lines_of_more : (line : List ℕ) (ps : List (List ℕ)) → HasPart ps
    → lines_of_parts (line ∷ ps) ≡ strip_carriage_return line ∷ lines_of_parts ps
lines_of_more line [] h = elim h [ ]
lines_of_more line (x ∷ more) h = refl

-- ---- texts without a byte

pub none-append : (p : ℕ → Bool) (a b : List ℕ) → HasNone p a → HasNone p b → HasNone p (a ++ b)
none-append p [] b none_a none_b = none_b
none-append p (x ∷ a) b none_a none_b =
    let parts = or_parts (p x) (list_any p a) none_a in
    or_from (p x) (list_any p (a ++ b)) parts.0 (none-append p a b parts.1 none_b)

pub none_if_all_fail : (p : ℕ → Bool) (xs : List ℕ) → list_all (λ x. not (p x)) xs ≡ true → HasNone p xs
none_if_all_fail p [] all = refl
none_if_all_fail p (x ∷ xs) all =
    let parts = and_parts (not (p x)) (list_all (λ y. not (p y)) xs) all in
    or_from (p x) (list_any p xs) (not-true (p x) parts.0) (none_if_all_fail p xs parts.1)

-- ---- the first line

-- up to its first LF
pub lines_front : (text rest : List ℕ) → HasNone is_lf text
    → lines (text ++ 10 ∷ rest) ≡ strip_carriage_return text ∷ lines rest
lines_front text rest none =
    ap lines_of_parts (split_front is_lf text 10 rest none refl)
    ∙ lines_of_more text (slice_split is_lf rest) (has_part is_lf rest)

one_line : (bs : List ℕ) → eqb (length bs) 0 ≡ false → lines_of_parts (bs ∷ []) ≡ bs ∷ []
one_line bs some = rw some refl

-- a text that is not empty and has no LF
pub lines_alone : (bs : List ℕ) → eqb (length bs) 0 ≡ false → HasNone is_lf bs
    → lines bs ≡ bs ∷ lines (take (length bs - length bs) (drop (length bs) bs))
lines_alone bs some none =
    ap lines_of_parts (split_alone is_lf bs none) ∙ one_line bs some
    ∙ ap (λ (rest : List ℕ). bs ∷ lines rest) (sym (take_rest bs (length bs) ∙ drop_all (length bs) bs (omega arith)))

-- ---- line ends

none_at : (p : ℕ → Bool) (xs : List ℕ) (i : ℕ) → HasNone p xs → p 0 ≡ false → p (get_or xs i 0) ≡ false
none_at p [] i none zero_not = zero_not
none_at p (x ∷ xs) zero none zero_not = (or_parts (p x) (list_any p xs) none).0
none_at p (x ∷ xs) (suc i) none zero_not = none_at p xs i (or_parts (p x) (list_any p xs) none).1 zero_not

-- a line without CR keeps its bytes
pub strip_none : (text : List ℕ) → HasNone (λ b. eqb b 13) text → strip_carriage_return text ≡ text
strip_none text none = rw (none_at (λ b. eqb b 13) text (length text - 1) none refl) refl

-- one CR is dropped
pub strip_one : (text : List ℕ) → strip_carriage_return (text ++ 13 ∷ []) ≡ text
strip_one text =
    let len : length (text ++ 13 ∷ []) - 1 ≡ length text = omega (arith, length-append text (13 ∷ [])) in
    let last : get_or (text ++ 13 ∷ []) (length text) 0 ≡ 13 = get_or_at text 13 [] 0 (length text) refl in
    rw (len, last) (take_at text (13 ∷ []) (length text) refl)
