-- Empty lines as line ends, and the one head that bytes begin with.
use Rattle.std.proofs.Common.{◌≡◌, ◌≤◌, ◌<◌, ◌-◌, ◌∙◌, ℕ, true, false, List, [], ◌∷◌, ◌++◌, length, take, drop, append_assoc, length-append, arith, sym, ap, subst, refl, inl, inr, nat_eq}
use Rattle.std.specs.List.{ends_with}
use Rattle.std.specs.Str.{bytes_eq}
use Rattle.std.proofs.Math.Seq.{take-append_seam, drop-append_seam}
use Rattle.std.proofs.lemmas.Bool.{cases_lt, or_cases, or_left, or_right}
use Rattle.std.proofs.lemmas.List.{take-append-drop, take-append-le, take_all}
use Rattle.std.proofs.lemmas.Slice.Eq.{bytes_eq-Decides}
use Rattle.httparse.specs.Grammar.{LineEnd, crlf, lf, print_end}
use Rattle.ntrip_head.specs.Head.{ends_with_empty_line, AtLineStart, EndsWithEmptyLine, IsHead}

-- ---- what ends with these bytes

before_end : (bytes end : List ℕ) → ends_with nat_eq bytes end ≡ true
    → bytes ≡ take (length bytes - length end) bytes ++ end
before_end bytes end ends =
    let k : ℕ = length bytes - length end in
    let same : end ≡ drop k bytes = (bytes_eq-Decides end (drop k bytes)).0 ends in
    sym (take-append-drop k bytes) ∙ ap (λ (rest : List ℕ). take k bytes ++ rest) (sym same)

ends_after : (front end : List ℕ) → ends_with nat_eq (front ++ end) end ≡ true
ends_after front end =
    let k : length (front ++ end) - length end ≡ length front = omega (arith, length-append front end) in
    (bytes_eq-Decides end (drop (length (front ++ end) - length end) (front ++ end))).1
    (sym (ap (λ (n : ℕ). drop n (front ++ end)) k ∙ drop-append_seam front end))

-- ---- an empty line is a line end where a line begins

abbrev after_lf : List ℕ → List ℕ
after_lf front = front ++ 10 ∷ []

lf_after : (bytes : List ℕ) → ends_with nat_eq bytes (10 ∷ 10 ∷ []) ≡ true → EndsWithEmptyLine bytes
lf_after bytes ends =
    let front : List ℕ = take (length bytes - 2) bytes in (
      after_lf front,
      lf,
      inr (front, refl),
      before_end bytes (10 ∷ 10 ∷ []) ends
          ∙ sym (append_assoc front (10 ∷ []) (10 ∷ [])),
    )

crlf_after : (bytes : List ℕ) → ends_with nat_eq bytes (10 ∷ 13 ∷ 10 ∷ []) ≡ true → EndsWithEmptyLine bytes
crlf_after bytes ends =
    let front : List ℕ = take (length bytes - 3) bytes in (
      after_lf front,
      crlf,
      inr (front, refl),
      before_end bytes (10 ∷ 13 ∷ 10 ∷ []) ends
          ∙ sym (append_assoc front (10 ∷ []) (13 ∷ 10 ∷ [])),
    )

pub to_line_end : (bytes : List ℕ) → ends_with_empty_line bytes ≡ true → EndsWithEmptyLine bytes
to_line_end bytes ends =
    elim (or_cases _ (bytes_eq bytes (13 ∷ 10 ∷ [])) ends) [
      | inr only ↦ ([], crlf, inl refl, (bytes_eq-Decides bytes (13 ∷ 10 ∷ [])).0 only)
      | inl three ↦
          elim (or_cases _ (bytes_eq bytes (10 ∷ [])) three) [
            | inr only ↦ ([], lf, inl refl, (bytes_eq-Decides bytes (10 ∷ [])).0 only)
            | inl two ↦
                elim (or_cases (ends_with nat_eq bytes (10 ∷ 10 ∷ []))
                (ends_with nat_eq bytes (10 ∷ 13 ∷ 10 ∷ [])) two) [
                  | inl one ↦ lf_after bytes one
                  | inr other ↦ crlf_after bytes other
                ]
          ]
    ]

-- the four kinds
lf_only : ends_with_empty_line (10 ∷ []) ≡ true
lf_only = refl

crlf_only : ends_with_empty_line (13 ∷ 10 ∷ []) ≡ true
crlf_only = refl

lf_behind : (more : List ℕ) → ends_with_empty_line (after_lf more ++ 10 ∷ []) ≡ true
lf_behind more =
    subst (λ (bytes : List ℕ). ends_with_empty_line bytes ≡ true) (sym (append_assoc more (10 ∷ []) (10 ∷ [])))
    (or_left _ _ (or_left _ _ (or_left _ _ (ends_after more (10 ∷ 10 ∷ [])))))

crlf_behind : (more : List ℕ) → ends_with_empty_line (after_lf more ++ 13 ∷ 10 ∷ []) ≡ true
crlf_behind more =
    subst (λ (bytes : List ℕ). ends_with_empty_line bytes ≡ true) (sym (append_assoc more (10 ∷ []) (13 ∷ 10 ∷ [])))
    (or_left _ _ (or_left _ _ (or_right _ _ (ends_after more (10 ∷ 13 ∷ 10 ∷ [])))))

line_end_at : (front : List ℕ) (end : LineEnd) → AtLineStart front
    → ends_with_empty_line (front ++ print_end end) ≡ true
line_end_at front lf (inl none) =
    subst (λ (start : List ℕ). ends_with_empty_line (start ++ 10 ∷ []) ≡ true) (sym none) lf_only
line_end_at front crlf (inl none) =
    subst (λ (start : List ℕ). ends_with_empty_line (start ++ 13 ∷ 10 ∷ []) ≡ true) (sym none) crlf_only
line_end_at front lf (inr (more, e)) =
    subst (λ (start : List ℕ). ends_with_empty_line (start ++ 10 ∷ []) ≡ true) (sym e) (lf_behind more)
line_end_at front crlf (inr (more, e)) =
    subst (λ (start : List ℕ). ends_with_empty_line (start ++ 13 ∷ 10 ∷ []) ≡ true) (sym e) (crlf_behind more)

pub from_line_end : (bytes : List ℕ) → EndsWithEmptyLine bytes → ends_with_empty_line bytes ≡ true
from_line_end bytes (front, end, start, e) =
    subst (λ (all : List ℕ). ends_with_empty_line all ≡ true) (sym e) (line_end_at front end start)

-- ---- one head

-- the shorter of two fronts of the same bytes is a front of the longer
shorter_front : (a b x y : List ℕ) → a ++ x ≡ b ++ y → length a ≤ length b → a ≡ take (length a) b
shorter_front a b x y e le =
    sym (take-append_seam a x) ∙ ap (λ (l : List ℕ). take (length a) l) e ∙ take-append-le (length a) b y le

not_shorter : (a b x y : List ℕ) → IsHead a → IsHead b → a ++ x ≡ b ++ y → length a < length b → ⊥
not_shorter a b x y head other e lt =
    let front : a ≡ take (length a) b = shorter_front a b x y e (omega arith) in
    let no : ends_with_empty_line (take (length a) b) ≡ false = other.first (length a) lt in
    let yes : ends_with_empty_line a ≡ true = head.ends in
    let same : ends_with_empty_line a ≡ ends_with_empty_line (take (length a) b) = ap
    (λ (l : List ℕ). ends_with_empty_line l) front in
    absurd cc

pub one_head : (a b x y : List ℕ) → IsHead a → IsHead b → a ++ x ≡ b ++ y → a ≡ b
one_head a b x y head other e =
    elim (cases_lt (length a) (length b)) [
      | inl lt ↦ absurd (not_shorter a b x y head other e lt)
      | inr le ↦
          elim (cases_lt (length b) (length a)) [
            | inl lt ↦ absurd (not_shorter b a y x other head (sym e) lt)
            | inr ge ↦ shorter_front a b x y e ge ∙ take_all (length a) b le
          ]
    ]
