-- The first line of some bytes.
use Rattle.std.proofs.Common.{◌≡◌, ◌∙◌, ℕ, Bool, true, false, ◌||◌, ◌==◌, List, [], ◌∷◌, ◌++◌, take, drop, append_assoc, refl, sym, ap, subst, inl, inr}
use Rattle.std.proofs.lemmas.Bool.{cases_Bool, or_left, or_right, false≢true}
use Rattle.std.proofs.lemmas.List.{take-append-drop}
use Rattle.std.proofs.lemmas.List.Folds.{list_any-append}
use Rattle.httparse.specs.Grammar.{LineEnd, crlf, lf, print_end}
use Rattle.ntrip_head.specs.Head.{ends_with_empty_line}
use Rattle.ntrip_head.proofs.EmptyLineLemmas.{to_line_end}
use Rattle.ntrip_client.specs.FirstLine.{has_line, IsFirstLine, SpeaksHttp}

-- ---- whether a line has ended

right_none : (p q : Bool) → (p || q) ≡ false → q ≡ false
right_none true q e = absurd cc
right_none false q e = e

pub line_more : (a b : List ℕ) → has_line a ≡ true → has_line (a ++ b) ≡ true
line_more a b has = list_any-append (λ x. x == 10) a b ∙ or_left (has_line a) (has_line b) has

pub line_behind : (a b : List ℕ) → has_line b ≡ true → has_line (a ++ b) ≡ true
line_behind a b has = list_any-append (λ x. x == 10) a b ∙ or_right (has_line a) (has_line b) has

pub line_there : (line rest : List ℕ) → has_line (line ++ 10 ∷ rest) ≡ true
line_there line rest = line_behind line (10 ∷ rest) refl

-- a front of what has none has none
pub none_front : (n : ℕ) (bytes : List ℕ) → has_line bytes ≡ false → has_line (take n bytes) ≡ false
none_front n bytes none =
    elim (cases_Bool (has_line (take n bytes))) [
      | inl has ↦
          let all : has_line bytes ≡ true =
          sym (ap has_line (take-append-drop n bytes)) ∙ line_more (take n bytes) (drop n bytes) has in
          absurd (false≢true (sym none ∙ all))
      | inr none_has ↦ none_has
    ]

-- where no line has ended there is no empty one
end_has : (end : LineEnd) → has_line (print_end end) ≡ true
end_has lf = refl
end_has crlf = refl

pub none_empty : (bytes : List ℕ) → has_line bytes ≡ false → ends_with_empty_line bytes ≡ false
none_empty bytes none =
    elim (cases_Bool (ends_with_empty_line bytes)) [
      | inl ends ↦
          let x = to_line_end bytes ends in
          let all : has_line bytes ≡ true = ap has_line x.3 ∙ line_behind x.0 (print_end x.1) (end_has x.1) in
          absurd (false≢true (sym none ∙ all))
      | inr none_has ↦ none_has
    ]

-- ---- one first line

first_byte : (c : ℕ) (a b y : List ℕ) → has_line (c ∷ a) ≡ false → 10 ∷ y ≡ c ∷ b → ⊥
first_byte c a b y free e =
    let same : c ≡ 10 = cc in
    let bad : has_line (10 ∷ a) ≡ false = subst (λ (z : ℕ). has_line (z ∷ a) ≡ false) same free in
    absurd cc

lines_once : (a b x y : List ℕ) → has_line a ≡ false → has_line b ≡ false → a ++ 10 ∷ x ≡ b ++ 10 ∷ y → a ≡ b
lines_once [] [] x y free other e = refl
lines_once [] (d ∷ b) x y free other e = absurd (first_byte d b (b ++ 10 ∷ y) x other e)
lines_once (c ∷ a) [] x y free other e = absurd (first_byte c a (a ++ 10 ∷ x) y free (sym e))
lines_once (c ∷ a) (d ∷ b) x y free other e =
    let head : c ≡ d = cc in
    let tail : a ++ 10 ∷ x ≡ b ++ 10 ∷ y = cc in
    let rest : a ≡ b = lines_once a b x y (right_none (c == 10) (has_line a) free)
    (right_none (d == 10) (has_line b) other) tail in
    cc

pub one_first_line : (line other bytes : List ℕ) → IsFirstLine line bytes → IsFirstLine other bytes → line ≡ other
one_first_line line other bytes x y = lines_once line other x.0 y.0 x.2 y.2 (sym x.1 ∙ y.1)

pub first_line_there : (line bytes : List ℕ) → IsFirstLine line bytes → has_line bytes ≡ true
first_line_there line bytes x = ap has_line x.1 ∙ line_there line x.0

-- ---- and more bytes

pub first_line_more : (line bytes more : List ℕ) → IsFirstLine line bytes → IsFirstLine line (bytes ++ more)
first_line_more line bytes more x = (
  x.0 ++ more,
  ap (λ (l : List ℕ). l ++ more) x.1 ∙ append_assoc line (10 ∷ x.0) more,
  x.2,
)

pub first_line_of_front : (n : ℕ) (line bytes : List ℕ) → IsFirstLine line (take n bytes) → IsFirstLine line bytes
first_line_of_front n line bytes x =
    subst (IsFirstLine line) (take-append-drop n bytes) (first_line_more line (take n bytes) (drop n bytes) x)

pub http_more : (bytes more : List ℕ) → SpeaksHttp bytes → SpeaksHttp (bytes ++ more)
http_more bytes more x = (x.0, first_line_more x.0 bytes more x.1, x.2)

pub http_of_front : (n : ℕ) (bytes : List ℕ) → SpeaksHttp (take n bytes) → SpeaksHttp bytes
http_of_front n bytes x = (x.0, first_line_of_front n x.0 bytes x.1, x.2)
