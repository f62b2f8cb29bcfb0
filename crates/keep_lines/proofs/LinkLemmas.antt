-- The number of a link, read off a line.
use Rattle.std.proofs.Common.{◌≡◌, ◌∙◌, ℕ, ◌<◌, ◌≤◌, ◌^◌, List, [], ◌∷◌, ◌++◌, drop, get_or, refl, sym, ap, subst, append_assoc, arith}
use Rattle.std.specs.Char.{digit_value}
use Rattle.std.specs.Fmt.{decimal}
use Rattle.std.specs.Str.Parse.{AllDigits}
use Rattle.std.proofs.lemmas.Fmt.{decimal_injective, decimal_is_IsNumeral}
use Rattle.caster_press.specs.Texts.{newline}
use Rattle.keep_lines.specs.declared.told.LinkNumber.{LinkNumber}
use Rattle.std.specs.Prelude.{codes}
use Rattle.keep_lines.specs.Lines.{IsLineOf, line_with, link_word, now_line}
use Rattle.keep_lines.specs.Words.{led}
use Rattle.keep_lines.proofs.WordLemmas.{joined}

first_same : (x y : ℕ) (xs ys : List ℕ) → x ∷ xs ≡ y ∷ ys → x ≡ y
first_same x y xs ys same = ap (λ (l : List ℕ). get_or l 0 0) same

rest_same : (x y : ℕ) (xs ys : List ℕ) → x ∷ xs ≡ y ∷ ys → xs ≡ ys
rest_same x y xs ys same = ap (λ (l : List ℕ). drop 1 l) same

-- digits up to a byte that is none are the same digits, in the same text
cut_same : (xs ys : List ℕ) (x y : ℕ) (xt yt : List ℕ) → AllDigits 10 xs → AllDigits 10 ys → 10 ≤ digit_value x
    → 10 ≤ digit_value y → xs ++ x ∷ xt ≡ ys ++ y ∷ yt → (xs ≡ ys) × (x ∷ xt ≡ y ∷ yt)
cut_same [] [] x y xt yt dx dy nx ny same = (refl, same)
cut_same [] (b ∷ ys) x y xt yt dx dy nx ny same =
    absurd (omega (arith, nx, subst (λ (n : ℕ). digit_value n < 10) (sym (first_same x b xt (ys ++ y ∷ yt) same)) dy.0))
cut_same (a ∷ xs) [] x y xt yt dx dy nx ny same =
    absurd (omega (arith, ny, subst (λ (n : ℕ). digit_value n < 10) (first_same a y (xs ++ x ∷ xt) yt same) dx.0))
cut_same (a ∷ xs) (b ∷ ys) x y xt yt dx dy nx ny same =
    let rest = cut_same xs ys x y xt yt dx.1 dy.1 nx ny (rest_same a b (xs ++ x ∷ xt) (ys ++ y ∷ yt) same) in
    let first : a ≡ b = first_same a b (xs ++ x ∷ xt) (ys ++ y ∷ yt) same in
    (ap (λ (n : ℕ). n ∷ xs) first ∙ ap (λ (l : List ℕ). b ∷ l) rest.0, rest.1)

-- two links whose texts go on with bytes that are no digits
link_same : (a b : LinkNumber) (x y : ℕ) (xt yt : List ℕ) → a.caller < 2 ^ 64 → b.caller < 2 ^ 64 → a.count < 2 ^ 64
    → b.count < 2 ^ 64 → 10 ≤ digit_value x → 10 ≤ digit_value y
    → link_word a ++ x ∷ xt ≡ link_word b ++ y ∷ yt → a ≡ b
link_same a b x y xt yt ac bc an bn nx ny same =
    let callers = cut_same (decimal a.caller) (decimal b.caller) 46 46 (decimal a.count ++ x ∷ xt) (decimal b.count ++ y ∷ yt)
    (decimal_is_IsNumeral a.caller ac).0.1 (decimal_is_IsNumeral b.caller bc).0.1 (omega arith) (omega arith)
    (sym (append_assoc (decimal a.caller) (46 ∷ decimal a.count) (x ∷ xt)) ∙ same
    ∙ append_assoc (decimal b.caller) (46 ∷ decimal b.count) (y ∷ yt)) in
    let counts = cut_same (decimal a.count) (decimal b.count) x y xt yt (decimal_is_IsNumeral a.count an).0.1
    (decimal_is_IsNumeral b.count bn).0.1 nx ny
    (rest_same 46 46 (decimal a.count ++ x ∷ xt) (decimal b.count ++ y ∷ yt) callers.1) in
    let caller : a.caller ≡ b.caller = decimal_injective a.caller b.caller ac bc callers.0 in
    let count : a.count ≡ b.count = decimal_injective a.count b.count an bn counts.0 in
    ap (λ (n : ℕ). number n a.count) caller ∙ ap (number b.caller) count where
      number : ℕ → ℕ → LinkNumber
      number caller count = record { caller = caller; count = count }

-- a line by its first word, a space, and what goes on
pub line_text : (link : LinkNumber) (word : List ℕ) (words : List (List ℕ))
    → line_with link (word ∷ words) ≡ link_word link ++ 32 ∷ ((word ++ led words) ++ newline ∷ [])
line_text link word words =
    ap (λ (l : List ℕ). l ++ newline ∷ []) (joined (link_word link) (word ∷ words))
    ∙ append_assoc (link_word link) (led (word ∷ words)) (newline ∷ [])

pub begins_own : (link : LinkNumber) (word : List ℕ) (words : List (List ℕ))
    → IsLineOf link (line_with link (word ∷ words))
begins_own link word words = ((word ++ led words) ++ newline ∷ [], line_text link word words)

pub begins_alone : (a b : LinkNumber) (words : List (List ℕ)) → a.caller < 2 ^ 64 → b.caller < 2 ^ 64 → a.count < 2 ^ 64
    → b.count < 2 ^ 64 → IsLineOf b (line_with a words) → a ≡ b
begins_alone a b [] ac bc an bn of = link_same a b newline 32 [] of.0 ac bc an bn (omega arith) (omega arith) of.1
begins_alone a b (word ∷ words) ac bc an bn of =
    link_same a b 32 32 ((word ++ led words) ++ newline ∷ []) of.0 ac bc an bn (omega arith) (omega arith)
    (sym (line_text a word words) ∙ of.1)

-- a line of how things stand begins with no digit
pub now_alone : (link : LinkNumber) (words : List (List ℕ)) → link.caller < 2 ^ 64 → ¬ IsLineOf link (now_line words)
now_alone link words fits of =
    let rest = ((111 ∷ 119 ∷ []) ++ led words) ++ newline ∷ [] in
    let behind = decimal link.count ++ 32 ∷ of.0 in
    let text : 110 ∷ rest ≡ decimal link.caller ++ 46 ∷ behind =
    sym (ap (λ (l : List ℕ). l ++ newline ∷ []) (joined (codes "now") words)) ∙ of.1
    ∙ append_assoc (decimal link.caller) (46 ∷ decimal link.count) (32 ∷ of.0) in
    let cut = cut_same [] (decimal link.caller) 110 46 rest behind tt (decimal_is_IsNumeral link.caller fits).0.1
    (omega arith) (omega arith) text in
    let first : 110 ≡ 46 = first_same 110 46 rest behind cut.1 in
    omega (arith, first)
