-- A head that is read has its first empty line at its end.
use Rattle.std.proofs.Common.{◌≡◌, ◌≢◌, ◌≤◌, ◌+◌, ◌∙◌, ℕ, true, false, List, [], ◌∷◌, ◌++◌, length, append_assoc, length-append, arith, sym, ap, subst, refl, inl, inr}
use Rattle.std.specs.Prelude.{All, IsTrue}
use Rattle.std.specs.List.{flat_map}
use Rattle.std.proofs.lemmas.List.{nil_from_length}
use Rattle.std.proofs.lemmas.List.Elements.{All-append, All-cons, All-head, All-tail, All-weaker}
use Rattle.httparse.specs.Grammar.{LineEnd, crlf, lf, print_end, Field, IsField, print_field, print_section, is_token_byte, is_uri_byte, is_value_byte}
use Rattle.ntrip_head.specs.Head.{AtLineStart}
use Rattle.ntrip_head.specs.Answer.{begins_in_line}
use Rattle.ntrip_head.proofs.TreeLemmas.{begins_token}

-- no byte is LF
abbrev pub NoLf : List ℕ → Type 0
NoLf bytes = All (λ b. b ≢ 10) bytes

-- the last byte is LF
abbrev pub EndsLf : List ℕ → Type 0
EndsLf front = (more : List ℕ) × (front ≡ more ++ 10 ∷ [])

-- an empty line of the text is at its end
abbrev pub OnlyLast : List ℕ → Type 0
OnlyLast text =
    (front : List ℕ) (end : LineEnd) (rest : List ℕ) → AtLineStart front → text ≡ front ++ (print_end end ++ rest)
    → rest ≡ []

-- ---- past a line

start_after : (b : ℕ) (front more : List ℕ) → b ∷ front ≡ more ++ 10 ∷ [] → AtLineStart front
start_after b front [] e = inl (let same : b ∷ front ≡ 10 ∷ [] = e in cc)
start_after b front (m ∷ more) e = inr (more, let same : b ∷ front ≡ m ∷ (more ++ 10 ∷ []) = e in cc)

ends_later : (b : ℕ) (front more : List ℕ) → b ≢ 10 → b ∷ front ≡ more ++ 10 ∷ [] → EndsLf front
ends_later b front [] other e = absurd (other (let same : b ∷ front ≡ 10 ∷ [] = e in cc))
ends_later b front (m ∷ more) other e = (more, let same : b ∷ front ≡ m ∷ (more ++ 10 ∷ []) = e in cc)

none_ends : (more : List ℕ) → [] ≡ more ++ 10 ∷ [] → ⊥
none_ends more e = omega (arith, ap (λ (l : List ℕ). length l) e, length-append more (10 ∷ []))

-- a front that ends with LF goes on past the first line
record IsPast (x tail : List ℕ) : Type 0 where
  later : List ℕ
  starts : AtLineStart later
  rest : later ++ x ≡ tail

past_end : (end : LineEnd) (front x tail : List ℕ) → EndsLf front → front ++ x ≡ print_end end ++ tail → IsPast x tail
past_end lf [] x tail (more, e) eq = absurd (none_ends more e)
past_end lf (b ∷ front) x tail (more, e) eq =
    let same : b ∷ (front ++ x) ≡ 10 ∷ tail = eq in
    record { later = front; starts = start_after b front more e; rest = cc }
past_end crlf [] x tail (more, e) eq = absurd (none_ends more e)
past_end crlf (b ∷ front) x tail (more, e) eq =
    let same : b ∷ (front ++ x) ≡ 13 ∷ (10 ∷ tail) = eq in
    let return : b ≡ 13 = cc in
    let later : front ++ x ≡ 10 ∷ tail = cc in
    past_end lf front x tail (ends_later b front more (λ is. omega (arith, is, return)) e) later

past_line : (line : List ℕ) (end : LineEnd) (front x tail : List ℕ) → NoLf line → EndsLf front
    → front ++ x ≡ line ++ (print_end end ++ tail) → IsPast x tail
past_line [] end front x tail clean ends eq = past_end end front x tail ends eq
past_line (a ∷ line) end [] x tail clean (more, e) eq = absurd (none_ends more e)
past_line (a ∷ line) end (b ∷ front) x tail clean (more, e) eq =
    let same : b ∷ (front ++ x) ≡ a ∷ (line ++ (print_end end ++ tail)) = eq in
    let first : b ≡ a = cc in
    let later : front ++ x ≡ line ++ (print_end end ++ tail) = cc in
    let other : b ≢ 10 = λ is. All-head (λ (n : ℕ). n ≢ 10) a line clean (sym first ∙ is) in
    past_line line end front x tail (All-tail (λ (n : ℕ). n ≢ 10) a line clean) (ends_later b front more other e) later

-- ---- lines before a text whose empty line is last

begins_on : (line rest : List ℕ) → begins_in_line line ≡ true → begins_in_line (line ++ rest) ≡ true
begins_on [] rest h = absurd cc
begins_on (b ∷ line) rest h = h

end_begins : (end : LineEnd) (rest : List ℕ) → begins_in_line (print_end end ++ rest) ≡ false
end_begins lf rest = refl
end_begins crlf rest = refl

pub only_line : (line : List ℕ) (end : LineEnd) (tail : List ℕ) → NoLf line → begins_in_line line ≡ true → OnlyLast tail
    → OnlyLast (line ++ (print_end end ++ tail))
only_line line end tail clean begins only front last rest (inl none) e =
    let same : line ++ (print_end end ++ tail) ≡ print_end last ++ rest = e
    ∙ ap (λ (l : List ℕ). l ++ (print_end last ++ rest)) none in
    let yes : begins_in_line (line ++ (print_end end ++ tail)) ≡ true = begins_on line (print_end end ++ tail) begins in
    let no : begins_in_line (print_end last ++ rest) ≡ false = end_begins last rest in
    let both : begins_in_line (line ++ (print_end end ++ tail)) ≡ begins_in_line (print_end last ++ rest) = ap
    (λ (l : List ℕ). begins_in_line l) same in
    absurd cc
only_line line end tail clean begins only front last rest (inr ends) e =
    let past = past_line line end front (print_end last ++ rest) tail clean ends (sym e) in
    only past.later last rest past.starts (sym past.rest)

pub end_size : (end : LineEnd) → (1 ≤ length (print_end end)) × (length (print_end end) ≤ 2)
end_size lf = (omega arith, omega arith)
end_size crlf = (omega arith, omega arith)

at_once : (end last : LineEnd) (rest : List ℕ) → print_end end ≡ print_end last ++ rest → rest ≡ []
at_once lf lf rest e = let same : 10 ∷ [] ≡ 10 ∷ rest = e in cc
at_once lf crlf rest e = absurd (let same : 10 ∷ [] ≡ 13 ∷ (10 ∷ rest) = e in cc)
at_once crlf lf rest e = absurd (let same : 13 ∷ (10 ∷ []) ≡ 10 ∷ rest = e in cc)
at_once crlf crlf rest e = let same : 13 ∷ (10 ∷ []) ≡ 13 ∷ (10 ∷ rest) = e in cc

only_end : (end : LineEnd) → OnlyLast (print_end end)
only_end end front last rest (inl none) e =
    at_once end last rest (e ∙ ap (λ (l : List ℕ). l ++ (print_end last ++ rest)) none)
only_end end front last rest (inr (more, f)) e =
    let total : length (print_end end) ≡ length front + (length (print_end last) + length rest) =
    ap (λ (l : List ℕ). length l) e ∙ length-append front (print_end last ++ rest)
    ∙ ap (λ (n : ℕ). length front + n) (length-append (print_end last) rest) in
    let some : length front ≡ length more + 1 = ap (λ (l : List ℕ). length l) f ∙ length-append more (10 ∷ []) in
    let few = end_size end in
    let one = end_size last in
    nil_from_length rest (omega (arith, few.1, one.0))

-- ---- bytes of the grammar

pub token_no_lf : (b : ℕ) → is_token_byte b ≡ true → b ≢ 10
unfolding is_token_byte
token_no_lf b h is = let at : is_token_byte 10 ≡ true = subst (λ (n : ℕ). is_token_byte n ≡ true) is h in absurd cc

pub uri_no_lf : (b : ℕ) → is_uri_byte b ≡ true → b ≢ 10
uri_no_lf b h is = let at : is_uri_byte 10 ≡ true = subst (λ (n : ℕ). is_uri_byte n ≡ true) is h in absurd cc

pub value_no_lf : (b : ℕ) → is_value_byte b ≡ true → b ≢ 10
value_no_lf b h is = let at : is_value_byte 10 ≡ true = subst (λ (n : ℕ). is_value_byte n ≡ true) is h in absurd cc

-- ---- header lines

abbrev pub field_line : Field → List ℕ
field_line f = f.name ++ 58 ∷ f.raw

field_no_lf : (f : Field) → IsField f → NoLf (field_line f)
field_no_lf f is =
    All-append (λ (b : ℕ). b ≢ 10) f.name (58 ∷ f.raw)
    (All-weaker (λ (b : ℕ). IsTrue (is_token_byte b)) (λ (b : ℕ). b ≢ 10) token_no_lf f.name is.name.1)
    (All-cons (λ (b : ℕ). b ≢ 10) 58 f.raw (λ e. absurd cc)
    (All-weaker (λ (b : ℕ). IsTrue (is_value_byte b)) (λ (b : ℕ). b ≢ 10) value_no_lf f.raw is.raw))

section_more : (f : Field) (fields : List Field) (last : LineEnd)
    → print_section (f ∷ fields) last ≡ field_line f ++ (print_end f.end ++ print_section fields last)
section_more f fields last = regroup (field_line f) (print_end f.end) (flat_map print_field fields) (print_end last)
  where
    regroup : (a b c d : List ℕ) → ((a ++ b) ++ c) ++ d ≡ a ++ (b ++ (c ++ d))
    regroup a b c d = simp append_assoc

pub only_section : (fields : List Field) (last : LineEnd) → All IsField fields → OnlyLast (print_section fields last)
only_section [] last all = only_end last
only_section (f ∷ fields) last all =
    let is : IsField f = All-head IsField f fields all in
    subst OnlyLast (sym (section_more f fields last))
    (only_line (field_line f) f.end (print_section fields last) (field_no_lf f is)
    (begins_token f.name (58 ∷ f.raw) is.name)
    (only_section fields last (All-tail IsField f fields all)))
