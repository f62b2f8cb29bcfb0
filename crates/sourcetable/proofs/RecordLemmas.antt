-- Fields of a line: joined, counted, and of one line only.
use Rattle.std.proofs.Common.{◌≡◌, ℕ, ◌+◌, ◌≤◌, Bool, cond, List, [], ◌∷◌, ◌++◌, length, refl, sym, ap, ◌∙◌, arith}
use Rattle.std.specs.List.{All, count_by, list_any}
use Rattle.std.proofs.lemmas.Bool.{or_parts}
use Rattle.std.proofs.lemmas.List.{append-nil}
use Rattle.std.proofs.lemmas.List.Elements.{All-head, All-tail}
use Rattle.std.proofs.lemmas.List.Sums.{sum_by-append, sum_by-cons}
use Rattle.sourcetable.specs.Record.{is_separator, fields_text, AreFreeButLast}
use Rattle.cast_text.specs.Split.{HasNone}
use Rattle.cast_text.proofs.SplitLemmas.{split_same}

-- ---- one more field

pub free_push : (fields : List (List ℕ)) (last : List ℕ) → All (HasNone is_separator) fields
    → AreFreeButLast (fields ++ last ∷ [])
free_push [] last free = tt
free_push (field ∷ []) last free = (All-head (HasNone is_separator) field [] free, tt)
free_push (field ∷ second ∷ more) last free = (
  All-head (HasNone is_separator) field (second ∷ more) free,
  free_push (second ∷ more) last
      (All-tail (HasNone is_separator) field (second ∷ more) free),
)

-- ---- how many `;`

pub count-append : (p : ℕ → Bool) (xs ys : List ℕ) → count_by p (xs ++ ys) ≡ count_by p xs + count_by p ys
count-append p xs ys = sum_by-append (λ x. cond (p x) 1 0) xs ys

pub count_none : (p : ℕ → Bool) (xs : List ℕ) → HasNone p xs → count_by p xs ≡ 0
count_none p [] none = refl
count_none p (x ∷ xs) none =
    let parts = or_parts (p x) (list_any p xs) none in
    let rest : count_by p xs ≡ 0 = count_none p xs parts.1 in
    rw parts.0 (omega arith)

pub count_behind : (text : List ℕ) → count_by is_separator (59 ∷ text) ≡ 1 + count_by is_separator text
count_behind text = sum_by-cons (λ x. cond (is_separator x) 1 0) 59 text

count_field : (field rest : List ℕ)
    → count_by is_separator (59 ∷ (field ++ rest)) ≡ 1 + (count_by is_separator field + count_by is_separator rest)
count_field field rest = count_behind (field ++ rest) ∙ ap (λ (n : ℕ). 1 + n) (count-append is_separator field rest)

pub count_fields : (fields : List (List ℕ)) → All (HasNone is_separator) fields
    → count_by is_separator (fields_text fields) ≡ length fields
count_fields [] free = refl
count_fields (field ∷ more) free =
    let none : count_by is_separator field ≡ 0 = count_none is_separator field
    (All-head (HasNone is_separator) field more free) in
    let rest : count_by is_separator (fields_text more) ≡ length more = count_fields more
    (All-tail (HasNone is_separator) field more free) in
    let split : count_by is_separator (fields_text (field ∷ more)) ≡ 1 +
    (count_by is_separator field + count_by is_separator (fields_text more)) = count_field field
    (fields_text more) in
    split ∙ omega arith

pub count_fields_least : (fields : List (List ℕ)) → length fields ≤ count_by is_separator (fields_text fields)
count_fields_least [] = omega arith
count_fields_least (field ∷ more) =
    let rest : length more ≤ count_by is_separator (fields_text more) = count_fields_least more in
    rw (count_field field (fields_text more)) (omega arith)

-- fields that are free, and then a rest without `;`, have as many `;` as fields, and one
pub count_split : (fields : List (List ℕ)) (rest text : List ℕ) → All (HasNone is_separator) fields
    → HasNone is_separator rest
    → fields_text fields ++ 59 ∷ rest ≡ 59 ∷ text → count_by is_separator text ≡ length fields
count_split fields rest text free none is =
    let a : count_by is_separator (fields_text fields) ≡ length fields = count_fields fields free in
    let b : count_by is_separator rest ≡ 0 = count_none is_separator rest none in
    let both : count_by is_separator (fields_text fields ++ 59 ∷ rest) ≡ 1 + count_by is_separator text = ap
    (count_by is_separator) is ∙ count_behind text in
    let parts : count_by is_separator (fields_text fields ++ 59 ∷ rest) ≡ count_by is_separator
    (fields_text fields) + (1 + count_by is_separator rest)
    = count-append is_separator (fields_text fields) (59 ∷ rest)
    ∙ ap (λ (n : ℕ). count_by is_separator (fields_text fields) + n) (count_behind rest) in
    omega arith

-- ---- one list of fields

tail_of : (x y : ℕ) (xs ys : List ℕ) → x ∷ xs ≡ y ∷ ys → xs ≡ ys
tail_of x y xs ys e = cc

pub fields_same : (a b : List (List ℕ)) → length a ≡ length b → AreFreeButLast a → AreFreeButLast b
    → fields_text a ≡ fields_text b → a ≡ b
fields_same [] [] len fa fb e = refl
fields_same [] (y ∷ b) len fa fb e = absurd (omega arith)
fields_same (x ∷ a) [] len fa fb e = absurd (omega arith)
fields_same (x ∷ []) (y ∷ []) len fa fb e =
    ap (λ (f : List ℕ). f ∷ []) (sym (append-nil x) ∙ tail_of 59 59 (x ++ []) (y ++ []) e ∙ append-nil y)
fields_same (x ∷ []) (y ∷ d ∷ b) len fa fb e = absurd (omega arith)
fields_same (x ∷ c ∷ a) (y ∷ []) len fa fb e = absurd (omega arith)
fields_same (x ∷ c ∷ a) (y ∷ d ∷ b) len fa fb e =
    let parts = split_same is_separator 59 x y (c ++ fields_text a) (d ++ fields_text b) refl fa.0 fb.0
    (tail_of 59 59 (x ++ 59 ∷ (c ++ fields_text a)) (y ++ 59 ∷ (d ++ fields_text b)) e) in
    let rest : c ∷ a ≡ d ∷ b = fields_same (c ∷ a) (d ∷ b) (omega arith) fa.1 fb.1
    (ap (λ (t : List ℕ). 59 ∷ t) parts.1) in
    let first : x ≡ y = parts.0 in
    cc
