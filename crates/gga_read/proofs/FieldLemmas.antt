-- Taking off the first field of a text.
use Rattle.std.proofs.Common.{◌≡◌, ℕ, zero, suc, ◌+◌, ◌<◌, Bool, eqb, List, [], ◌∷◌, ◌++◌, refl, sym, ap, ◌∙◌, arith}
use Rattle.std.specs.Prelude.{slice_index_or}
use Rattle.cast_text.specs.Split.{HasNone}
use Rattle.cast_text.proofs.SplitLemmas.{split_alone, split_front}
use Rattle.gga_read.specs.Sentence.{fields, field}

abbrev pub is_comma : ℕ → Bool
is_comma b = eqb b 44

pub fields_alone : (xs : List ℕ) → HasNone is_comma xs → fields xs ≡ xs ∷ []
fields_alone xs none = split_alone is_comma xs none

pub fields_front : (xs front rest : List ℕ) → xs ≡ front ++ 44 ∷ rest → HasNone is_comma front
    → fields xs ≡ front ∷ fields rest
fields_front xs front rest is free = ap fields is ∙ split_front is_comma front 44 rest free refl

first_of : (x : List ℕ) (ps qs : List (List ℕ)) → qs ≡ x ∷ ps → x ≡ slice_index_or qs 0 []
first_of x ps qs e = sym (ap (λ (rs : List (List ℕ)). slice_index_or rs 0 []) e)

pub first_alone : (xs : List ℕ) → HasNone is_comma xs → xs ≡ field 0 xs
first_alone xs none = first_of xs [] (fields xs) (fields_alone xs none)

pub first_front : (xs front rest : List ℕ) → xs ≡ front ++ 44 ∷ rest → HasNone is_comma front → front ≡ field 0 xs
first_front xs front rest is free = first_of front (fields rest) (fields xs) (fields_front xs front rest is free)

-- the field with number n + 1 is the one with number n of what comes after the first comma
pub field_later : (xs rest : List ℕ) (m n : ℕ) → m ≡ n + 1 → fields xs ≡ field 0 xs ∷ fields rest
    → field m xs ≡ field n rest
field_later xs rest m n more e =
    let at_suc : slice_index_or (field 0 xs ∷ fields rest) (suc n) [] ≡ field n rest = refl in
    let same : m ≡ suc n = omega arith in
    ap (λ (k : ℕ). slice_index_or (fields xs) k []) same
    ∙ ap (λ (ps : List (List ℕ)). slice_index_or ps (suc n) []) e ∙ at_suc

past_end : (x : List ℕ) (m : ℕ) → 0 < m → slice_index_or (x ∷ []) m [] ≡ []
past_end x zero more = absurd (omega arith)
past_end x (suc m) more = refl

-- where no comma is, later fields are empty
pub field_missing : (xs : List ℕ) (m : ℕ) → 0 < m → fields xs ≡ xs ∷ [] → [] ≡ field m xs
field_missing xs m more e = sym (ap (λ (ps : List (List ℕ)). slice_index_or ps m []) e ∙ past_end xs m more)
