-- Joined parts split into the same parts.
use Rattle.std.proofs.Common.{◌≡◌, ℕ, eqb, List, [], ◌∷◌, ◌++◌, refl, ap, ◌∙◌}
use Rattle.std.specs.List.{slice_split, join_with_byte}
use Rattle.cast_text.specs.Split.{HasNone}
use Rattle.cast_text.proofs.SplitLemmas.{split_alone, split_front}

-- two parts
pub split_two : (a b : List ℕ) → HasNone (λ c. eqb c 32) a → HasNone (λ c. eqb c 32) b
    → slice_split (λ c. eqb c 32) (join_with_byte 32 (a ∷ b ∷ [])) ≡ a ∷ b ∷ []
split_two a b ha hb = split_front (λ c. eqb c 32) a 32 b ha refl
    ∙ ap (λ (ps : List (List ℕ)). a ∷ ps) (split_alone (λ c. eqb c 32) b hb)

-- three parts
pub split_three : (a b d : List ℕ) → HasNone (λ c. eqb c 32) a → HasNone (λ c. eqb c 32) b → HasNone (λ c. eqb c 32) d
    → slice_split (λ c. eqb c 32) (join_with_byte 32 (a ∷ b ∷ d ∷ [])) ≡ a ∷ b ∷ d ∷ []
split_three a b d ha hb hd =
    split_front (λ c. eqb c 32) a 32 (b ++ 32 ∷ d) ha refl
    ∙ ap (λ (ps : List (List ℕ)). a ∷ ps) (split_two b d hb hd)
