-- Lines of three parts and more.
use Rattle.std.proofs.Common.{◌≡◌, ℕ, true, eqb, List, [], ◌∷◌, Option, Some, None, refl, ap, ◌∙◌}
use Rattle.session_script.specs.declared.ScriptKind.{ScriptKind}
use Rattle.session_script.specs.Line.{event_of_parts}
use Rattle.session_script.specs.Parts.{parts_after}
use Rattle.std.specs.Prelude.{is_some}
use Rattle.std.specs.List.{slice_split}
use Rattle.std.specs.Option.{option_map}
use Rattle.cast_text.proofs.SplitLemmas.{HasPart, has_part}

-- what stands between spaces
abbrev pub parts : List ℕ → List (List ℕ)
parts text = slice_split (λ b. eqb b 32) text

pub three_parts : (line word rest number value_rest value : List ℕ) (more : Option (List ℕ))
    → parts line ≡ word ∷ parts rest
    → parts rest ≡ number ∷ parts value_rest → parts value_rest ≡ value ∷ parts_after more
    → parts line ≡ word ∷ number ∷ value ∷ parts_after more
three_parts line word rest number value_rest value more e f g = e
    ∙ ap (λ (ps : List (List ℕ)). word ∷ ps) (f ∙ ap (λ (ps : List (List ℕ)). number ∷ ps) g)

four_parts : (kind : ScriptKind) (word number value : List ℕ) (ps : List (List ℕ)) → HasPart ps
    → event_of_parts kind (word ∷ number ∷ value ∷ ps) ≡ None
four_parts kind word number value [] h = elim h [ ]
four_parts kind word number value (x ∷ more) h = refl

-- a line with more than three parts is of no form
pub too_many_parts : (kind : ScriptKind) (word number value : List ℕ) (more : Option (List ℕ)) → is_some more ≡ true
    → event_of_parts kind (word ∷ number ∷ value ∷ parts_after more) ≡ None
too_many_parts kind word number value None some = absurd cc
too_many_parts kind word number value (Some rest) some = four_parts kind word number value (parts rest)
    (has_part (λ b. eqb b 32) rest)

pub some_mapped : {A B : Type 0} (f : A → B) (o : Option A) → is_some o ≡ true → is_some (option_map f o) ≡ true
some_mapped f None some = some
some_mapped f (Some x) some = refl
