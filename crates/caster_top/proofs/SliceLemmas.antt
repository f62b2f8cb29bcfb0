-- The words of a slice, and those behind its first.
use Rattle.std.proofs.Common.{◌≡◌, ◌-◌, ◌<◌, ◌≤◌, true, false, List, [], ◌∷◌, String, length, get_or, take, drop, string_bytes, refl, ap, sym, ◌∙◌, arith}
use Rattle.std.proofs.lemmas.List.{take_all, length-drop}
use Rattle.std.proofs.lemmas.Bool.{and_parts}
use Rattle.std.specs.Global.{Global}
use Rattle.caster_top.specs.Command.{are_targets, is_target, target_of, targets_of, texts}

-- fewer than five words are no target
pub too_few_words : (words : List (String Global)) → 1 ≤ length words → length words < 5
    → false ≡ are_targets (texts words)
too_few_words [] some few = absurd (omega (arith, some))
too_few_words (a ∷ []) some few = refl
too_few_words (a ∷ b ∷ []) some few = refl
too_few_words (a ∷ b ∷ c ∷ []) some few = refl
too_few_words (a ∷ b ∷ c ∷ d ∷ []) some few = refl
too_few_words (a ∷ b ∷ c ∷ d ∷ e ∷ more) some few = absurd (omega (arith, few))

-- the words are the first, which were taken one by one, and those behind them
pub record AreFirst (words : List (String Global)) (a b c d e : String Global) : Type 0 where
  pub first : a ≡ get_or words 0 a
  pub second : b ≡ get_or words 1 b
  pub third : c ≡ get_or words 2 c
  pub fourth : d ≡ get_or words 3 d
  pub fifth : e ≡ get_or words 4 e

behind_five : (words : List (String Global)) → 5 ≤ length words → take (length words - 5) (drop 5 words) ≡ drop 5 words
behind_five words five =
    take_all (length words - 5) (drop 5 words) (grind (arith, length-drop))

pub first_words : (words : List (String Global)) (a b c d e : String Global) → 5 ≤ length words
    → AreFirst words a b c d e → words ≡ a ∷ b ∷ c ∷ d ∷ e ∷ take (length words - 5) (drop 5 words)
first_words [] a b c d e five are = absurd (omega (arith, five))
first_words (x ∷ []) a b c d e five are = absurd (omega (arith, five))
first_words (x ∷ y ∷ []) a b c d e five are = absurd (omega (arith, five))
first_words (x ∷ y ∷ z ∷ []) a b c d e five are = absurd (omega (arith, five))
first_words (x ∷ y ∷ z ∷ u ∷ []) a b c d e five are = absurd (omega (arith, five))
first_words (x ∷ y ∷ z ∷ u ∷ v ∷ more) a b c d e five are =
    let whole = behind_five (x ∷ y ∷ z ∷ u ∷ v ∷ more) five in
    rw (whole, are.first, are.second, are.third, are.fourth, are.fifth) refl

-- after a target the others decide
pub later_targets : (words : List (String Global)) (a b c d e : String Global) → 5 ≤ length words
    → AreFirst words a b c d e
    → is_target (string_bytes a) (string_bytes b) (string_bytes c) (string_bytes d) (string_bytes e) ≡ true
    → are_targets (texts (take (length words - 5) (drop 5 words))) ≡ are_targets (texts words)
later_targets words a b c d e five are target =
    let more = take (length words - 5) (drop 5 words) in
    let step : are_targets (texts (a ∷ b ∷ c ∷ d ∷ e ∷ more)) ≡ are_targets (texts more) = rw target refl in
    sym (ap (λ (ws : List (String Global)). are_targets (texts ws)) (first_words words a b c d e five are) ∙ step)

-- the first five are a target, and so are the others
pub first_target : (words : List (String Global)) (a b c d e : String Global) → 5 ≤ length words
    → AreFirst words a b c d e → are_targets (texts words) ≡ true
    → (is_target (string_bytes a) (string_bytes b) (string_bytes c) (string_bytes d) (string_bytes e) ≡ true)
    × (are_targets (texts (take (length words - 5) (drop 5 words))) ≡ true)
first_target words a b c d e five are all =
    let more = take (length words - 5) (drop 5 words) in
    let whole : are_targets (texts (a ∷ b ∷ c ∷ d ∷ e ∷ more)) ≡ true =
    sym (ap (λ (ws : List (String Global)). are_targets (texts ws)) (first_words words a b c d e five are)) ∙ all in
    and_parts (is_target (string_bytes a) (string_bytes b) (string_bytes c) (string_bytes d) (string_bytes e))
    (are_targets (texts more)) whole

pub one_more_target : (words : List (String Global)) (a b c d e : String Global) → 5 ≤ length words
    → AreFirst words a b c d e
    → targets_of (texts words)
    ≡ target_of (string_bytes a) (string_bytes b) (string_bytes c) (string_bytes d) (string_bytes e)
    ∷ targets_of (texts (take (length words - 5) (drop 5 words)))
one_more_target words a b c d e five are =
    ap (λ (ws : List (String Global)). targets_of (texts ws)) (first_words words a b c d e five are)

pub no_target : (words : List (String Global)) → length words < 5 → targets_of (texts words) ≡ []
no_target [] few = refl
no_target (a ∷ []) few = refl
no_target (a ∷ b ∷ []) few = refl
no_target (a ∷ b ∷ c ∷ []) few = refl
no_target (a ∷ b ∷ c ∷ d ∷ []) few = refl
no_target (a ∷ b ∷ c ∷ d ∷ e ∷ more) few = absurd (omega (arith, few))

-- ---- the words of a command

-- the first two and those behind them
pub two_words : (words : List (String Global)) (a b : String Global) → 2 ≤ length words → a ≡ get_or words 0 a
    → b ≡ get_or words 1 b → words ≡ a ∷ b ∷ take (length words - 2) (drop 2 words)
two_words [] a b two first second = absurd (omega (arith, two))
two_words (x ∷ []) a b two first second = absurd (omega (arith, two))
two_words (x ∷ y ∷ more) a b two first second =
    let size = length-drop 2 (x ∷ y ∷ more) in
    let whole : take (length (x ∷ y ∷ more) - 2) (drop 2 (x ∷ y ∷ more)) ≡ drop 2 (x ∷ y ∷ more) =
    take_all (length (x ∷ y ∷ more) - 2) (drop 2 (x ∷ y ∷ more)) (omega (arith, size)) in
    rw (whole, first, second) refl
