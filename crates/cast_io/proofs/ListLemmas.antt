-- A test that each element passes, at the front and at the rest of a list.
use Rattle.std.proofs.Common.{◌≡◌, ℕ, List, take, drop, Bool, true, ap, sym, ◌∙◌}
use Rattle.std.specs.List.{list_all}
use Rattle.std.proofs.lemmas.Bool.{and_parts}
use Rattle.std.proofs.lemmas.List.{take-append-drop}
use Rattle.std.proofs.lemmas.List.Folds.{list_all-append}

all_parts : {X : Type 0} (p : X → Bool) (n : ℕ) (xs : List X) → list_all p xs ≡ true
    → (list_all p (take n xs) ≡ true) × (list_all p (drop n xs) ≡ true)
all_parts p n xs all = and_parts (list_all p (take n xs)) (list_all p (drop n xs))
    (sym (list_all-append p (take n xs) (drop n xs)) ∙ ap (list_all p) (take-append-drop n xs) ∙ all)

pub all_take : {X : Type 0} (p : X → Bool) (n : ℕ) (xs : List X) → list_all p xs ≡ true
    → list_all p (take n xs) ≡ true
all_take p n xs all = (all_parts p n xs all).0

pub all_drop : {X : Type 0} (p : X → Bool) (n : ℕ) (xs : List X) → list_all p xs ≡ true
    → list_all p (drop n xs) ≡ true
all_drop p n xs all = (all_parts p n xs all).1
