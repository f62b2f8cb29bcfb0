-- The last of a list that grows.
use Rattle.std.proofs.Common.{◌≡◌, List, [], ◌∷◌, ◌++◌, Option, Some, refl, ap, append-nil}
use Rattle.std.specs.List.{last_or}

pub last_one : {A : Type 0} (first : Option A) (l : List A) (a : A) → last_or first (l ++ a ∷ []) ≡ Some a
last_one first [] a = refl
last_one first (x ∷ l) a = last_one (Some x) l a

pub last_same : {A : Type 0} (first : Option A) (l : List A) → last_or first (l ++ []) ≡ last_or first l
last_same {A} first l = ap (λ (xs : List A). last_or first xs) (append-nil l)
