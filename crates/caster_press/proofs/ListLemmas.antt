-- Lists by their last items.
use Rattle.std.proofs.Common.{◌≡◌, ◌∙◌, ◌+◌, ℕ, zero, suc, List, [], ◌∷◌, ◌++◌, length, refl, sym, ap, length-append}
use mathlib.Core.Option.{some, some-ne-none}
use lib.ListN.{get_elem?}

-- the last item of a list
at_back : {X : Type 0} (front : List X) (last : X) → get_elem? (front ++ last ∷ []) (length front) ≡ some last
at_back [] last = refl
at_back (x ∷ front) last = at_back front last

-- an item before the last
at_front : {X : Type 0} (front : List X) (last x : X) (i : ℕ) → get_elem? front i ≡ some x
    → get_elem? (front ++ last ∷ []) i ≡ some x
at_front [] last x i at = absurd (some-ne-none x (sym at))
at_front (y ∷ front) last x zero at = at
at_front (y ∷ front) last x (suc i) at = at_front front last x i at

-- what holds of each item by its place
pub each_front : {X : Type 0} (P : ℕ → X → Type 0) (all front : List X) (last : X) → all ≡ front ++ last ∷ []
    → ((i : ℕ) (x : X) → get_elem? all i ≡ some x → P i x) → (i : ℕ) (x : X) → get_elem? front i ≡ some x → P i x
each_front P all front last is each i x at = each i x (ap (λ l. get_elem? l i) is ∙ at_front front last x i at)

pub each_last : {X : Type 0} (P : ℕ → X → Type 0) (all front : List X) (last : X) → all ≡ front ++ last ∷ []
    → ((i : ℕ) (x : X) → get_elem? all i ≡ some x → P i x) → P (length front) last
each_last P all front last is each =
    each (length front) last (ap (λ l. get_elem? l (length front)) is ∙ at_back front last)

pub one_longer : {X : Type 0} (all front : List X) (last : X) → all ≡ front ++ last ∷ []
    → length all ≡ length front + 1
one_longer all front last is = ap length is ∙ length-append front (last ∷ [])
