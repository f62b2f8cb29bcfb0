-- A piece that is written part by part.
use Rattle.std.proofs.Common.{ℕ, ◌+◌, ◌≤◌, List, [], ◌++◌, take, drop, Option, None, Some, ap, sym, subst, ◌∙◌, append_assoc, append-nil}
use Rattle.std.proofs.Math.Seq.{take-add}
use Rattle.std.proofs.lemmas.List.{take-take}
use Rattle.std.specs.Io.KnownBytes.{Appends}
use Rattle.cast_io.proofs.PieceLemmas.{Appends-append}
use Rattle.caster_net.specs.Honest.{BothTake}

Appends-none : (a : Option (List ℕ)) → Appends a a []
Appends-none None = tt
Appends-none (Some a) = sym (append-nil a)

-- nothing yet
pub none_taken : (a : Option (List ℕ)) (noted : List ℕ) → BothTake a a noted noted []
none_taken a noted = (Appends-none a, sym (append-nil noted))

-- these bytes and then those
pub more_taken : (a b c : Option (List ℕ)) (u v w xs ys : List ℕ) → BothTake a b u v xs
    → BothTake b c v w ys → BothTake a c u w (xs ++ ys)
more_taken a b c u v w xs ys p q = (
  Appends-append a b c xs ys p.0 q.0,
  q.1 ∙ ap (λ l. l ++ ys) p.1 ∙ append_assoc u xs ys,
)

-- one more part of the rest of a piece
pub part_taken : (a b c : Option (List ℕ)) (u v w piece : List ℕ) (at n k : ℕ) → n ≤ k
    → BothTake a b u v (take at piece) → BothTake b c v w (take n (take k (drop at piece)))
    → BothTake a c u w (take (at + n) piece)
part_taken a b c u v w piece at n k within p q =
    subst (λ (l : List ℕ). BothTake a c u w l) (sym (take-add at n piece))
    (more_taken a b c u v w _ _ p
    (subst (λ (l : List ℕ). BothTake b c v w l) (take-take n k (drop at piece) within) q))
