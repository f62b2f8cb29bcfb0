-- Two reads one after the other lose the bytes of both, and two writes add them.
use Rattle.std.proofs.Common.{ℕ, List, ◌++◌, Option, None, Some, ap, sym, ◌∙◌, append_assoc}
use Rattle.std.specs.Io.KnownBytes.{Consumes, Appends}

pub Consumes-append : (a b c : Option (List ℕ)) (xs ys : List ℕ) → Consumes a b xs → Consumes b c ys
    → Consumes a c (xs ++ ys)
Consumes-append None b c xs ys p q = tt
Consumes-append (Some a) None c xs ys p q = absurd p
Consumes-append (Some a) (Some b) None xs ys p q = absurd q
Consumes-append (Some a) (Some b) (Some c) xs ys p q =
    p ∙ ap (λ t. xs ++ t) q ∙ sym (append_assoc xs ys c)

pub Appends-append : (a b c : Option (List ℕ)) (xs ys : List ℕ) → Appends a b xs → Appends b c ys
    → Appends a c (xs ++ ys)
Appends-append None b c xs ys p q = tt
Appends-append (Some a) None c xs ys p q = absurd p
Appends-append (Some a) (Some b) None xs ys p q = absurd q
Appends-append (Some a) (Some b) (Some c) xs ys p q =
    q ∙ ap (λ l. l ++ ys) p ∙ append_assoc a xs ys
