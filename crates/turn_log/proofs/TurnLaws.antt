-- Laws of one turn.
use Rattle.std.proofs.Common.{ℕ, Bool, ◌∙◌}
use base.Stored.{Gv}
use Rattle.turn_log.specs.Turn.{SamePlace}

-- what one call left as it was and then the next
pub same_both : {P S : Type 0} (shape : P → S) (speaks : P → ℕ → Bool) (may_lack alone : P → Bool) (home : P → Gv)
    (a b c : P)
    → SamePlace shape speaks may_lack alone home a b → SamePlace shape speaks may_lack alone home b c
    → SamePlace shape speaks may_lack alone home a c
same_both shape speaks may_lack alone home a b c x y =
    (y.0 ∙ x.0, y.1 ∙ x.1, y.2 ∙ x.2, y.3 ∙ x.3, y.4 ∙ x.4)
