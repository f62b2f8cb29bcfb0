-- What one turn tells.
use Rattle.std.specs.Prelude.{◌≡◌, ℕ, Bool, IsTrue, [], ◌∷◌, ◌++◌}
use base.Stored.{Gv}
use Rattle.turn_log.specs.History.{History, IsLegal, own}

-- A place is what it was, but for what it has seen and how worn it is: its object's shape, the
-- callers that it speaks for, whether it may lack memory, whether it is alone, and its home.
abbrev pub SamePlace : {P S : Type 0} → (P → S) → (P → ℕ → Bool) → (P → Bool) → (P → Bool)
    → (P → Gv) → P → P → Type 0
SamePlace shape speaks may_lack alone home old now =
    (shape now ≡ shape old) × (speaks now ≡ speaks old) × (may_lack now ≡ may_lack old)
    × (alone now ≡ alone old) × (home now ≡ home old)

-- A turn was taken: calls of others may have come first, and then came this call, which was
-- answered at that point of the history.
pub record Turned {C A R : Type 0} (alone : Bool) (fits : History C → ℕ → C → Bool)
    (answer : History C → ℕ → C → A) (filled : History C → ℕ → C → R → R)
    (old now : History C) (me : ℕ) (call : C) (reply : A) (before after : R) : Type 0 where
  -- what others called between the old history and this call
  pub others : History C
  pub none_of_mine : own me others ≡ []
  pub nothing_between : IsTrue alone → others ≡ []
  pub seen : now ≡ (old ++ others) ++ (me, call) ∷ []
  pub legal : IsLegal fits now
  pub answered : reply ≡ answer (old ++ others) me call
  pub room : after ≡ filled (old ++ others) me call before
