-- What one caller's calls added to a history, and what each was answered.
use Rattle.std.specs.Prelude.{◌≡◌, ℕ, ◌==◌, if◌then◌else◌, Bool, IsTrue, List, [], ◌∷◌, ◌++◌, map}
use Rattle.turn_log.specs.History.{History, entries_of}

-- one caller's calls among these entries, each with the answer at its own point, where
-- `before` stands before them all
abbrev pub told : {C A : Type 0}
    → (History C → ℕ → C → A) → ℕ → History C → History C → List (C × A)
told answer me before [] = []
told answer me before (e ∷ more) =
    if e.0 == me then (e.1, answer before me e.1) ∷ told answer me (before ++ e ∷ []) more
    else told answer me (before ++ e ∷ []) more

-- the calls without their answers
abbrev pub calls_in : {C A : Type 0} → List (C × A) → List C
calls_in pairs = map (λ p. p.0) pairs

-- The history went on, and these are all the calls that the caller made since, each with the
-- answer at its own point. Where the place is alone, nobody else called.
pub record Heard {C A : Type 0} (alone : Bool) (answer : History C → ℕ → C → A)
    (old now : History C) (me : ℕ) (pairs : List (C × A)) : Type 0 where
  -- the entries that were added, of any caller
  pub more : History C
  pub seen : now ≡ old ++ more
  pub mine : told answer me old more ≡ pairs
  pub nothing_else : IsTrue alone → more ≡ entries_of me (calls_in pairs)

-- The first of these calls were made and answered, and the caller made no other: what stands
-- where a refusal ended a run of calls.
pub record HeardFirst {C A : Type 0} (alone : Bool) (answer : History C → ℕ → C → A)
    (old now : History C) (me : ℕ) (calls : List C) : Type 0 where
  -- the calls that were made, with their answers
  pub pairs : List (C × A)
  -- the calls that were not made
  pub unmade : List C
  pub split : calls ≡ calls_in pairs ++ unmade
  pub heard : Heard alone answer old now me pairs
