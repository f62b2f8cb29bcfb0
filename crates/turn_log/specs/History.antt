-- What was called of an object: who called what, in order.
use Rattle.std.specs.Prelude.{◌≡◌, ℕ, ◌==◌, if◌then◌else◌, Bool, IsTrue, List, [], ◌∷◌, ◌++◌, map}

-- the calls that were made, first to last, each with the number of its caller
abbrev pub History : Type 0 → Type 0
History C = List (ℕ × C)

-- each entry fits the entries before it
abbrev pub IsLegal : {C : Type 0} → (History C → ℕ → C → Bool) → History C → Type 0
IsLegal {C} fits h =
    (before : History C) (by : ℕ) (call : C) (after : History C)
    → h ≡ before ++ (by, call) ∷ after → IsTrue (fits before by call)

-- each of these entries fits the first history followed by the entries before it
abbrev pub IsLegalAfter : {C : Type 0}
    → (History C → ℕ → C → Bool) → History C → History C → Type 0
IsLegalAfter {C} fits h more =
    (before : History C) (by : ℕ) (call : C) (after : History C)
    → more ≡ before ++ (by, call) ∷ after → IsTrue (fits (h ++ before) by call)

-- the calls of one caller, in order
abbrev pub own : {C : Type 0} → ℕ → History C → List C
own me [] = []
own me (e ∷ h) = if e.0 == me then e.1 ∷ own me h else own me h

-- the entries of one caller's calls
abbrev pub entries_of : {C : Type 0} → ℕ → List C → History C
entries_of me calls = map (λ call. (me, call)) calls

-- the history went on, with no call of this caller
abbrev pub GoesOn : {C : Type 0} → ℕ → History C → History C → Type 0
GoesOn {C} me old now = (more : History C) × (now ≡ old ++ more) × (own me more ≡ [])
