-- Laws of histories: one caller's calls, legality, and what entries of others leave as it was.
use Rattle.std.proofs.Common.{◌≡◌, ◌≢◌, ℕ, ◌⊎◌, inl, inr, ⊎_elim, Bool, true, false, IsTrue, cond, List, [], ◌∷◌, ◌++◌, refl, sym, ◌∙◌, ap, subst, eqb, append_assoc}
use Rattle.std.proofs.lemmas.Bool.{eqb-false, ne_eqb}
use Rattle.std.proofs.lemmas.List.{append-nil}
use Rattle.turn_log.specs.History.{History, IsLegal, IsLegalAfter, own, entries_of, GoesOn}

-- the calls of one caller

pub own-append : {C : Type 0} (me : ℕ) (a b : History C) → own me (a ++ b) ≡ own me a ++ own me b
own-append me [] b = refl
own-append me (e ∷ a) b =
    let rest = own-append me a b in
    elim (eqb e.0 me) as (λ t. cond t (e.1 ∷ own me (a ++ b)) (own me (a ++ b))
    ≡ cond t (e.1 ∷ own me a) (own me a) ++ own me b) [
      | true ↦ ap (λ calls. e.1 ∷ calls) rest
      | false ↦ rest
    ]

pub own_other : {C : Type 0} (me by : ℕ) (call : C) → by ≢ me → own me ((by, call) ∷ []) ≡ []
own_other me by call other = ap (λ t. cond t (call ∷ []) []) (ne_eqb by me other)

-- another caller's entries hold no call of this one
pub own_else : {C : Type 0} (me by : ℕ) (calls : List C) → by ≢ me → own me (entries_of by calls) ≡ []
own_else me by [] other = refl
own_else me by (call ∷ calls) other =
    ap (λ t. cond t (call ∷ own me (entries_of by calls)) (own me (entries_of by calls)))
    (ne_eqb by me other)
    ∙ own_else me by calls other

-- who has no call in a list made neither its first entry nor any later one
pub own_none : {C : Type 0} (me : ℕ) (e : ℕ × C) (h : History C) → own me (e ∷ h) ≡ [] → (e.0 ≢ me) × (own me h ≡ [])
own_none me e h none =
    let at = elim (eqb e.0 me) as (λ t. eqb e.0 me ≡ t → cond t (e.1 ∷ own me h) (own me h) ≡ []
    → (e.0 ≢ me) × (own me h ≡ [])) [
      | true ↦ λ is listed. absurd cc
      | false ↦ λ is listed. (eqb-false e.0 me is, listed)
    ]
    in at refl none

-- a history that goes on without one caller

pub goes_both : {C : Type 0} (me : ℕ) (a b c : History C) → GoesOn me a b → GoesOn me b c → GoesOn me a c
goes_both me a b c x y = (
  x.0 ++ y.0,
  y.1 ∙ ap (λ h. h ++ y.0) x.1 ∙ append_assoc a x.0 y.0,
  own-append me x.0 y.0 ∙ ap (λ calls. calls ++ own me y.0) x.2 ∙ y.2,
)

-- legality

-- an entry of a history with one more at its end is an earlier one, or that one
pub last_or_before : {X : Type 0} (h : List X) (e : X) (before : List X) (d : X) (after : List X)
    → h ++ e ∷ [] ≡ before ++ d ∷ after
    → ((h ≡ before) × (e ≡ d)) ⊎ ((rest : List X) × (h ≡ before ++ d ∷ rest))
last_or_before [] e [] d after same = inl (refl, cc)
last_or_before [] e (b ∷ []) d after same = absurd cc
last_or_before [] e (b ∷ c ∷ before) d after same = absurd cc
last_or_before (x ∷ h) e [] d after same = inr (h, cc)
last_or_before (x ∷ h) e (b ∷ before) d after same =
    let tails : h ++ e ∷ [] ≡ before ++ d ∷ after = cc in
    let heads : x ≡ b = cc in
    ⊎_elim
    (λ last. inl (cc, last.1))
    (λ found. inr (found.0, cc))
    (last_or_before h e before d after tails)

pub legal_none : {C : Type 0} (fits : History C → ℕ → C → Bool) → IsLegal fits []
legal_none fits [] by call after same = absurd cc
legal_none fits (e ∷ before) by call after same = absurd cc

pub legal_snoc : {C : Type 0} (fits : History C → ℕ → C → Bool) (h : History C) (me : ℕ) (call : C)
    → IsLegal fits h → IsTrue (fits h me call) → IsLegal fits (h ++ (me, call) ∷ [])
legal_snoc fits h me call legal fitting before by other after same =
    ⊎_elim
    (λ last. subst (λ b. IsTrue (fits b by other)) last.0
    (subst (λ e. IsTrue (fits h e.0 e.1)) last.1 fitting))
    (λ found. legal before by other found.0 found.1)
    (last_or_before h (me, call) before (by, other) after same)

-- the beginning of a legal history is legal
pub legal_front : {C : Type 0} (fits : History C → ℕ → C → Bool) (h rest : History C)
    → IsLegal fits (h ++ rest) → IsLegal fits h
legal_front fits h rest legal before by call after same =
    legal before by call (after ++ rest)
    (ap (λ l. l ++ rest) same ∙ append_assoc before ((by, call) ∷ after) rest)

-- what follows in a legal history fits what stands before it
pub legal_after : {C : Type 0} (fits : History C → ℕ → C → Bool) (h more : History C)
    → IsLegal fits (h ++ more) → IsLegalAfter fits h more
legal_after fits h more legal before by call after same =
    legal (h ++ before) by call after
    (ap (λ l. h ++ l) same ∙ sym (append_assoc h before ((by, call) ∷ after)))

pub first_fits : {C : Type 0} (fits : History C → ℕ → C → Bool) (h : History C) (e : ℕ × C) (more : History C)
    → IsLegalAfter fits h (e ∷ more) → IsTrue (fits h e.0 e.1)
first_fits fits h e more legal =
    subst (λ l. IsTrue (fits l e.0 e.1)) (append-nil h) (legal [] e.0 e.1 more refl)

pub rest_fits : {C : Type 0} (fits : History C → ℕ → C → Bool) (h : History C) (e : ℕ × C) (more : History C)
    → IsLegalAfter fits h (e ∷ more) → IsLegalAfter fits (h ++ e ∷ []) more
rest_fits fits h e more legal before by call after same =
    subst (λ l. IsTrue (fits l by call)) (sym (append_assoc h (e ∷ []) before))
    (legal (e ∷ before) by call after (ap (λ l. e ∷ l) same))

-- a fitting call leaves a history legal, where history and shape are known by equations
pub legal_next : {C S : Type 0} (fits : S → History C → ℕ → C → Bool) (s t : S) (h now : History C) (me : ℕ) (call : C)
    → t ≡ s → now ≡ h ++ (me, call) ∷ [] → IsLegal (fits s) h → IsTrue (fits s h me call)
    → IsLegal (fits t) now
legal_next fits s t h now me call shape seen legal fitting =
    subst (λ l. IsLegal (fits t) l) (sym seen)
    (subst (λ z. IsLegal (fits z) (h ++ (me, call) ∷ [])) (sym shape)
    (legal_snoc (fits s) h me call legal fitting))

-- what entries of others leave as it was

module _ {C : Type 0} {fits : History C → ℕ → C → Bool} where
  -- a fact that each fitting entry of another caller keeps is kept by all of them
  pub kept_after : (me : ℕ) (holds : History C → Type 0)
      → ((h : History C) (by : ℕ) (other : C) → holds h → by ≢ me → IsTrue (fits h by other)
      → holds (h ++ (by, other) ∷ []))
      → (h more : History C) → holds h → IsLegalAfter fits h more → own me more ≡ [] → holds (h ++ more)
  kept_after me holds keeps h [] held legal none = subst holds (sym (append-nil h)) held
  kept_after me holds keeps h (e ∷ more) held legal none =
      let apart = own_none me e more none in
      let next = keeps h e.0 e.1 held apart.0 (first_fits fits h e more legal) in
      subst holds (append_assoc h (e ∷ []) more)
      (kept_after me holds keeps (h ++ e ∷ []) more next (rest_fits fits h e more legal) apart.1)

  -- the same in a legal history
  pub kept_on : (me : ℕ) (holds : History C → Type 0)
      → ((h : History C) (by : ℕ) (other : C) → holds h → by ≢ me → IsTrue (fits h by other)
      → holds (h ++ (by, other) ∷ []))
      → (h rest : History C) → holds h → IsLegal fits (h ++ rest) → own me rest ≡ [] → holds (h ++ rest)
  kept_on me holds keeps h rest held legal none =
      kept_after me holds keeps h rest held (legal_after fits h rest legal) none

  -- what fits also fits after fitting entries of others
  pub fits_after : ((h : History C) (me by : ℕ) (call other : C) → IsTrue (fits h me call) → by ≢ me
      → IsTrue (fits h by other) → IsTrue (fits (h ++ (by, other) ∷ []) me call))
      → (h more : History C) (me : ℕ) (call : C) → IsTrue (fits h me call) → IsLegalAfter fits h more → own me more ≡ []
      → IsTrue (fits (h ++ more) me call)
  fits_after still h more me call fitting legal none =
      kept_after me (λ l. IsTrue (fits l me call)) (λ l by other now apart fit. still l me by call other now apart fit)
      h more fitting legal none

  -- the same in a legal history
  pub fits_on : ((h : History C) (me by : ℕ) (call other : C) → IsTrue (fits h me call) → by ≢ me
      → IsTrue (fits h by other) → IsTrue (fits (h ++ (by, other) ∷ []) me call))
      → (h rest : History C) (me : ℕ) (call : C) → IsTrue (fits h me call) → IsLegal fits (h ++ rest) → own me rest ≡ []
      → IsTrue (fits (h ++ rest) me call)
  fits_on still h rest me call fitting legal none =
      fits_after still h rest me call fitting (legal_after fits h rest legal) none
