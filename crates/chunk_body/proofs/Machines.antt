-- The machine over a whole list: the phase that it comes to, and the data that it gives.
use Rattle.std.proofs.Common.{◌≡◌, ℕ, ◌-◌, ◌+◌, inl, inr, List, [], ◌∷◌, ◌++◌, length, take, drop, refl, ap, ◌∙◌, sym, arith, append_assoc}
use Rattle.std.specs.List.{fold}
use Rattle.std.proofs.lemmas.List.{take-append-drop, take_all, take-append-le, append-nil}
use Rattle.std.proofs.lemmas.List.Sums.{fold-append}
use Rattle.std.proofs.lemmas.Bool.{cases_lt}
use Rattle.std.proofs.Math.Seq.{take-append-add}
use Rattle.chunk_body.specs.declared.phase.Phase.{Phase}
use Rattle.chunk_body.specs.declared.phase.Phase.TheVariants.{Digits, Data}
use Rattle.chunk_body.specs.Machine.{step}

-- before the first byte
abbrev pub start : Phase
start = Digits 0 0

-- the phase after these bytes
abbrev pub run : Phase → List ℕ → Phase
run q t = fold step q t

-- the data byte, where the next byte is one
abbrev pub given : Phase → ℕ → List ℕ
given (Data left) byte = byte ∷ []
given _ byte = []

-- the data among these bytes
abbrev pub plain : Phase → List ℕ → List ℕ
plain q [] = []
plain q (byte ∷ t) = given q byte ++ plain (step q byte) t

-- from one phase these bytes lead to another, and give this data
pub record Goes (q : Phase) (t : List ℕ) (p : Phase) (x : List ℕ) : Type 0 where
  pub ends : run q t ≡ p
  pub gives : plain q t ≡ x

pub run-append : (q : Phase) (s t : List ℕ) → run q (s ++ t) ≡ run (run q s) t
run-append q s t = fold-append step q s t

pub plain-append : (q : Phase) (s t : List ℕ) → plain q (s ++ t) ≡ plain q s ++ plain (run q s) t
plain-append q [] t = refl
plain-append q (byte ∷ s) t =
    ap (λ (ys : List ℕ). given q byte ++ ys) (plain-append (step q byte) s t)
    ∙ sym (append_assoc (given q byte) (plain (step q byte) s) (plain (run (step q byte) s) t))

pub goes_append : (q p r : Phase) (s t x y : List ℕ) → Goes q s p x → Goes p t r y
    → Goes q (s ++ t) r (x ++ y)
goes_append q p r s t x y first second = record {
  ends = run-append q s t ∙ ap (λ (m : Phase). run m t) first.ends ∙ second.ends;
  gives = plain-append q s t
      ∙ ap (λ (ys : List ℕ). ys ++ plain (run q s) t) first.gives
      ∙ ap (λ (m : Phase). x ++ plain m t) first.ends
      ∙ ap (λ (ys : List ℕ). x ++ ys) second.gives;
}

-- one byte, and then others
pub goes_cons : (q p r : Phase) (byte : ℕ) (t y : List ℕ) → step q byte ≡ p → Goes p t r y
    → Goes q (byte ∷ t) r (given q byte ++ y)
goes_cons q p r byte t y one others = record {
  ends = ap (λ (m : Phase). run m t) one ∙ others.ends;
  gives = ap (λ (m : Phase). given q byte ++ plain m t) one ∙ ap (λ (ys : List ℕ). given q byte ++ ys) others.gives;
}

nil_left : (xs ys : List ℕ) → xs ++ ys ≡ [] → xs ≡ []
nil_left [] ys none = refl
nil_left (x ∷ xs) ys none = absurd cc

-- where all of it gives nothing, no front of it gives anything
pub quiet : (q : Phase) (t : List ℕ) (k : ℕ) → plain q t ≡ [] → plain q (take k t) ≡ []
quiet q t k none =
    nil_left (plain q (take k t)) (plain (run q (take k t)) (drop k t)) (
    sym (plain-append q (take k t) (drop k t))
    ∙ ap (λ (s : List ℕ). plain q s) (take-append-drop k t)
    ∙ none
    )

-- the data of a front of two lists joined
pub plain-take : (q : Phase) (k : ℕ) (s t : List ℕ)
    → plain q (take k (s ++ t)) ≡ plain q (take k s) ++ plain (run q s) (take (k - length s) t)
plain-take q k s t = elim (cases_lt k (length s)) [
  | inl short ↦
      let none : k - length s ≡ 0 = omega arith in
      ap (λ (u : List ℕ). plain q u) (take-append-le k s t (omega arith))
      ∙ sym (append-nil (plain q (take k s)))
      ∙ ap (λ (n : ℕ). plain q (take k s) ++ plain (run q s) (take n t)) (sym none)
  | inr long ↦
      let more : k ≡ length s + (k - length s) = omega arith in
      let all : take k (s ++ t) ≡ s ++ take (k - length s) t =
      ap (λ (n : ℕ). take n (s ++ t)) more ∙ take-append-add s t (k - length s)
      in
      ap (λ (u : List ℕ). plain q u) all
      ∙ plain-append q s (take (k - length s) t)
      ∙ ap (λ (u : List ℕ). plain q u ++ plain (run q s) (take (k - length s) t)) (sym (take_all k s long))
]
