-- The data that the machine gives is the plain data of the text.
use Rattle.std.proofs.Common.{◌≡◌, ℕ, ◌-◌, inl, inr, ltb, List, [], ◌∷◌, ◌++◌, length, take, refl, ap, ap₂, ◌∙◌, sym, subst, append_assoc}
use Rattle.std.proofs.lemmas.List.{append-nil}
use Rattle.std.proofs.lemmas.Bool.{cond_both}
use Rattle.std.proofs.Math.Seq.{take-append_seam}
use Rattle.chunk_body.specs.declared.phase.Phase.{Phase}
use Rattle.chunk_body.specs.declared.phase.Phase.TheVariants.{Digits, Extension, SizeLf, Data, DataCr, DataLf, TrailerStart, Trailer, TrailerLf, LastLf, Ended, Broken}
use Rattle.chunk_body.specs.Body.{Body, print_body, IsBody, data_within}
use Rattle.chunk_body.specs.Text.{BodyText, IsLive, IsPlain}
use Rattle.chunk_body.specs.Machine.{step, in_data}
use Rattle.chunk_body.proofs.Machines.{start, run, given, plain, run-append, plain-append}
use Rattle.chunk_body.proofs.PrintLemmas.{plain_body}
use Rattle.chunk_body.proofs.TextLemmas.{body_goes, live_fine, live_or_broken, live_nothing, plain_broken}

-- a byte of a chunk neither breaks a body nor ends it
pub data_goes_on : (n b : ℕ) → (step (Data n) b ≡ Broken → ⊥) × (step (Data n) b ≡ Ended → ⊥)
unfolding step in_data
data_goes_on n b =
    cond_both (ltb 1 n) (Data (n - 1)) DataCr (λ (p : Phase). (p ≡ Broken → ⊥) × (p ≡ Ended → ⊥))
    (λ _. ((λ e. absurd cc), (λ e. absurd cc)))
    (λ _. ((λ e. absurd cc), (λ e. absurd cc)))

-- the byte that breaks a body is no data
pub given_broken : (q : Phase) (b : ℕ) → step q b ≡ Broken → given q b ≡ []
given_broken (Data n) b broken = absurd ((data_goes_on n b).0 broken)
given_broken (Digits n v) b broken = refl
given_broken (Extension n v) b broken = refl
given_broken (SizeLf v) b broken = refl
given_broken DataCr b broken = refl
given_broken DataLf b broken = refl
given_broken (TrailerStart n) b broken = refl
given_broken (Trailer n) b broken = refl
given_broken (TrailerLf n) b broken = refl
given_broken LastLf b broken = refl
given_broken Ended b broken = refl
given_broken Broken b broken = refl

-- nor is the byte that ends it
pub given_ended : (q : Phase) (b : ℕ) → step q b ≡ Ended → given q b ≡ []
given_ended (Data n) b ends = absurd ((data_goes_on n b).1 ends)
given_ended (Digits n v) b ends = refl
given_ended (Extension n v) b ends = refl
given_ended (SizeLf v) b ends = refl
given_ended DataCr b ends = refl
given_ended DataLf b ends = refl
given_ended (TrailerStart n) b ends = refl
given_ended (Trailer n) b ends = refl
given_ended (TrailerLf n) b ends = refl
given_ended LastLf b ends = refl
given_ended Ended b ends = refl
given_ended Broken b ends = refl

-- the data of a front of a body's text
plain_front : (front behind : List ℕ) (body : Body) → IsBody body
    → front ++ behind ≡ print_body body
    → plain start front ≡ data_within (length front) body.chunks
plain_front front behind body is text =
    ap (λ (t : List ℕ). plain start t) (sym (take-append_seam front behind)
    ∙ ap (λ (t : List ℕ). take (length front) t) text)
    ∙ plain_body (length front) body is

-- the phase after one more byte
run_more : (s : List ℕ) (b : ℕ) → run start (s ++ b ∷ []) ≡ step (run start s) b
run_more s b = run-append start s (b ∷ [])

-- no data comes from the byte that breaks it on
plain_stops : (front : List ℕ) (b : ℕ) (more : List ℕ) → run start (front ++ b ∷ []) ≡ Broken
    → plain start (front ++ b ∷ more) ≡ plain start front
plain_stops front b more broken =
    let q = run start front in
    let next : step q b ≡ Broken = sym (run_more front b) ∙ broken in
    let none : plain q (b ∷ more) ≡ [] =
    ap₂ (λ (xs ys : List ℕ). xs ++ ys) (given_broken q b next) (ap (λ (p : Phase). plain p more) next
    ∙ plain_broken more)
    in
    plain-append start front (b ∷ more)
    ∙ ap (λ (xs : List ℕ). plain start front ++ xs) none
    ∙ append-nil (plain start front)

-- from a live front on, the data that the machine gives is the plain data
plain_from : (s t : List ℕ) → IsLive s → IsPlain (s ++ t) (plain start (s ++ t))
plain_from s [] live = record {
  front = s;
  rest = [];
  split = refl;
  live = live;
  longest = λ byte more same. absurd cc;
  holds = λ body behind is text. ap (λ (u : List ℕ). plain start u) (append-nil s) ∙ plain_front s behind body is text;
}
plain_from s (b ∷ t) live = elim (live_or_broken (s ++ b ∷ [])) [
  | inl longer ↦
      subst (λ (u : List ℕ). IsPlain u (plain start u)) (append_assoc s (b ∷ []) t)
      (plain_from (s ++ b ∷ []) t longer)
  | inr broken ↦ record {
    front = s;
    rest = b ∷ t;
    split = refl;
    live = live;
    longest = λ byte more same longer. live_fine (s ++ byte ∷ []) longer (
        ap (λ (c : ℕ). run start (s ++ c ∷ [])) (head_same byte b more t same) ∙ broken
        );
    holds = λ body behind is text. plain_stops s b t broken ∙ plain_front s behind body is text;
  }
]
  where
    head_same : (x y : ℕ) (xs ys : List ℕ) → y ∷ ys ≡ x ∷ xs → x ≡ y
    head_same x y xs ys same = cc

-- the data that the machine gives is the plain data
pub plain_is : (t : List ℕ) → IsPlain t (plain start t)
plain_is t = plain_from [] t live_nothing

-- and there is no other
pub plain_only : (t x : List ℕ) → IsPlain t x → x ≡ plain start t
plain_only t x is =
    let b = is.live.2.0 in
    is.holds b is.live.0 is.live.2.1 is.live.2.2
    ∙ sym (plain_front is.front is.live.0 b is.live.2.1 is.live.2.2)
    ∙ sym (rest_gives is.rest is.longest)
    ∙ ap (λ (u : List ℕ). plain start u) (sym is.split)
  where
    rest_gives : (rest : List ℕ)
        → ((byte : ℕ) (more : List ℕ) → rest ≡ byte ∷ more → IsLive (is.front ++ byte ∷ []) → ⊥)
        → plain start (is.front ++ rest) ≡ plain start is.front
    rest_gives [] longest = ap (λ (u : List ℕ). plain start u) (append-nil is.front)
    rest_gives (b ∷ more) longest = elim (live_or_broken (is.front ++ b ∷ [])) [
      | inl longer ↦ absurd (longest b more refl longer)
      | inr broken ↦ plain_stops is.front b more broken
    ]

-- the data of a whole body is its plain data
pub plain_whole : (t x : List ℕ) → BodyText t x → IsPlain t x
plain_whole t x body = subst (λ (y : List ℕ). IsPlain t y) (body_goes t x body).gives (plain_is t)

-- a text holds one data
pub one_data : (t x y : List ℕ) → BodyText t x → BodyText t y → x ≡ y
one_data t x y first second = sym (body_goes t x first).gives ∙ (body_goes t y second).gives
