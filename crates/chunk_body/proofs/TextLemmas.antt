-- What the machine says of whole texts.
use Rattle.std.proofs.Common.{◌≡◌, ℕ, zero, suc, ◌+◌, ◌-◌, ◌<◌, ◌≤◌, ◌⊎◌, inl, inr, IsTrue, List, [], ◌∷◌, ◌++◌, length, take, drop, refl, ap, ◌∙◌, sym, subst, arith, append_assoc, length-append}
use Rattle.std.proofs.lemmas.List.{append-nil, take-append-drop, take_all, take-append-le}
use Rattle.std.proofs.lemmas.Bool.{cases_lt}
use Rattle.std.proofs.Math.Seq.{take-append_seam, take-append-add}
use Rattle.std.specs.List.{All}
use Rattle.chunk_body.specs.declared.phase.Phase.{Phase}
use Rattle.chunk_body.specs.declared.phase.Phase.TheVariants.{Digits, Extension, SizeLf, Data, DataCr, DataLf, TrailerStart, Trailer, TrailerLf, LastLf, Ended, Broken}
use Rattle.chunk_body.specs.Body.{print_body}
use Rattle.chunk_body.specs.Text.{BodyText, IsLive, HasEnded, IsOpen, IsBadAt}
use Rattle.chunk_body.specs.Machine.{step, is_within}
use Rattle.chunk_body.proofs.Machines.{start, run, plain, Goes, run-append}
use Rattle.chunk_body.proofs.StepLemmas.{step_ended, step_broken}
use Rattle.chunk_body.proofs.PrintLemmas.{goes_body}
use Rattle.chunk_body.proofs.WithinLemmas.{start_within, step_within}
use Rattle.chunk_body.proofs.Rests.{Rest}
use Rattle.chunk_body.proofs.RestLemmas.{from_start, back_all, has_rest}

-- ---- lists

-- a front of two lists joined that is longer than the first
take_more_of : (s t : List ℕ) (k : ℕ) → length s ≤ k → take k (s ++ t) ≡ s ++ take (k - length s) t
take_more_of s t k long =
    let more : k ≡ length s + (k - length s) = omega arith in
    ap (λ (n : ℕ). take n (s ++ t)) more ∙ take-append-add s t (k - length s)

-- a front of a front
take_shorter : (j k : ℕ) (t : List ℕ) → j ≤ k → take j (take k t) ≡ take j t
take_shorter zero k t less = refl
take_shorter (suc j) zero t less = absurd (omega arith)
take_shorter (suc j) (suc k) [] less = refl
take_shorter (suc j) (suc k) (x ∷ t) less =
    ap (λ (s : List ℕ). x ∷ s) (take_shorter j k t (omega arith))

-- ---- the machine over a whole text

run_within : (q : Phase) (t : List ℕ) → IsTrue (is_within q) → IsTrue (is_within (run q t))
run_within q [] is = is
run_within q (b ∷ t) is = run_within (step q b) t (step_within q b is)

-- a body's text leads to the end, and gives its data
pub body_goes : (t x : List ℕ) → BodyText t x → Goes start t Ended x
body_goes t x b =
    subst (λ (s : List ℕ). Goes start s Ended x) (sym b.2)
    (subst (λ (y : List ℕ). Goes start (print_body b.0) Ended y) (sym b.3) (goes_body b.0 b.1))

-- a text that leads to the end is a body's
pub ended_body : (t : List ℕ) → run start t ≡ Ended → BodyText t (plain start t)
ended_body t ends =
    let rest : Rest (run start t) [] [] =
    subst (λ (q : Phase). Rest q [] []) (sym ends) (refl, refl)
    in
    let body = from_start (t ++ []) (plain start t ++ []) (back_all start t [] [] start_within rest) in
    subst (λ (x : List ℕ). BodyText t x) (append-nil (plain start t))
    (subst (λ (s : List ℕ). BodyText s (plain start t ++ [])) (append-nil t) body)

-- what is broken stays so
pub run_broken : (t : List ℕ) → run Broken t ≡ Broken
run_broken [] = refl
run_broken (b ∷ t) = ap (λ (q : Phase). run q t) (step_broken b) ∙ run_broken t

-- nothing comes behind the end
pub run_ended : (b : ℕ) (t : List ℕ) → run Ended (b ∷ t) ≡ Broken
run_ended b t = ap (λ (q : Phase). run q t) (step_ended b) ∙ run_broken t

pub plain_broken : (t : List ℕ) → plain Broken t ≡ []
plain_broken [] = refl
plain_broken (b ∷ t) = ap (λ (q : Phase). plain q t) (step_broken b) ∙ plain_broken t

pub plain_ended : (t : List ℕ) → plain Ended t ≡ []
plain_ended [] = refl
plain_ended (b ∷ t) = ap (λ (q : Phase). plain q t) (step_ended b) ∙ plain_broken t

ended≢broken : Ended ≡ Broken → ⊥
ended≢broken same = absurd cc

-- a live text does not lead to the broken phase
pub live_fine : (t : List ℕ) → IsLive t → run start t ≡ Broken → ⊥
live_fine t live broken =
    let goes = body_goes (t ++ live.0) live.1 live.2 in
    ended≢broken (
    sym goes.ends
    ∙ run-append start t live.0
    ∙ ap (λ (q : Phase). run q live.0) broken
    ∙ run_broken live.0
    )

-- every other text has a continuation of bytes that is a body
fine_bytes : (t : List ℕ) → (run start t ≡ Broken → ⊥)
    → (behind x : List ℕ) × All (λ b. b < 256) behind × BodyText (t ++ behind) x
fine_bytes t fine =
    let h = has_rest (run start t) (run_within start t start_within) fine in (
      h.text,
      plain start t ++ h.content,
      h.bytes,
      from_start (t ++ h.text) (plain start t ++ h.content) (back_all start t h.text h.content start_within h.rest),
    )

-- so it is live
pub fine_live : (t : List ℕ) → (run start t ≡ Broken → ⊥) → IsLive t
fine_live t fine =
    let h = fine_bytes t fine in
    (h.0, h.1, h.3)

-- what is live has a continuation of bytes
pub live_by_bytes : (t : List ℕ) → IsLive t
    → (behind x : List ℕ) × All (λ b. b < 256) behind × BodyText (t ++ behind) x
live_by_bytes t live = fine_bytes t (live_fine t live)

-- ---- cases

broken_or_not : (q : Phase) → (q ≡ Broken) ⊎ (q ≡ Broken → ⊥)
broken_or_not Broken = inl refl
broken_or_not Ended = inr (λ e. absurd cc)
broken_or_not (Digits n v) = inr (λ e. absurd cc)
broken_or_not (Extension n v) = inr (λ e. absurd cc)
broken_or_not (SizeLf v) = inr (λ e. absurd cc)
broken_or_not (Data n) = inr (λ e. absurd cc)
broken_or_not DataCr = inr (λ e. absurd cc)
broken_or_not DataLf = inr (λ e. absurd cc)
broken_or_not (TrailerStart n) = inr (λ e. absurd cc)
broken_or_not (Trailer n) = inr (λ e. absurd cc)
broken_or_not (TrailerLf n) = inr (λ e. absurd cc)
broken_or_not LastLf = inr (λ e. absurd cc)

-- a text is live, or leads to the broken phase
pub live_or_broken : (t : List ℕ) → IsLive t ⊎ (run start t ≡ Broken)
live_or_broken t = elim (broken_or_not (run start t)) [
  | inl broken ↦ inr broken
  | inr fine ↦ inl (fine_live t fine)
]

-- ---- fronts

-- a front of a live text is live
pub live_front : (s t : List ℕ) → IsLive (s ++ t) → IsLive s
live_front s t live =
    (t ++ live.0, live.1, subst (λ (u : List ℕ). BodyText u live.1) (append_assoc s t live.0) live.2)

-- an empty text is live
pub live_nothing : IsLive []
live_nothing = fine_live [] (λ e. absurd cc)

-- a body is live
pub body_live : (t x : List ℕ) → BodyText t x → IsLive t
body_live t x b = ([], x, subst (λ (s : List ℕ). BodyText s x) (sym (append-nil t)) b)

-- behind a body nothing is live
pub dead_behind : (front : List ℕ) (b : ℕ) (more x : List ℕ) → BodyText front x
    → IsLive (front ++ b ∷ more) → ⊥
dead_behind front b more x body live =
    live_fine (front ++ b ∷ more) live (
    run-append start front (b ∷ more)
    ∙ ap (λ (q : Phase). run q (b ∷ more)) (body_goes front x body).ends
    ∙ run_ended b more
    )

-- what has ended and is live is a body
pub ended_live : (t : List ℕ) → HasEnded t → IsLive t → (x : List ℕ) × BodyText t x
ended_live t ended live = whole ended.0 ended.1 ended.2 ended.3 ended.4
  where
    whole : (front behind x : List ℕ) → t ≡ front ++ behind → BodyText front x
        → (y : List ℕ) × BodyText t y
    whole front [] x split body =
        (x, subst (λ (s : List ℕ). BodyText s x) (sym (split ∙ append-nil front)) body)
    whole front (b ∷ more) x split body =
        absurd (dead_behind front b more x body (subst (λ (s : List ℕ). IsLive s) split live))

-- what goes on behind what has ended has ended
pub ended_on : (t u : List ℕ) → HasEnded t → HasEnded (t ++ u)
ended_on t u ended = (
  ended.0,
  ended.1 ++ u,
  ended.2,
  ap (λ (s : List ℕ). s ++ u) ended.3 ∙ append_assoc ended.0 ended.1 u,
  ended.4,
)

-- ---- which of the three a text is

-- a text has ended where the machine came to the end on it
pub ended_at : (t : List ℕ) → run start t ≡ Ended → HasEnded t
ended_at t ends = (t, [], plain start t, sym (append-nil t), ended_body t ends)

-- a text is open where the machine is neither at the end nor broken
pub open_at : (t : List ℕ) → (run start t ≡ Broken → ⊥) → (run start t ≡ Ended → ⊥) → IsOpen t
open_at t fine going =
    let live = fine_live t fine in
    record {
      live = live;
      going = λ ended. going (body_goes t (ended_live t ended live).0 (ended_live t ended live).1).ends;
    }

-- a text is no longer live behind a fault
pub bad_dead : (t : List ℕ) (k : ℕ) → IsBadAt t k → IsLive t → ⊥
bad_dead t k bad live =
    bad.broken (live_front (take (k + 1) t) (drop (k + 1) t) (subst (λ (s : List ℕ). IsLive s)
    (sym (take-append-drop (k + 1) t)) live))

-- a body does not end before or behind a fault
pub bad_not_ended : (t : List ℕ) (k : ℕ) → IsBadAt t k → HasEnded t → ⊥
bad_not_ended t k bad ended =
    let front = ended.0 in
    let behind = ended.1 in
    let x = ended.2 in
    let split = ended.3 in
    let body = ended.4 in
    elim (cases_lt k (length front)) [
      | inl before ↦
          let same : take (k + 1) t ≡ take (k + 1) front =
          ap (λ (s : List ℕ). take (k + 1) s) split
          ∙ take-append-le (k + 1) front behind (omega arith)
          in
          let live : IsLive (take (k + 1) front) =
          live_front (take (k + 1) front) (drop (k + 1) front)
          (subst (λ (s : List ℕ). IsLive s) (sym (take-append-drop (k + 1) front)) (body_live front x body))
          in
          bad.broken (subst (λ (s : List ℕ). IsLive s) (sym same) live)
      | inr after ↦
          bad.before.going (
            front,
            take (k - length front) behind,
            x,
            ap (λ (s : List ℕ). take k s) split ∙ take_more_of front behind k after,
            body,
          )
    ]

-- the same fault
pub bad_once : (t : List ℕ) (j k : ℕ) → IsBadAt t j → IsBadAt t k → j < k → ⊥
bad_once t j k first second less =
    let live : IsLive (take (j + 1) (take k t)) =
    live_front (take (j + 1) (take k t)) (drop (j + 1) (take k t))
    (subst (λ (s : List ℕ). IsLive s) (sym (take-append-drop (j + 1) (take k t))) second.before.live)
    in
    first.broken (subst (λ (s : List ℕ). IsLive s) (take_shorter (j + 1) k t (omega arith)) live)

-- a fault stays where it is
pub bad_on : (t u : List ℕ) (k : ℕ) → IsBadAt t k → IsBadAt (t ++ u) k
bad_on t u k bad =
    let before : take k (t ++ u) ≡ take k t = take-append-le k t u (omega (arith, bad.within)) in
    let with : take (k + 1) (t ++ u) ≡ take (k + 1) t =
    take-append-le (k + 1) t u (omega (arith, bad.within))
    in
    record {
      within = omega (arith, bad.within, length-append t u);
      before = subst (λ (s : List ℕ). IsOpen s) (sym before) bad.before;
      broken = λ live. bad.broken (subst (λ (s : List ℕ). IsLive s) with live);
    }

-- an open text has its fault at the byte behind it that breaks it
pub bad_at : (t : List ℕ) (b : ℕ) → IsOpen t → run start (t ++ b ∷ []) ≡ Broken
    → IsBadAt (t ++ b ∷ []) (length t)
bad_at t b is broken = record {
  within = omega (arith, length-append t (b ∷ []));
  before = subst (λ (s : List ℕ). IsOpen s) (sym (take-append_seam t (b ∷ []))) is;
  broken = λ live. live_fine (t ++ b ∷ []) (subst (λ (s : List ℕ). IsLive s) whole live) broken;
}
  where
    whole : take (length t + 1) (t ++ b ∷ []) ≡ t ++ b ∷ []
    whole = take_all (length t + 1) (t ++ b ∷ []) (omega (arith, length-append t (b ∷ [])))
