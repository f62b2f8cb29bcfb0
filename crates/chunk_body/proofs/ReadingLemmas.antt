-- What a reading knows of the bytes read, and what its answers say of them.
use Rattle.std.proofs.Common.{◌≡◌, ℕ, ◌+◌, ◌≤◌, ◌↔◌, ◌⊎◌, inl, inr, Bool, true, false, ◌||◌, cond, IsTrue, List, [], ◌∷◌, ◌++◌, length, refl, ap, ap₂, ◌∙◌, sym, subst, arith, append_assoc, length-append}
use Rattle.std.specs.List.{fold}
use Rattle.std.proofs.lemmas.List.{append-nil}
use Rattle.std.proofs.lemmas.List.Sums.{fold-append}
use Rattle.std.proofs.lemmas.Bool.{cases_order, cond_both}
use Rattle.chunk_body.specs.declared.phase.Phase.{Phase}
use Rattle.chunk_body.specs.declared.phase.Phase.TheVariants.{Digits, Extension, SizeLf, Data, DataCr, DataLf, TrailerStart, Trailer, TrailerLf, LastLf, Ended, Broken}
use Rattle.chunk_body.specs.declared.dechunk.Step.{Step}
use Rattle.chunk_body.specs.declared.dechunk.Step.TheVariants.{More, Byte, Done, Bad}
use Rattle.chunk_body.specs.Text.{HasEnded, IsOpen, IsBadAt, IsPlain}
use Rattle.chunk_body.specs.Machine.{step, is_ended, is_broken, is_data, Reading, nothing_read, after, read}
use Rattle.chunk_body.specs.Answer.{answer, given_by, goes_on, given_from, plain_of}
use Rattle.chunk_body.proofs.Machines.{start, run, given, plain, run-append, plain-append}
use Rattle.chunk_body.proofs.StepLemmas.{step_broken}
use Rattle.chunk_body.proofs.TextLemmas.{body_goes, live_fine, live_or_broken, run_ended, ended_at, ended_on, open_at, bad_at, bad_on, bad_dead, bad_not_ended, bad_once}
use Rattle.chunk_body.proofs.PlainLemmas.{given_broken, given_ended, plain_is, plain_only}

-- the body goes on, and the reading has the machine's phase and the count of all bytes; or it has
-- ended; or it is broken, at the place that was counted
pub data Knows (t : List ℕ) (r : Reading) : Type 0 where
  in_body : IsOpen t → r.phase ≡ run start t → r.taken ≡ length t → Knows t r
  behind_body : r.phase ≡ Ended → HasEnded t → Knows t r
  behind_fault : r.phase ≡ Broken → IsBadAt t r.taken → Knows t r

-- what an answer says of all bytes so far
abbrev pub Answers : List ℕ → Step → Type 0
Answers t More = IsOpen t
Answers t (Byte b) = IsOpen t
Answers t Done = HasEnded t
Answers t (Bad place) = IsBadAt t place

-- ---- phases

-- the end, the broken phase, or another
data NextIs (p : Phase) : Type 0 where
  at_end : p ≡ Ended → NextIs p
  at_fault : p ≡ Broken → NextIs p
  within_body : is_ended p ≡ false → is_broken p ≡ false → (p ≡ Ended → ⊥) → (p ≡ Broken → ⊥)
      → NextIs p

next_is : (p : Phase) → NextIs p
next_is Ended = at_end refl
next_is Broken = at_fault refl
next_is (Digits n v) = within_body refl refl (λ e. absurd cc) (λ e. absurd cc)
next_is (Extension n v) = within_body refl refl (λ e. absurd cc) (λ e. absurd cc)
next_is (SizeLf v) = within_body refl refl (λ e. absurd cc) (λ e. absurd cc)
next_is (Data n) = within_body refl refl (λ e. absurd cc) (λ e. absurd cc)
next_is DataCr = within_body refl refl (λ e. absurd cc) (λ e. absurd cc)
next_is DataLf = within_body refl refl (λ e. absurd cc) (λ e. absurd cc)
next_is (TrailerStart n) = within_body refl refl (λ e. absurd cc) (λ e. absurd cc)
next_is (Trailer n) = within_body refl refl (λ e. absurd cc) (λ e. absurd cc)
next_is (TrailerLf n) = within_body refl refl (λ e. absurd cc) (λ e. absurd cc)
next_is LastLf = within_body refl refl (λ e. absurd cc) (λ e. absurd cc)

-- the phase of an open text is not the end
going_on : (t : List ℕ) → IsOpen t → is_ended (run start t) ≡ false
going_on t is = at (run start t) refl
  where
    at : (q : Phase) → run start t ≡ q → is_ended q ≡ false
    at q same = elim (next_is q) [
      | at_end ends ↦ absurd (is.going (ended_at t (same ∙ ends)))
      | at_fault broken ↦ ap is_ended broken
      | within_body first second third fourth ↦ first
    ]

-- ---- one byte

after_end : (n b : ℕ)
    → after record { phase = Ended; taken = n } b ≡ record { phase = Ended; taken = n }
unfolding after
after_end n b = refl

answer_end : (n b : ℕ) → answer record { phase = Ended; taken = n } b ≡ Done
unfolding answer
answer_end n b = refl

abbrev reading_of : Phase → ℕ → Reading
reading_of q n = record { phase = q; taken = n }

after_to : (q p : Phase) (n b : ℕ) → is_ended q ≡ false → step q b ≡ p → (over : Bool)
    → (is_ended p || is_broken p) ≡ over → after record { phase = q; taken = n } b ≡
    record { phase = p; taken = cond over n (n + 1) }
unfolding after
after_to q p n b open_phase next over is =
    rw (open_phase, next, is) refl

answer_to : (q p : Phase) (n b : ℕ) → is_ended q ≡ false → step q b ≡ p
    → answer record { phase = q; taken = n } b ≡ cond (is_ended p) Done
    (cond (is_broken p) (Bad n) (cond (is_data q) (Byte b) More))
unfolding answer
answer_to q p n b open_phase next = rw (open_phase, next) refl

-- what is known after one more byte, and what the answer says
pub record After (t : List ℕ) (r : Reading) (b : ℕ) : Type 0 where
  pub knows : Knows (t ++ b ∷ []) (after r b)
  pub answers : Answers (t ++ b ∷ []) (answer r b)
  pub gives : given_by (answer r b) ≡ given (run start t) b

-- the phase after one more byte
run_more : (t : List ℕ) (b : ℕ) → run start (t ++ b ∷ []) ≡ step (run start t) b
run_more t b = run-append start t (b ∷ [])

-- from an open text
after_open : (t : List ℕ) (r : Reading) (b : ℕ) → IsOpen t → r.phase ≡ run start t
    → r.taken ≡ length t → After t r b
after_open t r b is phase taken = elim (next_is (step r.phase b)) [
  | at_end ends ↦
      let now : after r b ≡ reading_of Ended r.taken =
      after_to r.phase Ended r.taken b open_phase ends true refl
      in
      let answered : answer r b ≡ Done = answer_to r.phase Ended r.taken b open_phase ends in
      let ended = ended_at (t ++ b ∷ []) (came Ended ends) in
      record {
        knows = subst (λ (s : Reading). Knows (t ++ b ∷ []) s) (sym now) (behind_body refl ended);
        answers = subst (λ (a : Step). Answers (t ++ b ∷ []) a) (sym answered) ended;
        gives = ap given_by answered ∙ sym (given_ended (run start t) b (from_phase Ended ends));
      }
  | at_fault faulty ↦
      let now : after r b ≡ reading_of Broken r.taken =
      after_to r.phase Broken r.taken b open_phase faulty true refl
      in
      let answered : answer r b ≡ Bad r.taken =
      answer_to r.phase Broken r.taken b open_phase faulty
      in
      let bad : IsBadAt (t ++ b ∷ []) r.taken =
      subst (λ (k : ℕ). IsBadAt (t ++ b ∷ []) k) (sym taken) (bad_at t b is (came Broken faulty))
      in
      record {
        knows = subst (λ (s : Reading). Knows (t ++ b ∷ []) s) (sym now) (behind_fault refl bad);
        answers = subst (λ (a : Step). Answers (t ++ b ∷ []) a) (sym answered) bad;
        gives = ap given_by answered ∙ sym (given_broken (run start t) b (from_phase Broken faulty));
      }
  | within_body not_end not_fault no_end no_fault ↦
      let p = step r.phase b in
      let now : after r b ≡ reading_of p (r.taken + 1) =
      after_to r.phase p r.taken b open_phase refl false (ap₂ ◌||◌ not_end not_fault)
      in
      let answered : answer r b ≡ cond (is_data r.phase) (Byte b) More =
      answer_to r.phase p r.taken b open_phase refl
      ∙ ap₂ (λ (x y : Bool). cond x Done (cond y (Bad r.taken) (cond (is_data r.phase) (Byte b) More))) not_end
      not_fault
      in
      let came_here : run start (t ++ b ∷ []) ≡ p = came p refl in
      let still : IsOpen (t ++ b ∷ []) =
      open_at (t ++ b ∷ []) (λ e. no_fault (sym came_here ∙ e)) (λ e. no_end (sym came_here ∙ e))
      in
      let counted : r.taken + 1 ≡ length (t ++ b ∷ []) = omega (arith, length-append t (b ∷ [])) in
      record {
        knows = subst (λ (s : Reading). Knows (t ++ b ∷ []) s) (sym now) (in_body still (sym came_here) counted);
        answers = subst (λ (a : Step). Answers (t ++ b ∷ []) a) (sym answered) (says r.phase still);
        gives = ap given_by answered ∙ data_given r.phase ∙ ap (λ (q : Phase). given q b) phase;
      }
]
  where
    open_phase : is_ended r.phase ≡ false
    open_phase = ap is_ended phase ∙ going_on t is

    from_phase : (p : Phase) → step r.phase b ≡ p → step (run start t) b ≡ p
    from_phase p next = ap (λ (q : Phase). step q b) (sym phase) ∙ next

    came : (p : Phase) → step r.phase b ≡ p → run start (t ++ b ∷ []) ≡ p
    came p next = run_more t b ∙ from_phase p next

    says : (q : Phase) → IsOpen (t ++ b ∷ [])
        → Answers (t ++ b ∷ []) (cond (is_data q) (Byte b) More)
    says q still = cond_both (is_data q) (Byte b) More (λ (a : Step). Answers (t ++ b ∷ []) a) (λ _. still) (λ _. still)

    data_given : (q : Phase) → given_by (cond (is_data q) (Byte b) More) ≡ given q b
    data_given (Data n) = refl
    data_given (Digits n v) = refl
    data_given (Extension n v) = refl
    data_given (SizeLf v) = refl
    data_given DataCr = refl
    data_given DataLf = refl
    data_given (TrailerStart n) = refl
    data_given (Trailer n) = refl
    data_given (TrailerLf n) = refl
    data_given LastLf = refl
    data_given Ended = refl
    data_given Broken = refl

-- no data comes from a phase behind the body
given_behind : (t : List ℕ) (b : ℕ) → HasEnded t → given (run start t) b ≡ []
given_behind t b ended =
    ap (λ (q : Phase). given q b) (
    ap (λ (s : List ℕ). run start s) ended.3
    ∙ run-append start ended.0 ended.1
    ∙ ap (λ (q : Phase). run q ended.1) (body_goes ended.0 ended.2 ended.4).ends
    )
    ∙ none ended.1
  where
    none : (behind : List ℕ) → given (run Ended behind) b ≡ []
    none [] = refl
    none (c ∷ more) = ap (λ (q : Phase). given q b) (run_ended c more)

-- nor from one behind a fault
given_fault : (t : List ℕ) (b k : ℕ) → IsBadAt t k → given (run start t) b ≡ []
given_fault t b k bad = elim (live_or_broken t) [
  | inl live ↦ absurd (bad_dead t k bad live)
  | inr faulty ↦ ap (λ (q : Phase). given q b) faulty
]

after_byte : (t : List ℕ) (r : Reading) (b : ℕ) → Knows t r → After t r b
after_byte t r b (in_body is phase taken) = after_open t r b is phase taken
after_byte t r b (behind_body phase ended) =
    let same : r ≡ reading_of Ended r.taken = ap (λ (q : Phase). reading_of q r.taken) phase in
    let now : after r b ≡ reading_of Ended r.taken =
    ap (λ (s : Reading). after s b) same ∙ after_end r.taken b
    in
    let answered : answer r b ≡ Done =
    ap (λ (s : Reading). answer s b) same ∙ answer_end r.taken b
    in
    let on = ended_on t (b ∷ []) ended in
    record {
      knows = subst (λ (s : Reading). Knows (t ++ b ∷ []) s) (sym now) (behind_body refl on);
      answers = subst (λ (a : Step). Answers (t ++ b ∷ []) a) (sym answered) on;
      gives = ap given_by answered ∙ sym (given_behind t b ended);
    }
after_byte t r b (behind_fault phase bad) =
    let open_phase : is_ended r.phase ≡ false = ap is_ended phase in
    let next : step r.phase b ≡ Broken = ap (λ (q : Phase). step q b) phase ∙ step_broken b in
    let now : after r b ≡ reading_of Broken r.taken =
    after_to r.phase Broken r.taken b open_phase next true refl
    in
    let answered : answer r b ≡ Bad r.taken = answer_to r.phase Broken r.taken b open_phase next in
    let on = bad_on t (b ∷ []) r.taken bad in
    record {
      knows = subst (λ (s : Reading). Knows (t ++ b ∷ []) s) (sym now) (behind_fault refl on);
      answers = subst (λ (a : Step). Answers (t ++ b ∷ []) a) (sym answered) on;
      gives = ap given_by answered ∙ sym (given_fault t b r.taken bad);
    }

-- ---- all bytes

knows_more : (t s : List ℕ) (r : Reading) → Knows t r → Knows (t ++ s) (fold after r s)
knows_more t [] r known = subst (λ (u : List ℕ). Knows u r) (sym (append-nil t)) known
knows_more t (b ∷ s) r known =
    subst (λ (u : List ℕ). Knows u (fold after (after r b) s)) (append_assoc t (b ∷ []) s)
    (knows_more (t ++ b ∷ []) s (after r b) (after_byte t r b known).knows)

-- what is read is known
pub known : (t : List ℕ) → Knows t (read t)
unfolding read
known t =
    knows_more [] t nothing_read (in_body (open_at [] (λ e. absurd cc) (λ e. absurd cc)) refl refl)

pub read_more : (t : List ℕ) (b : ℕ) → after (read t) b ≡ read (t ++ b ∷ [])
unfolding read
read_more t b = sym (fold-append after nothing_read t (b ∷ []))

-- at most one more byte is counted
pub taken_more : (r : Reading) (b : ℕ) → (after r b).taken ≤ r.taken + 1
unfolding after
taken_more r b =
    let p = step r.phase b in
    cond_both (is_ended r.phase) r (reading_of p (cond (is_ended p || is_broken p) r.taken (r.taken + 1)))
    (λ (s : Reading). s.taken ≤ r.taken + 1)
    (λ _. omega arith)
    (λ _. cond_both (is_ended p || is_broken p) r.taken (r.taken + 1) (λ (n : ℕ). n ≤ r.taken + 1) (λ _. omega arith)
    (λ _. omega arith))

-- what the answer to one more byte says
pub answered : (t : List ℕ) (b : ℕ) → Answers (t ++ b ∷ []) (answer (read t) b)
answered t b = (after_byte t (read t) b (known t)).answers

-- the data that it gives comes behind the plain data so far
pub plain_more : (t x : List ℕ) (b : ℕ) → IsPlain t x
    → IsPlain (t ++ b ∷ []) (x ++ given_by (answer (read t) b))
plain_more t x b is =
    let more : plain start (t ++ b ∷ []) ≡ x ++ given_by (answer (read t) b) =
    plain-append start t (b ∷ [])
    ∙ ap₂ (λ (xs ys : List ℕ). xs ++ ys) (sym (plain_only t x is))
    (append-nil (given (run start t) b) ∙ sym (after_byte t (read t) b (known t)).gives)
    in
    subst (λ (y : List ℕ). IsPlain (t ++ b ∷ []) y) more (plain_is (t ++ b ∷ []))

-- ---- each answer exactly

pub exactly_open : (t : List ℕ) (a : Step) → Answers t a → IsTrue (goes_on a) ↔ IsOpen t
exactly_open t More is = ((λ _. is), (λ _. refl))
exactly_open t (Byte b) is = ((λ _. is), (λ _. refl))
exactly_open t Done ended = ((λ e. absurd cc), (λ is. absurd (is.going ended)))
exactly_open t (Bad k) bad = ((λ e. absurd cc), (λ is. absurd (bad_dead t k bad is.live)))

pub exactly_done : (t : List ℕ) (a : Step) → Answers t a → (a ≡ Done) ↔ HasEnded t
exactly_done t More is = ((λ e. absurd cc), (λ ended. absurd (is.going ended)))
exactly_done t (Byte b) is = ((λ e. absurd cc), (λ ended. absurd (is.going ended)))
exactly_done t Done ended = ((λ _. ended), (λ _. refl))
exactly_done t (Bad k) bad = ((λ e. absurd cc), (λ ended. absurd (bad_not_ended t k bad ended)))

-- two faults of a text are one
pub one_fault : (t : List ℕ) (j k : ℕ) → IsBadAt t j → IsBadAt t k → j ≡ k
one_fault t j k first second = elim (cases_order j k) [
  | inl same ↦ same
  | inr different ↦ elim different [
    | inl less ↦ absurd (bad_once t j k first second less)
    | inr more ↦ absurd (bad_once t k j second first more)
  ]
]

pub exactly_bad : (t : List ℕ) (a : Step) (place : ℕ) → Answers t a
    → (a ≡ Bad place) ↔ IsBadAt t place
exactly_bad t More place is = ((λ e. absurd cc), (λ bad. absurd (bad_dead t place bad is.live)))
exactly_bad t (Byte b) place is = ((λ e. absurd cc), (λ bad. absurd (bad_dead t place bad is.live)))
exactly_bad t Done place ended =
    ((λ e. absurd cc), (λ bad. absurd (bad_not_ended t place bad ended)))
exactly_bad t (Bad k) place bad = (
  (λ e. subst (λ (j : ℕ). IsBadAt t j) (place_of k place e) bad),
  (λ other. ap Bad (one_fault t k place bad other)),
)
  where
    place_of : (j k : ℕ) → Bad j ≡ Bad k → j ≡ k
    place_of j k same = cc

-- ---- what a reading is, exactly

-- an open text is at neither end
open_phase_is : (t : List ℕ) → IsOpen t → (run start t ≡ Ended → ⊥) × (run start t ≡ Broken → ⊥)
open_phase_is t is = ((λ e. is.going (ended_at t e)), (λ e. live_fine t is.live e))

pub ended_reading : (t : List ℕ) (r : Reading) → Knows t r → (r.phase ≡ Ended) ↔ HasEnded t
ended_reading t r (in_body is phase taken) =
    ((λ e. absurd ((open_phase_is t is).0 (sym phase ∙ e))), (λ ended. absurd (is.going ended)))
ended_reading t r (behind_body phase ended) = ((λ _. ended), (λ _. phase))
ended_reading t r (behind_fault phase bad) =
    ((λ e. absurd (apart (sym e ∙ phase))), (λ ended. absurd (bad_not_ended t r.taken bad ended)))
  where
    apart : Ended ≡ Broken → ⊥
    apart same = absurd cc

pub bad_reading : (t : List ℕ) (r : Reading) (place : ℕ) → Knows t r
    → ((r.phase ≡ Broken) × (r.taken ≡ place)) ↔ IsBadAt t place
bad_reading t r place (in_body is phase taken) =
    ((λ e. absurd ((open_phase_is t is).1 (sym phase ∙ e.0))), (λ bad. absurd (bad_dead t place bad is.live)))
bad_reading t r place (behind_body phase ended) =
    ((λ e. absurd (apart (sym phase ∙ e.0))), (λ bad. absurd (bad_not_ended t place bad ended)))
  where
    apart : Ended ≡ Broken → ⊥
    apart same = absurd cc
bad_reading t r place (behind_fault phase bad) =
    ((λ e. subst (λ (k : ℕ). IsBadAt t k) e.1 bad), (λ other. (phase, one_fault t r.taken place bad other)))

pub open_taken : (t : List ℕ) (r : Reading) → Knows t r → IsOpen t → r.taken ≡ length t
open_taken t r (in_body is phase taken) still = taken
open_taken t r (behind_body phase ended) still = absurd (still.going ended)
open_taken t r (behind_fault phase bad) still = absurd (bad_dead t r.taken bad still.live)

folded_most : (t : List ℕ) (r : Reading) → (fold after r t).taken ≤ r.taken + length t
folded_most [] r = omega arith
folded_most (b ∷ t) r = omega (arith, folded_most t (after r b), taken_more r b)

-- no more bytes are counted than came
pub taken_most : (t : List ℕ) → (read t).taken ≤ length t
unfolding read
taken_most t = omega (arith, folded_most t nothing_read)

-- every text is open, has ended or is bad somewhere
pub one_of_three : (t : List ℕ) → IsOpen t ⊎ (HasEnded t ⊎ ((place : ℕ) × IsBadAt t place))
one_of_three t = elim (known t) [
  | in_body is phase taken ↦ inl is
  | behind_body phase ended ↦ inr (inl ended)
  | behind_fault phase bad ↦ inr (inr ((read t).taken, bad))
]

-- ---- the data that all answers give

-- from a reading on, it is what the machine gives
given_machine : (s t : List ℕ) (r : Reading) → Knows s r → given_from r t ≡ plain (run start s) t
given_machine s [] r stands = refl
given_machine s (b ∷ t) r stands =
    let one = after_byte s r b stands in
    ap₂ (λ (xs ys : List ℕ). xs ++ ys) one.gives (
    given_machine (s ++ b ∷ []) t (after r b) one.knows
    ∙ ap (λ (q : Phase). plain q t) (run_more s b)
    )

-- it is the plain data
pub plain_read : (t : List ℕ) → IsPlain t (plain_of t)
unfolding plain_of
plain_read t =
    let same = given_machine [] t nothing_read
    (in_body (open_at [] (λ e. absurd cc) (λ e. absurd cc)) refl refl)
    in
    subst (λ (x : List ℕ). IsPlain t x) (sym same) (plain_is t)

-- one more byte
pub gives_more : (t : List ℕ) (b : ℕ) → plain_of (t ++ b ∷ []) ≡ plain_of t ++ given_by (answer (read t) b)
gives_more t b =
    plain_only (t ++ b ∷ []) (plain_of (t ++ b ∷ [])) (plain_read (t ++ b ∷ []))
    ∙ sym (
    plain_only (t ++ b ∷ []) (plain_of t ++ given_by (answer (read t) b)) (plain_more t (plain_of t) b (plain_read t))
    )
