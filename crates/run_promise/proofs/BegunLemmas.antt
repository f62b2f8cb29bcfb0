-- Each segment that calls give was begun by one of them, behind all that was published by then.
use Rattle.std.proofs.Common.{◌≡◌, ◌∙◌, ◌++◌, ℕ, Bool, true, false, cond, List, [], ◌∷◌, length, fold, All, Option, None, Some, refl, sym, ap, subst, eqb, eq-eqb, append_assoc}
use Rattle.std.specs.Prelude.{◌==◌, if◌then◌else◌}
use Rattle.std.proofs.lemmas.Bool.{eqb-true}
use Rattle.std.proofs.lemmas.List.{append-nil}
use Rattle.std.proofs.lemmas.List.Concat.{flat_map-append}
use Rattle.std.proofs.lemmas.List.Elements.{All-head, All-tail, All-cons, All-nil}
use Rattle.turn_log.specs.History.{History}
use Rattle.turn_log.specs.Heard.{told}
use Rattle.mount_ring.specs.declared.call.RingCall.{RingCall}
use Rattle.mount_ring.specs.declared.call.RingCall.TheVariants.{Claim, Release, Publish, Join, Look, Read}
use Rattle.mount_ring.specs.declared.call.RingAnswer.{RingAnswer}
use Rattle.mount_ring.specs.declared.call.Holder.{Holder}
use Rattle.mount_ring.specs.declared.cursor.Cursor.{Cursor}
use Rattle.mount_ring.specs.History.{State, state_of, claim_answer}
use Rattle.rover_cursor.specs.declared.segment.Segment.{Segment}
use Rattle.rover_cursor.specs.Told.{published_in}
use Rattle.session_calls.specs.Rings.{history_at, answer_at}
use Rattle.cast_config.specs.declared.config.Config.{Config}
use Rattle.session_model.specs.Setting.{shapes}
use Rattle.run_promise.specs.Calls.{Call, call, at_one, AreAllCalls, after_one, segments_of, IsReadOn, ReadOn}
use Rattle.run_promise.specs.Begun.{IsBegun}

-- ---- a call that is told stands in the history, answered at its own point

module _ {C A : Type 0} (answer : History C → ℕ → C → A) (me : ℕ) where
  abbrev Stands : History C → History C → C × A → Type 0
  Stands before h pair =
      (front back : History C) × (h ≡ front ++ (me, pair.0) ∷ back)
      × (pair.1 ≡ answer (before ++ front) me pair.0)

  first_stands : (before : History C) (e : ℕ × C) (more : History C) (pair : C × A) → e.0 ≡ me
      → (e.1, answer before me e.1) ≡ pair → Stands before (e ∷ more) pair
  first_stands before e more pair mine is =
      subst (Stands before (e ∷ more)) is (
        [],
        more,
        ap (λ (n : ℕ). (n, e.1) ∷ more) mine,
        ap (λ (h : History C). answer h me e.1) (sym (append-nil before)),
      )

  later_stands : (before : History C) (e : ℕ × C) (more : History C) (pair : C × A)
      → Stands (before ++ e ∷ []) more pair → Stands before (e ∷ more) pair
  later_stands before e more pair at = (
    e ∷ at.0,
    at.1,
    ap (λ (h : History C). e ∷ h) at.2,
    at.3 ∙ ap (λ (h : History C). answer h me pair.0) (append_assoc before (e ∷ []) at.0),
  )

  told_if : (mine : Bool) (before : History C) (e : ℕ × C) (more : History C) (xs : List (C × A)) (pair : C × A)
      (ys : List (C × A)) → eqb e.0 me ≡ mine
      → cond mine ((e.1, answer before me e.1) ∷ told answer me (before ++ e ∷ []) more)
      (told answer me (before ++ e ∷ []) more) ≡ xs ++ pair ∷ ys
      → ((xs : List (C × A)) → told answer me (before ++ e ∷ []) more ≡ xs ++ pair ∷ ys
      → Stands (before ++ e ∷ []) more pair)
      → Stands before (e ∷ more) pair
  told_if true before e more [] pair ys mine is later =
      let first : (e.1, answer before me e.1) ≡ pair = cc in
      first_stands before e more pair (eqb-true e.0 me mine) first
  told_if true before e more (x ∷ xs) pair ys mine is later =
      let rest : told answer me (before ++ e ∷ []) more ≡ xs ++ pair ∷ ys = cc in
      later_stands before e more pair (later xs rest)
  told_if false before e more xs pair ys mine is later = later_stands before e more pair (later xs is)

  told_stands : (before h : History C) (xs : List (C × A)) (pair : C × A) (ys : List (C × A))
      → told answer me before h ≡ xs ++ pair ∷ ys → Stands before h pair
  told_stands before [] [] pair ys is = absurd cc
  told_stands before [] (x ∷ xs) pair ys is = absurd cc
  told_stands before (e ∷ more) xs pair ys is =
      told_if (eqb e.0 me) before e more xs pair ys refl is
      (λ xs rest. told_stands (before ++ e ∷ []) more xs pair ys rest)

-- ---- each of all calls

abbrev pub IsAt : Config → List (History RingCall) → ℕ → Call → Type 0
IsAt c histories me one =
    (before after : History RingCall) × (history_at histories one.mount ≡ before ++ (me, one.asked) ∷ after)
    × (one.answer ≡ answer_at (shapes c) one.mount before me one.asked)

abbrev in_one : ℕ → Call → List (RingCall × RingAnswer)
in_one mount one = if one.mount == mount then (one.asked, one.answer) ∷ [] else []

-- the calls are told of these histories from some points of them on
abbrev pub AreTold : Config → (ℕ → History RingCall) → List (History RingCall) → ℕ → List Call → Type 0
AreTold c start histories me calls =
    (mount : ℕ) → (more later : History RingCall)
    × (history_at histories mount ≡ start mount ++ (more ++ later))
    × (told (answer_at (shapes c) mount) me (start mount) more ≡ at_one mount calls)

one_at : (c : Config) (start : ℕ → History RingCall) (histories : List (History RingCall)) (me : ℕ)
    (calls done : List Call) (one : Call) (later : List Call) → calls ≡ done ++ one ∷ later
    → AreTold c start histories me calls → IsAt c histories me one
one_at c start histories me calls done one later split all =
    let pair : RingCall × RingAnswer = (one.asked, one.answer) in
    let entry : ℕ × RingCall = (me, one.asked) in
    let first : History RingCall = start one.mount in
    let here : at_one one.mount (one ∷ later) ≡ pair ∷ at_one one.mount later =
    ap (λ (b : Bool). cond b (pair ∷ []) [] ++ at_one one.mount later) (eq-eqb one.mount one.mount refl) in
    let at = all one.mount in
    let stands = told_stands (answer_at (shapes c) one.mount) me first at.0 (at_one one.mount done) pair
    (at_one one.mount later)
    (at.3 ∙ ap (at_one one.mount) split
    ∙ flat_map-append (in_one one.mount) done (one ∷ later)
    ∙ ap (λ (l : List (RingCall × RingAnswer)). at_one one.mount done ++ l) here) in (
      first ++ stands.0,
      stands.1 ++ at.1,
      at.2
          ∙ ap (λ (h : History RingCall). first ++ (h ++ at.1)) stands.2
          ∙ ap (λ (h : History RingCall). first ++ h) (append_assoc stands.0 (entry ∷ stands.1) at.1)
          ∙ sym (append_assoc first stands.0 (entry ∷ (stands.1 ++ at.1))),
      stands.3,
    )

each_at : (c : Config) (start : ℕ → History RingCall) (histories : List (History RingCall)) (me : ℕ)
    (calls done later : List Call) → calls ≡ done ++ later → AreTold c start histories me calls
    → All (IsAt c histories me) later
each_at c start histories me calls done [] split all = All-nil (IsAt c histories me)
each_at c start histories me calls done (one ∷ later) split all =
    All-cons (IsAt c histories me) one later (one_at c start histories me calls done one later split all)
    (each_at c start histories me calls (done ++ one ∷ []) later (split ∙ sym (append_assoc done (one ∷ []) later)) all)

-- ---- the segments

module _ (c : Config) (histories : List (History RingCall)) (me : ℕ) where
  abbrev Begun : Segment → Type 0
  Begun segment = IsBegun histories me segment

  claim_begun : (mount : ℕ) (state : State) (holder : Option Holder) (answer : RingAnswer) (segments : List Segment)
      → answer ≡ claim_answer state holder → All Begun segments
      → All Begun (after_one segments (call mount Claim answer))
  claim_begun mount state None answer segments is all =
      subst (λ (a : RingAnswer). All Begun (after_one segments (call mount Claim a))) (sym is) all
  claim_begun mount state (Some holder) answer segments is all =
      subst (λ (a : RingAnswer). All Begun (after_one segments (call mount Claim a))) (sym is) all

  call_begun : (segments : List Segment) (mount : ℕ) (asked : RingCall) (answer : RingAnswer)
      → IsAt c histories me (call mount asked answer) → IsReadOn asked mount segments → All Begun segments
      → All Begun (after_one segments (call mount asked answer))
  call_begun segments mount Claim answer at on all =
      claim_begun mount (state_of at.0) (state_of at.0).holder answer segments at.3 all
  call_begun segments mount (Release claim) answer at on all =
      subst (λ (a : RingAnswer). All Begun (after_one segments (call mount (Release claim) a))) (sym at.3) all
  call_begun segments mount (Publish claim frame) answer at on all =
      subst (λ (a : RingAnswer). All Begun (after_one segments (call mount (Publish claim frame) a))) (sym at.3) all
  call_begun segments mount (Join filter) answer at on all =
      subst (λ (a : RingAnswer). All Begun (after_one segments (call mount (Join filter) a))) (sym at.3)
      (All-cons Begun _ segments (at.0, at.1, at.2, refl) all)
  call_begun segments mount Look answer at on all =
      subst (λ (a : RingAnswer). All Begun (after_one segments (call mount Look a))) (sym at.3) all
  call_begun [] mount (Read cursor budget) answer at on all = absurd on
  call_begun (segment ∷ older) mount (Read cursor budget) answer at on all =
      let first = All-head Begun segment older all in
      subst (λ (a : RingAnswer). All Begun (after_one (segment ∷ older) (call mount (Read cursor budget) a))) (sym at.3)
      (All-cons Begun _ older
      (subst (λ (k : Cursor). (before after : History RingCall)
      × (history_at histories segment.mount ≡ before ++ (me, Join k.filter) ∷ after)
      × (segment.from ≡ length (published_in before))) (sym on.1) first)
      (All-tail Begun segment older all))

  walk_begun : (segments : List Segment) (calls : List Call) → All (IsAt c histories me) calls → ReadOn segments calls
      → All Begun segments → All Begun (fold after_one segments calls)
  walk_begun segments [] at on all = all
  walk_begun segments (one ∷ later) at on all =
      walk_begun (after_one segments one) later (All-tail (IsAt c histories me) one later at) on.1
      (call_begun segments one.mount one.asked one.answer (All-head (IsAt c histories me) one later at) on.0 all)

pub told_begun : (c : Config) (start : ℕ → History RingCall) (histories : List (History RingCall)) (me : ℕ)
    (calls : List Call) → AreTold c start histories me calls → ReadOn [] calls
    → All (IsBegun histories me) (segments_of calls)
told_begun c start histories me calls all on =
    walk_begun c histories me [] calls (each_at c start histories me calls [] calls refl all) on
    (All-nil (IsBegun histories me))

pub segments_begun : (c : Config) (histories : List (History RingCall)) (me : ℕ) (calls : List Call)
    → AreAllCalls c histories me calls → ReadOn [] calls → All (IsBegun histories me) (segments_of calls)
segments_begun c histories me calls all on =
    told_begun c (λ mount. []) histories me calls
    (λ mount. (history_at histories mount, [], sym (append-nil (history_at histories mount)), all mount)) on
