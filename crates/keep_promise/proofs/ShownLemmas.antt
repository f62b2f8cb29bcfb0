-- What the porter's answers say is so at the points of its own calls.
use Rattle.std.proofs.Common.{◌≡◌, ◌∙◌, ◌++◌, ◌+◌, ℕ, Bool, true, false, cond, List, [], ◌∷◌, length, Option, None, Some, refl, sym, ap, subst, eqb, eq-eqb, append_assoc}
use Rattle.std.specs.Prelude.{⊤, ◌==◌, if◌then◌else◌}
use Rattle.std.specs.List.{flat_map}
use Rattle.std.proofs.lemmas.Bool.{eqb-true}
use Rattle.std.proofs.lemmas.List.{append-nil}
use Rattle.std.proofs.lemmas.List.Concat.{flat_map-append}
use Rattle.std.proofs.lemmas.List.Elements.{All-cons, All-nil}
use Rattle.turn_log.specs.History.{History, GoesOn}
use Rattle.turn_log.specs.Heard.{told}
use Rattle.mount_ring.specs.declared.cursor.Cursor.{Cursor}
use Rattle.mount_ring.specs.declared.call.RingCall.{RingCall}
use Rattle.mount_ring.specs.declared.call.RingCall.TheVariants.{Join, Look}
use Rattle.mount_ring.specs.declared.call.RingAnswer.{RingAnswer}
use Rattle.mount_ring.specs.declared.call.RingAnswer.TheVariants as answers
use Rattle.mount_ring.specs.History.{joined, live_claim, state_of}
use Rattle.rover_cursor.specs.Told.{published_in}
use Rattle.session_calls.specs.Steps.{Step, on_ring, ring_part}
use Rattle.session_calls.specs.Rings.{Went, answer_at, history_at, shape_at}
use Rattle.cast_config.specs.declared.config.Config.{Config}
use Rattle.session_model.specs.Setting.{shapes}
use Rattle.session_model.specs.Run.{Histories, nothing_called}
use Rattle.keep_porter.specs.declared.found.Found.{Found}
use Rattle.keep_porter.specs.Porters.{Answer, looks_at, joins_at, steps_at, steps_from, steps_of}
use Rattle.run_promise.proofs.RunLemmas.{nothing_at}
use Rattle.keep_promise.specs.Points.{AllShown, AreShown}

abbrev Pairs : Type 0
Pairs = List (RingCall × RingAnswer)

module _ (c : Config) (me : ℕ) where
  -- a call that stands in a history behind this beginning, answered at its own point
  abbrev Stands : ℕ → History RingCall → History RingCall → RingCall × RingAnswer → Type 0
  Stands mount before h pair = (front back : History RingCall) × (h ≡ front ++ (me, pair.0) ∷ back)
      × (pair.1 ≡ answer_at (shapes c) mount (before ++ front) me pair.0)

  abbrev Each : ℕ → History RingCall → History RingCall → Pairs → Type 0
  Each mount before h [] = ⊤
  Each mount before h (pair ∷ pairs) = Stands mount before h pair × Each mount before h pairs

  each_later : (mount : ℕ) (before : History RingCall) (e : ℕ × RingCall) (more : History RingCall) (pairs : Pairs)
      → Each mount (before ++ e ∷ []) more pairs → Each mount before (e ∷ more) pairs
  each_later mount before e more [] each = tt
  each_later mount before e more (pair ∷ pairs) each = (
    (
      e ∷ each.0.0,
      each.0.1,
      ap (λ (h : History RingCall). e ∷ h) each.0.2,
      each.0.3 ∙ ap (λ (h : History RingCall). answer_at (shapes c) mount h me pair.0)
          (append_assoc before (e ∷ []) each.0.0),
    ),
    each_later mount before e more pairs each.1,
  )

  told_stand : (mount : ℕ) (before h : History RingCall)
      → Each mount before h (told (answer_at (shapes c) mount) me before h)
  told_stand mount before [] = tt
  told_stand mount before (e ∷ more) =
      by_test (eqb e.0 me) refl
      (each_later mount before e more (told (answer_at (shapes c) mount) me (before ++ e ∷ []) more)
      (told_stand mount (before ++ e ∷ []) more))
    where
      later : Pairs
      later = told (answer_at (shapes c) mount) me (before ++ e ∷ []) more

      by_test : (b : Bool) → eqb e.0 me ≡ b → Each mount before (e ∷ more) later
          → Each mount before (e ∷ more) (cond b ((e.1, answer_at (shapes c) mount before me e.1) ∷ later) later)
      by_test true mine rest = (
        (
          [],
          more,
          ap (λ (n : ℕ). (n, e.1) ∷ more) (eqb-true e.0 me mine),
          ap (λ (h : History RingCall). answer_at (shapes c) mount h me e.1) (sym (append-nil before)),
        ),
        rest,
      )
      by_test false other rest = rest

  -- those of the first steps, and of the others
  each_front : (mount : ℕ) (h : History RingCall) (first second : Pairs) → Each mount [] h (first ++ second)
      → Each mount [] h first
  each_front mount h [] second each = tt
  each_front mount h (pair ∷ first) second each = (each.0, each_front mount h first second each.1)

  each_back : (mount : ℕ) (h : History RingCall) (first second : Pairs) → Each mount [] h (first ++ second)
      → Each mount [] h second
  each_back mount h [] second each = each
  each_back mount h (pair ∷ first) second each = each_back mount h first second each.1

  abbrev Steps : List (History RingCall) → List Step → Type 0
  Steps histories steps = (mount : ℕ) → Each mount [] (history_at histories mount) (on_ring mount steps)

  steps_front : (histories : List (History RingCall)) (first second : List Step) → Steps histories (first ++ second)
      → Steps histories first
  steps_front histories first second each mount =
      each_front mount (history_at histories mount) (on_ring mount first) (on_ring mount second)
      (subst (Each mount [] (history_at histories mount)) (flat_map-append (ring_part mount) first second) (each mount))

  steps_back : (histories : List (History RingCall)) (first second : List Step) → Steps histories (first ++ second)
      → Steps histories second
  steps_back histories first second each mount =
      each_back mount (history_at histories mount) (on_ring mount first) (on_ring mount second)
      (subst (Each mount [] (history_at histories mount)) (flat_map-append (ring_part mount) first second) (each mount))

  -- the one call of one step
  one_stands : (mount : ℕ) (h : History RingCall) (call : RingCall) (answer : RingAnswer)
      → Each mount [] h ((if mount == mount then (call, answer) ∷ [] else []) ++ []) → Stands mount [] h (call, answer)
  one_stands mount h call answer each =
      (subst (λ (b : Bool). Each mount [] h ((if b then (call, answer) ∷ [] else []) ++ []))
      (eq-eqb mount mount refl) each).0

  looked_is : (claim other : Option ℕ) → answers.Looked claim ≡ answers.Looked other → claim ≡ other
  looked_is claim other is = cc

  joined_is : (cursor other : Cursor) → answers.Joined cursor ≡ answers.Joined other → cursor.next ≡ other.next
  joined_is cursor other is =
      let same : cursor ≡ other = cc in ap (λ (k : Cursor). k.next) same

  held_so : (histories : List (History RingCall)) (mount : ℕ) (looked : Option (Option ℕ)) → Steps histories
      (looks_at mount looked) → (claim : Option ℕ) → looked ≡ Some claim → (before after : History RingCall)
      × (history_at histories mount ≡ before ++ (me, Look) ∷ after) × (claim ≡ live_claim (state_of before).holder)
  held_so histories mount None each claim is = absurd cc
  held_so histories mount (Some found) each claim is =
      let stands = one_stands mount (history_at histories mount) Look (answers.Looked found) (each mount) in
      let same : claim ≡ found = cc in (
        stands.0,
        stands.1,
        stands.2,
        same ∙ looked_is found (live_claim (state_of stands.0).holder) stands.3,
      )

  published_so : (histories : List (History RingCall)) (mount : ℕ) (joined_at : Option Cursor) → Steps histories
      (joins_at mount joined_at) → (cursor : Cursor) → joined_at ≡ Some cursor → (before after : History RingCall)
      × (history_at histories mount ≡ before ++ (me, Join 0) ∷ after) × (cursor.next ≡ length (published_in before))
  published_so histories mount None each cursor is = absurd cc
  published_so histories mount (Some found) each cursor is =
      let stands = one_stands mount (history_at histories mount) (Join 0) (answers.Joined found) (each mount) in
      let same : cursor ≡ found = cc in (
        stands.0,
        stands.1,
        stands.2,
        ap (λ (k : Cursor). k.next) same
            ∙ joined_is found (joined (shape_at (shapes c) mount) (state_of stands.0) 0) stands.3,
      )

  found_shown : (histories : List (History RingCall)) (n : ℕ) (found : List Found)
      → Steps histories (steps_from n found) → AreShown me histories n found
  found_shown histories n [] each = tt
  found_shown histories n (one ∷ more) each =
      let here = steps_front histories (steps_at n one) (steps_from (n + 1) more) each in (
        record {
          held = held_so histories n one.looked
              (steps_front histories (looks_at n one.looked) (joins_at n one.joined) here);
          published = published_so histories n one.joined
              (steps_back histories (looks_at n one.looked) (joins_at n one.joined) here);
        },
        found_shown histories (n + 1) more (steps_back histories (steps_at n one) (steps_from (n + 1) more) each),
      )

  answers_shown : (histories : List (History RingCall)) (given : List Answer)
      → Steps histories (flat_map steps_of given) → AllShown me histories given
  answers_shown histories [] each = All-nil (λ (answer : Answer). AreShown me histories 0 answer.found)
  answers_shown histories (answer ∷ given) each =
      All-cons (λ (a : Answer). AreShown me histories 0 a.found) answer given
      (found_shown histories 0 answer.found (steps_front histories (steps_of answer) (flat_map steps_of given) each))
      (answers_shown histories given (steps_back histories (steps_of answer) (flat_map steps_of given) each))

  -- a call that stands in the beginning stands in the whole
  each_on : (mount : ℕ) (seen more : History RingCall) (pairs : Pairs) → Each mount [] seen pairs
      → Each mount [] (seen ++ more) pairs
  each_on mount seen more [] each = tt
  each_on mount seen more (pair ∷ pairs) each = (
    (
      each.0.0,
      each.0.1 ++ more,
      ap (λ (h : History RingCall). h ++ more) each.0.2
          ∙ append_assoc each.0.0 ((me, pair.0) ∷ each.0.1) more,
      each.0.3,
    ),
    each_on mount seen more pairs each.1,
  )

  pub all_shown : (histories seen : Histories) (given : List Answer)
      → Went (shapes c) false (nothing_called c).rings seen.rings me (flat_map steps_of given)
      → ((mount : ℕ) → GoesOn me (history_at seen.rings mount) (history_at histories.rings mount))
      → AllShown me histories.rings given
  all_shown histories seen given went goes =
      answers_shown histories.rings given (λ mount.
      let heard = went.rings mount in
      let none : history_at (nothing_called c).rings mount ≡ [] = nothing_at c mount in
      let seen_is : history_at seen.rings mount ≡ heard.more =
      heard.seen ∙ ap (λ (h : History RingCall). h ++ heard.more) none in
      let mine : told (answer_at (shapes c) mount) me [] heard.more ≡ on_ring mount (flat_map steps_of given) =
      ap (λ (h : History RingCall). told (answer_at (shapes c) mount) me h heard.more) (sym none) ∙ heard.mine in
      subst (λ (h : History RingCall). Each mount [] h (on_ring mount (flat_map steps_of given)))
      (sym ((goes mount).1 ∙ ap (λ (h : History RingCall). h ++ (goes mount).0) seen_is))
      (each_on mount heard.more (goes mount).0 (on_ring mount (flat_map steps_of given))
      (subst (Each mount [] heard.more) mine (told_stand mount [] heard.more))))
