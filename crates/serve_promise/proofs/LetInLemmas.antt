-- What a connection held before it was closed is what its bytes say that it is.
use Rattle.std.proofs.Common.{◌≡◌, ◌∙◌, ◌⊎◌, ◌≤◌, ℕ, true, false, List, [], Option, None, Some, inl, inr, refl, sym, ap, subst, arith}
use Rattle.mount_ring.specs.declared.call.RingAnswer.TheVariants as rings
use Rattle.caster_accounts.specs.declared.call.BookAnswer.TheVariants as books
use Rattle.session_calls.specs.Steps.{Answer, of_ring, of_book, Step}
use Rattle.cast_config.specs.declared.config.Config.{Config}
use Rattle.session_model.specs.declared.ending.Ending.{Ending}
use Rattle.session_model.specs.declared.ending.Last.{Last}
use Rattle.session_model.specs.declared.report.Receipt.{Receipt}
use Rattle.session_model.specs.Called.{is_halt}
use Rattle.session_model.specs.Judged.{Opening, SourceTerms, RoverTerms, Judged, waiting, finished, source, rover}
use Rattle.session_model.specs.Owed.{Came, nothing, over, holding, inside, came_by, came_to, source_came, rover_came, first_answer}
use Rattle.session_model.specs.Reports.{junk_of, is_entered}
use Rattle.session_core.specs.declared.held.Held.{Held}
use Rattle.session_core.specs.declared.held.Held.TheVariants as holds
use Rattle.session_core.specs.Closed.{IsReceipt}
use Rattle.session_core.specs.Holding.{HoldsAs, HoldsClaim}
use Rattle.session_core.specs.Standing.{IsFree, is_halted}
use Rattle.session_core.proofs.ClosingLemmas.{free_junk, free_out}
use Rattle.serve_promise.specs.LetIn.{AreJudged, IsSourceOf, IsOutside, IsLetIn}

-- ---- what a connection came to, by the answer to its first call

abbrev pub IsInside : Judged → Option Answer → RoverTerms → Type 0
IsInside j first terms = (tail : List ℕ) × (j ≡ rover terms tail) × (first ≡ Some (of_book books.Entered))

abbrev pub IsHolding : Judged → Option Answer → SourceTerms → List ℕ → ℕ → Type 0
IsHolding j first terms body claim =
    (j ≡ source terms body) × (first ≡ Some (of_ring (rings.Given claim)))

-- a rover that is inside was let in
source_not : (terms : SourceTerms) (body : List ℕ) (answer : Answer) (other : RoverTerms)
    → source_came terms body answer ≡ inside other → ⊥
source_not terms body (of_ring (rings.Given claim)) other is = absurd cc
source_not terms body (of_ring (rings.Taken caller claim)) other is = absurd cc
source_not terms body (of_ring rings.Released) other is = absurd cc
source_not terms body (of_ring (rings.At place)) other is = absurd cc
source_not terms body (of_ring (rings.Joined cursor)) other is = absurd cc
source_not terms body (of_ring (rings.Looked live)) other is = absurd cc
source_not terms body (of_ring (rings.Read report)) other is = absurd cc
source_not terms body (of_book answer) other is = absurd cc

rover_in : (terms other : RoverTerms) (answer : Answer) → rover_came terms answer ≡ inside other
    → (terms ≡ other) × (answer ≡ of_book books.Entered)
rover_in terms other (of_book books.Entered) is = (cc, refl)
rover_in terms other (of_book (books.Full busy cap)) is = absurd cc
rover_in terms other (of_book books.Left) is = absurd cc
rover_in terms other (of_ring answer) is = absurd cc

pub inside_is : (j : Judged) (first : Option Answer) (terms : RoverTerms) → came_by j first ≡ inside terms
    → IsInside j first terms
inside_is waiting None terms is = absurd cc
inside_is waiting (Some answer) terms is = absurd cc
inside_is (finished reply end) None terms is = absurd cc
inside_is (finished reply end) (Some answer) terms is = absurd cc
inside_is (source of body) None terms is = absurd cc
inside_is (source of body) (Some answer) terms is = absurd (source_not of body answer terms is)
inside_is (rover of tail) None terms is = absurd cc
inside_is (rover of tail) (Some answer) terms is =
    let both = rover_in of terms answer is in
    (tail, ap (λ (t : RoverTerms). rover t tail) both.0, ap Some both.1)

-- a source that holds a claim was given it
source_in : (terms other : SourceTerms) (body carried : List ℕ) (answer : Answer) (claim : ℕ)
    → source_came terms body answer ≡ holding other carried claim
    → (terms ≡ other) × (body ≡ carried) × (answer ≡ of_ring (rings.Given claim))
source_in terms other body carried (of_ring (rings.Given given)) claim is = (cc, cc, cc)
source_in terms other body carried (of_ring (rings.Taken caller given)) claim is = absurd cc
source_in terms other body carried (of_ring rings.Released) claim is = absurd cc
source_in terms other body carried (of_ring (rings.At place)) claim is = absurd cc
source_in terms other body carried (of_ring (rings.Joined cursor)) claim is = absurd cc
source_in terms other body carried (of_ring (rings.Looked live)) claim is = absurd cc
source_in terms other body carried (of_ring (rings.Read report)) claim is = absurd cc
source_in terms other body carried (of_book answer) claim is = absurd cc

rover_not : (terms : RoverTerms) (answer : Answer) (other : SourceTerms) (carried : List ℕ) (claim : ℕ)
    → rover_came terms answer ≡ holding other carried claim → ⊥
rover_not terms (of_book books.Entered) other carried claim is = absurd cc
rover_not terms (of_book (books.Full busy cap)) other carried claim is = absurd cc
rover_not terms (of_book books.Left) other carried claim is = absurd cc
rover_not terms (of_ring answer) other carried claim is = absurd cc

pub holding_is : (j : Judged) (first : Option Answer) (terms : SourceTerms) (body : List ℕ) (claim : ℕ)
    → came_by j first ≡ holding terms body claim → IsHolding j first terms body claim
holding_is waiting None terms body claim is = absurd cc
holding_is waiting (Some answer) terms body claim is = absurd cc
holding_is (finished reply end) None terms body claim is = absurd cc
holding_is (finished reply end) (Some answer) terms body claim is = absurd cc
holding_is (source of carried) None terms body claim is = absurd cc
holding_is (source of carried) (Some answer) terms body claim is =
    let all = source_in of terms carried body answer claim is in (
      ap (λ (t : SourceTerms). source t carried) all.0 ∙ ap (source terms) all.1,
      ap Some all.2,
    )
holding_is (rover of tail) None terms body claim is = absurd cc
holding_is (rover of tail) (Some answer) terms body claim is = absurd (rover_not of answer terms body claim is)

-- ---- what a connection that came to this holds

abbrev pub held_of : Came → Held
held_of nothing = holds.Nothing
held_of (over reply end) = holds.Nothing
held_of (holding terms body claim) = holds.Source terms.mount claim
held_of (inside terms) = holds.Rover terms.admission.account

pub holds_as : (c : Config) (opening : Opening) (came : Came) → HoldsAs c opening came (held_of came)
holds_as c opening nothing = tt
holds_as c opening (over reply end) = tt
holds_as c opening (holding terms body claim) = (terms, body, refl, refl)
holds_as c opening (inside terms) = (terms, refl, refl)

-- ---- as what it was let in

-- by its text, unless memory was lacking before it called anything
abbrev pub IsJudgedSo : Config → Opening → List ℕ → List Step → Judged → Type 0
IsJudgedSo c opening given steps j =
    AreJudged c opening given j ⊎ ((steps ≡ []) × (j ≡ waiting))

no_more : (n : ℕ) → n ≤ 0 → n ≡ 0
no_more n few = omega arith

module _ (c : Config) (opening : Opening) (given : List ℕ) (ended : Option Ending) (j : Judged) (steps : List Step)
    (last : Last) (receipt : Receipt) (is_judged : IsJudgedSo c opening given steps j)
    (receipt_is : IsReceipt ended j steps last receipt) (halted : is_halted ended ≡ is_halt receipt.ending) where
  judged_as : (k : Judged) → j ≡ k → (k ≡ waiting → ⊥) → AreJudged c opening given k
  judged_as k same other = elim is_judged [
    | inl is ↦ subst (AreJudged c opening given) same is
    | inr none ↦ absurd (other (sym same ∙ none.1))
  ]

  outside : IsFree (came_to j steps) → IsOutside receipt
  outside free = (
    receipt_is.entered ∙ free_out (came_to j steps) free,
    no_more receipt.junk (subst (λ (n : ℕ). receipt.junk ≤ n) (free_junk (came_to j steps) free) receipt_is.at_most),
  )

  -- its junk, unless it was halted
  junk_is : (came : Came) → came_to j steps ≡ came → is_halt receipt.ending ≡ false → receipt.junk ≡ junk_of came
  junk_is came same goes_on = elim receipt_is.junk [
    | inl halt ↦ let clash : is_halted ended ≡ true = halt in absurd (let e = sym clash ∙ halted ∙ goes_on in cc)
    | inr is ↦ is ∙ ap junk_of same
  ]

  claimed : (mount claim : ℕ) → HoldsClaim mount claim (came_to j steps)
      → IsSourceOf c opening given receipt mount
  claimed mount claim is =
      let terms = is.0 in
      let body = is.1 in
      let held = holding_is j (first_answer steps) terms body claim is.2 in (
        terms,
        body,
        judged_as (source terms body) held.0 (λ e. cc),
        is.3,
        receipt_is.entered ∙ ap is_entered is.2,
        junk_is (holding terms body claim) is.2,
      )

  pub let_in : (held : Held) → HoldsAs c opening (came_to j steps) held → IsLetIn c opening given receipt held
  let_in holds.Nothing is = outside is
  let_in (holds.Rover account) is =
      let terms = is.0 in
      let entered = inside_is j (first_answer steps) terms is.1 in (
        terms,
        entered.0,
        judged_as (rover terms entered.0) entered.1 (λ e. cc),
        is.2,
        receipt_is.entered ∙ ap is_entered is.1,
        no_more receipt.junk (subst (λ (n : ℕ). receipt.junk ≤ n) (ap junk_of is.1) receipt_is.at_most),
      )
  let_in (holds.Source mount claim) is = claimed mount claim is
  let_in (holds.Relay mount None) is = outside is.3
  let_in (holds.Relay mount (Some claim)) is = claimed mount claim is.3
