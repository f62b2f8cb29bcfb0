-- What a connection calls in the book.
use Rattle.std.proofs.Common.{◌≡◌, ◌∙◌, ◌++◌, ℕ, Bool, true, false, List, [], ◌∷◌, Option, None, Some, option_to_list, inl, inr, refl, sym, ap, subst}
use Rattle.std.specs.Prelude.{⊤, ◌==◌, if◌then◌else◌}
use Rattle.std.proofs.lemmas.List.{append-nil}
use Rattle.std.proofs.lemmas.List.Concat.{flat_map-append}
use Rattle.turn_log.specs.History.{History}
use Rattle.gga_read.specs.declared.Position.{Position}
use Rattle.gga_read.specs.Report.{reports}
use Rattle.base_select.specs.declared.Base.{Base}
use Rattle.mount_ring.specs.declared.call.RingCall.TheVariants as calls
use Rattle.mount_ring.specs.declared.call.RingAnswer.TheVariants as rings
use Rattle.caster_accounts.specs.declared.call.BookCall.{BookCall}
use Rattle.caster_accounts.specs.declared.call.BookCall.TheVariants.{Enter, Leave}
use Rattle.caster_accounts.specs.declared.call.BookAnswer.{BookAnswer}
use Rattle.caster_accounts.specs.declared.call.BookAnswer.TheVariants.{Entered, Full, Left}
use Rattle.caster_accounts.specs.History as books
use Rattle.rover_cursor.specs.declared.segment.Segment.{Segment}
use Rattle.session_calls.specs.Steps.{Ask, to_ring, to_book, Answer, of_ring, of_book, Step, at_ring, at_book, ask_of, answer_of, book_part, on_book}
use Rattle.session_calls.specs.Plans.{Plan, done, asks, IsMade, IsBegun}
use Rattle.source_session.specs.Body.{frames_of}
use Rattle.upstream_relay.specs.Owed.{publishing, after_claim}
use Rattle.rover_session.specs.Owed.{Terms, if_held, looks, chooses, changed, joins, follows, joins_each, plan_by}
use Rattle.rover_session.specs.Made.{segments_after, owed_among, sent_in, overrun_in}
use Rattle.cast_config.specs.declared.config.Config.{Config}
use Rattle.session_model.specs.declared.report.Receipt.{Receipt}
use Rattle.session_model.specs.Setting.{caps}
use Rattle.session_model.specs.Judged.{Opening, Judged, SourceTerms, RoverTerms, waiting, finished, source, rover}
use Rattle.session_model.specs.Owed.{Came, holding, inside, came_to, first_answer, is_let_in, if_entered, terms_of, plan_of, closing_by, closing}
use Rattle.session_core.specs.Closed.{IsSettled}
use Rattle.session_core.specs.Standing.{IsFree}
use Rattle.session_core.specs.declared.held.Held.{Held}
use Rattle.session_core.specs.declared.held.Held.TheVariants as holds
use Rattle.session_core.specs.Holding.{HoldsAs}
use Rattle.session_core.proofs.ClosingLemmas.{free_closed}
use Rattle.run_promise.proofs.MadeLemmas.{AreAnswered, StepsOn}
use Rattle.serve_promise.specs.Accounts.{AreBookCalls, IsTurnedAway, leaves_with}
use Rattle.serve_promise.proofs.LetInLemmas.{inside_is, holding_is}

abbrev Pairs : Type 0
Pairs = List (BookCall × BookAnswer)

-- ---- plans without a call in the book

abbrev IsOut : Ask → Type 0
IsOut (to_ring mount call) = ⊤
IsOut (to_book call) = ⊥

abbrev AreOut : Plan → Type 0
AreOut done = ⊤
AreOut (asks ask next) = IsOut ask × ((answer : Answer) → AreOut (next answer))

out_publishing : (mount claim : ℕ) (frames : List (List ℕ)) → AreOut (publishing mount claim frames)
out_publishing mount claim [] = tt
out_publishing mount claim (frame ∷ frames) = (tt, λ answer. out_publishing mount claim frames)

out_claim : (mount : ℕ) (frames : List (List ℕ)) (answer : Answer) → AreOut (after_claim mount frames answer)
out_claim mount frames (of_ring (rings.Given claim)) = out_publishing mount claim frames
out_claim mount frames (of_ring (rings.Taken caller claim)) = tt
out_claim mount frames (of_ring rings.Released) = tt
out_claim mount frames (of_ring (rings.At place)) = tt
out_claim mount frames (of_ring (rings.Joined cursor)) = tt
out_claim mount frames (of_ring (rings.Looked live)) = tt
out_claim mount frames (of_ring (rings.Read report)) = tt
out_claim mount frames (of_book answer) = tt

out_looks : (bases held : List Base) (next : List Base → Plan) → ((all : List Base) → AreOut (next all))
    → AreOut (looks bases held next)
out_looks [] held next each = each held
out_looks (base ∷ bases) held next each = (tt, λ answer. out_looks bases (held ++ if_held base answer) next each)

out_joins : (filter : ℕ) (to : Option ℕ) (next : Plan) → AreOut next → AreOut (joins filter to next)
out_joins filter None next out = out
out_joins filter (Some mount) next out = (tt, λ answer. out)

out_follows : (terms : Terms) (present : Option ℕ) (told : List Position) → AreOut (follows terms present told)
out_follows terms present [] = tt
out_follows terms present (report ∷ later) =
    out_looks terms.bases [] _ (λ held.
    out_joins terms.filter (changed present (chooses terms.hysteresis present report held)) _
    (out_follows terms (chooses terms.hysteresis present report held) later))

out_each : (filter : ℕ) (bases : List Base) → AreOut (joins_each filter bases)
out_each filter [] = tt
out_each filter (base ∷ bases) = (tt, λ answer. out_each filter bases)

out_by : (near : Bool) (terms : Terms) (told : List Position) → AreOut (plan_by near terms told)
out_by false terms told = out_each terms.filter terms.bases
out_by true terms told = out_follows terms None told

-- ---- what is made of such a plan

one_out : (plan : Plan) (step : Step) (rest : List Step) → AreOut plan → IsBegun plan (step ∷ rest)
    → IsOut (ask_of step) × ((left : Plan) × AreOut left × IsBegun left rest)
one_out done step rest out begun = absurd begun
one_out (asks ask next) step rest out begun =
    (subst IsOut (sym begun.0) out.0, (next (answer_of step), out.1 (answer_of step), begun.1))

none_booked : (plan : Plan) (steps : List Step) → AreOut plan → IsBegun plan (owed_among steps) → on_book steps ≡ []
none_booked plan [] out begun = refl
none_booked plan (at_ring mount calls.Claim answer ∷ steps) out begun =
    let more = one_out plan (at_ring mount calls.Claim answer) (owed_among steps) out begun in
    none_booked more.1.0 steps more.1.1 more.1.2
none_booked plan (at_ring mount (calls.Release claim) answer ∷ steps) out begun =
    let more = one_out plan (at_ring mount (calls.Release claim) answer) (owed_among steps) out begun in
    none_booked more.1.0 steps more.1.1 more.1.2
none_booked plan (at_ring mount (calls.Publish claim frame) answer ∷ steps) out begun =
    let more = one_out plan (at_ring mount (calls.Publish claim frame) answer) (owed_among steps) out begun in
    none_booked more.1.0 steps more.1.1 more.1.2
none_booked plan (at_ring mount (calls.Join filter) answer ∷ steps) out begun =
    let more = one_out plan (at_ring mount (calls.Join filter) answer) (owed_among steps) out begun in
    none_booked more.1.0 steps more.1.1 more.1.2
none_booked plan (at_ring mount calls.Look answer ∷ steps) out begun =
    let more = one_out plan (at_ring mount calls.Look answer) (owed_among steps) out begun in
    none_booked more.1.0 steps more.1.1 more.1.2
none_booked plan (at_ring mount (calls.Read cursor budget) answer ∷ steps) out begun =
    none_booked plan steps out begun
none_booked plan (at_book call answer ∷ steps) out begun =
    absurd (one_out plan (at_book call answer) (owed_among steps) out begun).0

-- ---- a rover

-- the plan of a rover behind its first call
abbrev rest_of : Config → RoverTerms → List ℕ → Answer → Plan
rest_of c terms tail answer =
    if_entered (is_let_in answer)
    (plan_by terms.admission.near (terms_of c terms.admission) (option_to_list terms.first ++ reports tail))

out_entered : (let_in : Bool) (plan : Plan) → AreOut plan → AreOut (if_entered let_in plan)
out_entered true plan out = out
out_entered false plan out = tt

out_rest : (c : Config) (terms : RoverTerms) (tail : List ℕ) (answer : Answer) → AreOut (rest_of c terms tail answer)
out_rest c terms tail answer =
    out_entered (is_let_in answer) _
    (out_by terms.admission.near (terms_of c terms.admission) (option_to_list terms.first ++ reports tail))

same_call : (a b : BookCall) → to_book a ≡ to_book b → a ≡ b
same_call a b e = cc

-- a rover calls nothing, or asks to enter its account first
abbrev IsAskedFirst : RoverTerms → List Step → Type 0
IsAskedFirst terms [] = ⊤
IsAskedFirst terms (step ∷ rest) =
    (answer : BookAnswer) × (step ≡ at_book (Enter terms.admission.account) answer) × (on_book rest ≡ [])

first_asked : (c : Config) (terms : RoverTerms) (tail : List ℕ) (steps : List Step) → StepsOn [] steps
    → IsBegun (plan_of c (rover terms tail)) (owed_among steps) → IsAskedFirst terms steps
first_asked c terms tail [] on begun = tt
first_asked c terms tail (at_book call answer ∷ rest) on begun = (
  answer,
  ap (λ (x : BookCall). at_book x answer) (same_call call (Enter terms.admission.account) begun.0),
  none_booked (rest_of c terms tail (of_book answer)) rest (out_rest c terms tail (of_book answer)) begun.1,
)
first_asked c terms tail (at_ring mount (calls.Read cursor budget) answer ∷ rest) on begun = absurd on.0
first_asked c terms tail (at_ring mount calls.Claim answer ∷ rest) on begun = let clash = begun.0 in absurd cc
first_asked c terms tail (at_ring mount (calls.Release claim) answer ∷ rest) on begun =
    let clash = begun.0 in absurd cc
first_asked c terms tail (at_ring mount (calls.Publish claim frame) answer ∷ rest) on begun =
    let clash = begun.0 in absurd cc
first_asked c terms tail (at_ring mount (calls.Join filter) answer ∷ rest) on begun =
    let clash = begun.0 in absurd cc
first_asked c terms tail (at_ring mount calls.Look answer ∷ rest) on begun = let clash = begun.0 in absurd cc

-- ---- when it is closed

nothing_more : (steps : List Step) → steps ≡ [] → on_book steps ≡ []
nothing_more steps none = ap on_book none

free_closes : (settled : Bool) (came : Came) (segments : List Segment) (steps : List Step) → IsFree came
    → IsSettled settled (closing_by came segments) steps → on_book steps ≡ []
free_closes true came segments steps free is =
    nothing_more steps (subst (λ (p : Plan). IsMade p steps) (free_closed came segments free) is)
free_closes false came segments steps free none = nothing_more steps none

released : (mount claim : ℕ) (steps : List Step)
    → IsMade (asks (to_ring mount (calls.Release claim)) (λ answer. done)) steps → on_book steps ≡ []
released mount claim [] made = absurd made
released mount claim (at_ring at call answer ∷ rest) made = nothing_more rest made.1
released mount claim (at_book call answer ∷ rest) made = let clash = made.0 in absurd cc

claim_closes : (settled : Bool) (terms : SourceTerms) (body : List ℕ) (claim : ℕ) (segments : List Segment)
    (steps : List Step) → IsSettled settled (closing_by (holding terms body claim) segments) steps
    → on_book steps ≡ []
claim_closes true terms body claim segments steps made = released terms.mount claim steps made
claim_closes false terms body claim segments steps none = nothing_more steps none

-- who leaves is answered so
left_is : (c : Config) (account sent overrun : ℕ) (answer : BookAnswer) (h : History BookCall) (call : BookCall)
    → call ≡ Leave account sent overrun → answer ≡ books.answer (caps c) h call → answer ≡ Left
left_is c account sent overrun answer h call is same = same ∙ ap (books.answer (caps c) h) is

left_one : (c : Config) (account sent overrun : ℕ) (steps : List Step) → AreAnswered c steps
    → IsMade (asks (to_book (Leave account sent overrun)) (λ answer. done)) steps
    → on_book steps ≡ (Leave account sent overrun, Left) ∷ []
left_one c account sent overrun [] answered made = absurd made
left_one c account sent overrun (at_ring mount call answer ∷ rest) answered made = let clash = made.0 in absurd cc
left_one c account sent overrun (at_book call answer ∷ rest) answered made =
    let is : call ≡ Leave account sent overrun = same_call call (Leave account sent overrun) made.0 in
    let said : answer ≡ Left = left_is c account sent overrun answer answered.0.0 call is answered.0.1 in
    ap (λ (x : BookCall). (x, answer) ∷ on_book rest) is
    ∙ ap (λ (a : BookAnswer). (Leave account sent overrun, a) ∷ on_book rest) said
    ∙ ap (λ (l : Pairs). (Leave account sent overrun, Left) ∷ l) (nothing_more rest made.1)

inside_closes : (c : Config) (settled : Bool) (terms : RoverTerms) (segments : List Segment) (steps : List Step)
    (receipt : Receipt) → receipt.settled ≡ settled → receipt.sent ≡ sent_in segments
    → receipt.overrun ≡ overrun_in segments → AreAnswered c steps
    → IsSettled settled (closing_by (inside terms) segments) steps
    → on_book steps ≡ leaves_with receipt.settled terms.admission.account receipt
inside_closes c true terms segments steps receipt settled sent overrun answered made =
    left_one c terms.admission.account (sent_in segments) (overrun_in segments) steps answered made
    ∙ ap (λ (n : ℕ). (Leave terms.admission.account n (overrun_in segments), Left) ∷ []) (sym sent)
    ∙ ap (λ (n : ℕ). (Leave terms.admission.account receipt.sent n, Left) ∷ []) (sym overrun)
    ∙ ap (λ (b : Bool). leaves_with b terms.admission.account receipt) (sym settled)
inside_closes c false terms segments steps receipt settled sent overrun answered none =
    nothing_more steps none ∙ ap (λ (b : Bool). leaves_with b terms.admission.account receipt) (sym settled)

-- ---- the whole

-- an account answers who asks to enter with one of two
not_left : (busy cap : ℕ) → books.entry_answer busy cap ≡ Left → ⊥
not_left busy cap is = by_test (busy == cap) is where
  by_test : (b : Bool) → (if b then Full busy cap else Entered) ≡ Left → ⊥
  by_test true is = absurd cc
  by_test false is = absurd cc

-- a rover that was not let in
turned_away : (c : Config) (terms : RoverTerms) (tail : List ℕ) (steps : List Step) → AreAnswered c steps
    → IsFree (came_to (rover terms tail) steps) → IsAskedFirst terms steps → IsTurnedAway (on_book steps)
turned_away c terms tail [] answered free asked = inl refl
turned_away c terms tail (step ∷ rest) answered free (Entered, is, none) =
    absurd (subst (λ (s : Step). IsFree (came_to (rover terms tail) (s ∷ rest))) is free)
turned_away c terms tail (step ∷ rest) answered free (Full busy cap, is, none) = inr (
  terms.admission.account,
  busy,
  cap,
  ap (λ (s : Step). on_book (s ∷ rest)) is
      ∙ ap (λ (l : Pairs). (Enter terms.admission.account, Full busy cap) ∷ l) none,
)
turned_away c terms tail (step ∷ rest) answered free (Left, is, none) =
    let account : ℕ = terms.admission.account in
    let first = subst (λ (s : Step). AreAnswered c (s ∷ rest)) is answered in
    absurd (not_left (books.inside (books.cap_at (caps c) account) account first.0.0) (books.cap_at (caps c) account)
    (sym first.0.1))

free_books : (c : Config) (j : Judged) (steps : List Step) → AreAnswered c steps → StepsOn [] steps
    → IsBegun (plan_of c j) (owed_among steps) → IsFree (came_to j steps) → IsTurnedAway (on_book steps)
free_books c waiting steps answered on begun free = inl (none_booked done steps tt begun)
free_books c (finished reply end) steps answered on begun free = inl (none_booked done steps tt begun)
free_books c (source terms body) steps answered on begun free =
    inl (none_booked (plan_of c (source terms body)) steps
    (tt, out_claim terms.mount (frames_of terms.chunked body)) begun)
free_books c (rover terms tail) steps answered on begun free =
    turned_away c terms tail steps answered free (first_asked c terms tail steps on begun)

both_away : (first second : Pairs) → IsTurnedAway first → second ≡ [] → IsTurnedAway (first ++ second)
both_away first second (inl none) last = inl (ap (λ (l : Pairs). l ++ second) none ∙ last)
both_away first second (inr is) last = inr (
  is.0,
  is.1,
  is.2,
  ap (λ (l : Pairs). first ++ l) last ∙ append-nil first ∙ is.3,
)

both_none : (first second : Pairs) → first ≡ [] → second ≡ [] → first ++ second ≡ []
both_none first second none last = ap (λ (l : Pairs). l ++ second) none ∙ last

module _ (c : Config) (j : Judged) (steps closed_by : List Step) (receipt : Receipt) (answered : AreAnswered c steps)
    (closed_answered : AreAnswered c closed_by) (on : StepsOn [] steps)
    (begun : IsBegun (plan_of c j) (owed_among steps))
    (settled : IsSettled receipt.settled (closing j steps) closed_by)
    (sent : receipt.sent ≡ sent_in (segments_after [] steps))
    (overrun : receipt.overrun ≡ overrun_in (segments_after [] steps)) where
  abbrev segments : List Segment
  segments = segments_after [] steps

  free_all : IsFree (came_to j steps) → IsTurnedAway (on_book (steps ++ closed_by))
  free_all free =
      subst IsTurnedAway (sym (flat_map-append book_part steps closed_by))
      (both_away (on_book steps) (on_book closed_by) (free_books c j steps answered on begun free)
      (free_closes receipt.settled (came_to j steps) segments closed_by free settled))

  claimed_all : (terms : SourceTerms) (body : List ℕ) (claim : ℕ) → came_to j steps ≡ holding terms body claim
      → on_book (steps ++ closed_by) ≡ []
  claimed_all terms body claim is =
      let held = holding_is j (first_answer steps) terms body claim is in
      flat_map-append book_part steps closed_by
      ∙ both_none (on_book steps) (on_book closed_by)
      (none_booked (plan_of c (source terms body)) steps (tt, out_claim terms.mount (frames_of terms.chunked body))
      (subst (λ (k : Judged). IsBegun (plan_of c k) (owed_among steps)) held.0 begun))
      (claim_closes receipt.settled terms body claim segments closed_by
      (subst (λ (came : Came). IsSettled receipt.settled (closing_by came segments) closed_by) is settled))

  inside_all : (terms : RoverTerms) → came_to j steps ≡ inside terms
      → on_book (steps ++ closed_by)
      ≡ (Enter terms.admission.account, Entered) ∷ leaves_with receipt.settled terms.admission.account receipt
  inside_all terms is =
      let entered = inside_is j (first_answer steps) terms is in
      let asked : IsAskedFirst terms steps = first_asked c terms entered.0 steps on
      (subst (λ (k : Judged). IsBegun (plan_of c k) (owed_among steps)) entered.1 begun) in
      flat_map-append book_part steps closed_by
      ∙ ap (λ (l : Pairs). l ++ on_book closed_by) (first_is terms steps entered.2 asked)
      ∙ ap (λ (l : Pairs). (Enter terms.admission.account, Entered) ∷ l)
      (inside_closes c receipt.settled terms segments closed_by receipt refl sent overrun closed_answered
      (subst (λ (came : Came). IsSettled receipt.settled (closing_by came segments) closed_by) is settled))
    where
      first_is : (of : RoverTerms) (all : List Step) → first_answer all ≡ Some (of_book Entered)
          → IsAskedFirst of all → on_book all ≡ (Enter of.admission.account, Entered) ∷ []
      first_is of [] said first = absurd cc
      first_is of (step ∷ rest) said first =
          ap (λ (s : Step). on_book (s ∷ rest)) first.1
          ∙ ap (λ (l : Pairs). (Enter of.admission.account, first.0) ∷ l) first.2
          ∙ ap (λ (a : BookAnswer). (Enter of.admission.account, a) ∷ [])
          (answer_is first.0 step (Enter of.admission.account) first.1 said) where
            answer_is : (answer : BookAnswer) (step : Step) (call : BookCall) → step ≡ at_book call answer
                → Some (answer_of step) ≡ Some (of_book Entered) → answer ≡ Entered
            answer_is answer step call same is =
                let e : Some (of_book answer) ≡ Some (of_book Entered) =
                ap (λ (s : Step). Some (answer_of s)) (sym same) ∙ is in cc

  pub booked : (opening : Opening) (held : Held) → HoldsAs c opening (came_to j steps) held
      → AreBookCalls held receipt (on_book (steps ++ closed_by))
  booked opening holds.Nothing is = free_all is
  booked opening (holds.Rover account) is =
      subst (λ (n : ℕ). on_book (steps ++ closed_by) ≡ (Enter n, Entered) ∷ leaves_with receipt.settled n receipt) is.2
      (inside_all is.0 is.1)
  booked opening (holds.Source mount claim) is = claimed_all is.0 is.1 claim is.2
  booked opening (holds.Relay mount None) is = free_all is.3
  booked opening (holds.Relay mount (Some claim)) is = claimed_all is.3.0 is.3.1 claim is.3.2
