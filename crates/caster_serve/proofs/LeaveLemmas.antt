-- Connections leave their accounts when they are closed, and never before.
use Rattle.std.proofs.Common.{◌≡◌, ◌∙◌, ◌++◌, ℕ, Bool, true, false, List, [], ◌∷◌, refl, sym, ap, subst, Option, None, Some, option_to_list, append_assoc}
use Rattle.std.specs.Prelude.{⊤, ◌&&◌, if◌then◌else◌}
use Rattle.std.proofs.lemmas.List.{append-nil}
use Rattle.std.proofs.lemmas.Grind.{fold-append}
use Rattle.turn_log.specs.History.{History, own}
use Rattle.turn_log.specs.Heard.{calls_in}
use Rattle.turn_log.proofs.HistoryLaws.{own-append}
use Rattle.turn_log.proofs.HeardLaws.{calls_told}
use Rattle.gga_read.specs.declared.Position.{Position}
use Rattle.gga_read.specs.Report.{reports}
use Rattle.base_select.specs.declared.Base.{Base}
use Rattle.mount_ring.specs.declared.call.RingCall.TheVariants as calls
use Rattle.mount_ring.specs.declared.call.RingAnswer.TheVariants as rings
use Rattle.caster_accounts.specs.declared.account.Sum.{Sum}
use Rattle.caster_accounts.specs.declared.call.BookCall.{BookCall}
use Rattle.caster_accounts.specs.declared.call.BookCall.TheVariants.{Enter, Leave}
use Rattle.caster_accounts.specs.Sums.{added, after_any}
use Rattle.rover_cursor.specs.declared.segment.Segment.{Segment}
use Rattle.session_calls.specs.Steps.{Ask, to_ring, to_book, Answer, of_ring, of_book, Step, at_ring, at_book, ask_of, answer_of, on_book}
use Rattle.session_calls.specs.Plans.{Plan, done, asks, IsMade, IsBegun}
use Rattle.session_calls.proofs.PlanLemmas.{made_begun}
use Rattle.source_session.specs.Body.{frames_of}
use Rattle.upstream_relay.specs.Owed.{publishing, after_claim}
use Rattle.rover_session.specs.Owed.{Terms, if_held, looks, chooses, changed, joins, follows, joins_each, plan_by}
use Rattle.rover_session.specs.Made.{segments_after, owed_among, sent_in, overrun_in}
use Rattle.cast_config.specs.declared.config.Config.{Config}
use Rattle.session_model.specs.declared.ending.Last.{Last}
use Rattle.session_model.specs.declared.report.Receipt.{Receipt}
use Rattle.session_model.specs.Judged.{Opening, Judged, waiting, finished, source, rover}
use Rattle.session_model.specs.Owed.{Came, nothing, over, holding, inside, came_to, is_let_in, if_entered, terms_of, plan_of, closing_by, closing}
use Rattle.session_model.specs.Reports.{is_entered}
use Rattle.session_model.specs.Run.{Histories}
use Rattle.session_model.specs.Called.{Called, book_answer}
use Rattle.session_core.specs.Standing.{IsMadeBy}
use Rattle.session_core.specs.Closed.{IsSettled}
use Rattle.cast_io.specs.declared.steps.Step.{Step as LinkTook}
use Rattle.session_model.specs.Courses.{steps_of}
use Rattle.caster_link.specs.Served.{LinkGoes}
use Rattle.caster_places.specs.Leaves.{left_in, Leaves}
use Rattle.caster_serve.specs.Works.{tallied}

-- ---- plans that leave no account

abbrev StaysIn : Ask → Type 0
StaysIn (to_ring mount call) = ⊤
StaysIn (to_book (Enter account)) = ⊤
StaysIn (to_book (Leave account sent overrun)) = ⊥

abbrev Stays : Plan → Type 0
Stays done = ⊤
Stays (asks ask next) = StaysIn ask × ((answer : Answer) → Stays (next answer))

stays_publishing : (mount claim : ℕ) (frames : List (List ℕ)) → Stays (publishing mount claim frames)
stays_publishing mount claim [] = tt
stays_publishing mount claim (frame ∷ frames) = (tt, λ answer. stays_publishing mount claim frames)

stays_claim : (mount : ℕ) (frames : List (List ℕ)) (answer : Answer) → Stays (after_claim mount frames answer)
stays_claim mount frames (of_ring (rings.Given claim)) = stays_publishing mount claim frames
stays_claim mount frames (of_ring (rings.Taken caller claim)) = tt
stays_claim mount frames (of_ring rings.Released) = tt
stays_claim mount frames (of_ring (rings.At place)) = tt
stays_claim mount frames (of_ring (rings.Joined cursor)) = tt
stays_claim mount frames (of_ring (rings.Looked live)) = tt
stays_claim mount frames (of_ring (rings.Read report)) = tt
stays_claim mount frames (of_book answer) = tt

stays_looks : (bases held : List Base) (next : List Base → Plan) → ((all : List Base) → Stays (next all))
    → Stays (looks bases held next)
stays_looks [] held next each = each held
stays_looks (base ∷ bases) held next each = (tt, λ answer. stays_looks bases (held ++ if_held base answer) next each)

stays_joins : (filter : ℕ) (to : Option ℕ) (next : Plan) → Stays next → Stays (joins filter to next)
stays_joins filter None next stays = stays
stays_joins filter (Some mount) next stays = (tt, λ answer. stays)

stays_follows : (terms : Terms) (present : Option ℕ) (told : List Position) → Stays (follows terms present told)
stays_follows terms present [] = tt
stays_follows terms present (report ∷ later) =
    stays_looks terms.bases [] _ (λ held.
    stays_joins terms.filter (changed present (chooses terms.hysteresis present report held)) _
    (stays_follows terms (chooses terms.hysteresis present report held) later))

stays_each : (filter : ℕ) (bases : List Base) → Stays (joins_each filter bases)
stays_each filter [] = tt
stays_each filter (base ∷ bases) = (tt, λ answer. stays_each filter bases)

stays_by : (near : Bool) (terms : Terms) (told : List Position) → Stays (plan_by near terms told)
stays_by false terms told = stays_each terms.filter terms.bases
stays_by true terms told = stays_follows terms None told

stays_entered : (let_in : Bool) (plan : Plan) → Stays plan → Stays (if_entered let_in plan)
stays_entered true plan stays = stays
stays_entered false plan stays = tt

-- what bytes owe leaves no account
stays_plan : (c : Config) (j : Judged) → Stays (plan_of c j)
stays_plan c waiting = tt
stays_plan c (finished reply end) = tt
stays_plan c (source terms body) = (tt, stays_claim terms.mount (frames_of terms.chunked body))
stays_plan c (rover terms tail) = (
  tt,
  λ answer. stays_entered (is_let_in answer) _
      (stays_by terms.admission.near (terms_of c terms.admission) (option_to_list terms.first ++ reports tail)),
)

-- ---- what is made of such a plan

-- its first step, and what is left
one_more : (plan : Plan) (step : Step) (rest : List Step) → Stays plan → IsBegun plan (step ∷ rest)
    → StaysIn (ask_of step) × ((left : Plan) × Stays left × IsBegun left rest)
one_more done step rest stays begun = absurd begun
one_more (asks ask next) step rest stays begun =
    (subst StaysIn (sym begun.0) stays.0, (next (answer_of step), stays.1 (answer_of step), begun.1))

stays_on : (plan : Plan) (steps : List Step) (sum : Sum) → Stays plan → IsBegun plan (owed_among steps)
    → left_in sum (calls_in (on_book steps)) ≡ sum
stays_on plan [] sum stays begun = refl
stays_on plan (at_ring mount calls.Claim answer ∷ steps) sum stays begun =
    let more = one_more plan (at_ring mount calls.Claim answer) (owed_among steps) stays begun in
    stays_on more.1.0 steps sum more.1.1 more.1.2
stays_on plan (at_ring mount (calls.Release claim) answer ∷ steps) sum stays begun =
    let more = one_more plan (at_ring mount (calls.Release claim) answer) (owed_among steps) stays begun in
    stays_on more.1.0 steps sum more.1.1 more.1.2
stays_on plan (at_ring mount (calls.Publish claim frame) answer ∷ steps) sum stays begun =
    let more = one_more plan (at_ring mount (calls.Publish claim frame) answer) (owed_among steps) stays begun in
    stays_on more.1.0 steps sum more.1.1 more.1.2
stays_on plan (at_ring mount (calls.Join filter) answer ∷ steps) sum stays begun =
    let more = one_more plan (at_ring mount (calls.Join filter) answer) (owed_among steps) stays begun in
    stays_on more.1.0 steps sum more.1.1 more.1.2
stays_on plan (at_ring mount calls.Look answer ∷ steps) sum stays begun =
    let more = one_more plan (at_ring mount calls.Look answer) (owed_among steps) stays begun in
    stays_on more.1.0 steps sum more.1.1 more.1.2
stays_on plan (at_ring mount (calls.Read cursor budget) answer ∷ steps) sum stays begun =
    stays_on plan steps sum stays begun
stays_on plan (at_book (Enter account) answer ∷ steps) sum stays begun =
    let more = one_more plan (at_book (Enter account) answer) (owed_among steps) stays begun in
    stays_on more.1.0 steps sum more.1.1 more.1.2
stays_on plan (at_book (Leave account sent overrun) answer ∷ steps) sum stays begun =
    absurd (one_more plan (at_book (Leave account sent overrun) answer) (owed_among steps) stays begun).0

begun_by : (halted : Bool) (plan : Plan) (steps : List Step) → IsMadeBy halted plan steps → IsBegun plan steps
begun_by false plan steps made = made_begun plan steps made
begun_by true plan steps begun = begun

-- ---- the closing

-- a tally is counted by the receipt's own marks
abbrev counted : Bool → Bool → Sum → ℕ → ℕ → Sum
counted entered settled sum sent overrun = if entered && settled then added sum sent overrun else sum

uncounted : (entered : Bool) (sum : Sum) (sent overrun : ℕ) → counted entered false sum sent overrun ≡ sum
uncounted false sum sent overrun = refl
uncounted true sum sent overrun = refl

nothing_made : (sum : Sum) (more : List Step) → more ≡ [] → left_in sum (calls_in (on_book more)) ≡ sum
nothing_made sum more none = ap (λ (s : List Step). left_in sum (calls_in (on_book s))) none

-- one call that is no Leave
released : (mount claim : ℕ) (sum : Sum) (more : List Step)
    → IsMade (asks (to_ring mount (calls.Release claim)) (λ answer. done)) more
    → left_in sum (calls_in (on_book more)) ≡ sum
released mount claim sum [] made = absurd made
released mount claim sum (at_ring asked call answer ∷ more) made = nothing_made sum more made.1
released mount claim sum (at_book call answer ∷ more) made = let clash = made.0 in absurd cc

left_one : (account sent overrun : ℕ) (sum : Sum) (more : List Step)
    → IsMade (asks (to_book (Leave account sent overrun)) (λ answer. done)) more
    → left_in sum (calls_in (on_book more)) ≡ added sum sent overrun
left_one account sent overrun sum [] made = absurd made
left_one account sent overrun sum (at_ring asked call answer ∷ more) made = let clash = made.0 in absurd cc
left_one account sent overrun sum (at_book call answer ∷ more) made =
    let is : call ≡ Leave account sent overrun = same_call call (Leave account sent overrun) made.0 in
    ap (λ (x : BookCall). left_in (after_any sum x) (calls_in (on_book more))) is
    ∙ nothing_made (added sum sent overrun) more made.1 where
      same_call : (a b : BookCall) → to_book a ≡ to_book b → a ≡ b
      same_call a b e = cc

closing_counts : (came : Came) (segments : List Segment) (sum : Sum) (more : List Step)
    → IsMade (closing_by came segments) more
    → left_in sum (calls_in (on_book more))
    ≡ counted (is_entered came) true sum (sent_in segments) (overrun_in segments)
closing_counts nothing segments sum more made = nothing_made sum more made
closing_counts (over reply end) segments sum more made = nothing_made sum more made
closing_counts (holding terms body claim) segments sum more made = released terms.mount claim sum more made
closing_counts (inside terms) segments sum more made =
    left_one terms.admission.account (sent_in segments) (overrun_in segments) sum more made

settled_counts : (settled : Bool) (j : Judged) (steps : List Step) (sum : Sum) (more : List Step)
    → IsSettled settled (closing j steps) more
    → left_in sum (calls_in (on_book more))
    ≡ counted (is_entered (came_to j steps)) settled sum (sent_in (segments_after [] steps))
    (overrun_in (segments_after [] steps))
settled_counts false j steps sum more none =
    nothing_made sum more none
    ∙ sym (uncounted (is_entered (came_to j steps)) sum (sent_in (segments_after [] steps))
    (overrun_in (segments_after [] steps)))
settled_counts true j steps sum more made =
    closing_counts (came_to j steps) (segments_after [] steps) sum more made

-- ---- a connection

-- what a connection called of the book, among what its caller called there
heard_calls : (c : Config) (old now : Histories) (me : ℕ) (steps : List Step)
    → (called : Called c false old now me steps) → own me called.book.more ≡ calls_in (on_book steps)
heard_calls c old now me steps called =
    sym (calls_told (book_answer c) me old.book called.book.more) ∙ ap calls_in called.book.mine

pub leaves_of : (c : Config) (opening : Opening) (me : ℕ) (start now : Histories) (took : List LinkTook)
    (written : List ℕ) (last : Last) (receipt : Receipt) (sum : Sum)
    → LinkGoes c opening me start now took written last receipt
    → Leaves me start.book now.book sum (tallied sum receipt)
leaves_of c opening me start now took written last receipt sum goes =
    let steps : List Step = steps_of goes.events in
    let first : History BookCall = goes.called.book.more in
    let second : History BookCall = goes.closed.book.more in
    let told = goes.receipt_is in
    let begun : IsBegun (plan_of c goes.j) (owed_among steps) = begun_by _ _ _ goes.owes in
    record {
      more = first ++ second;
      on = goes.closed.book.seen ∙ ap (λ (h : History BookCall). h ++ second) goes.called.book.seen
          ∙ append_assoc start.book first second;
      sums = sym (
          ap (left_in sum) (own-append me first second)
          ∙ fold-append after_any sum (own me first) (own me second)
          ∙ ap (λ (s : Sum). left_in s (own me second))
          (ap (left_in sum) (heard_calls c start goes.between me steps goes.called)
          ∙ stays_on (plan_of c goes.j) steps sum (stays_plan c goes.j) begun)
          ∙ ap (left_in sum) (heard_calls c goes.between now me goes.closed_by goes.closed)
          ∙ settled_counts receipt.settled goes.j steps sum goes.closed_by goes.settled
          ∙ sym (ap (λ (b : Bool). counted b receipt.settled sum (sent_in (segments_after [] steps))
          (overrun_in (segments_after [] steps))) told.entered)
          ∙ ap (λ (n : ℕ). counted receipt.entered receipt.settled sum n (overrun_in (segments_after [] steps)))
          (sym told.sent)
          ∙ ap (λ (n : ℕ). counted receipt.entered receipt.settled sum receipt.sent n) (sym told.overrun));
    }

pub leaves_none : (me : ℕ) (h : History BookCall) (sum : Sum) → Leaves me h h sum sum
leaves_none me h sum = record { more = []; on = sym (append-nil h); sums = refl }

pub leaves_both : (me : ℕ) (a b d : History BookCall) (x y z : Sum) → Leaves me a b x y → Leaves me b d y z
    → Leaves me a d x z
leaves_both me a b d x y z first second = record {
  more = first.more ++ second.more;
  on = second.on ∙ ap (λ (h : History BookCall). h ++ second.more) first.on ∙ append_assoc a first.more second.more;
  sums = second.sums ∙ ap (λ (s : Sum). left_in s (own me second.more)) first.sums
      ∙ sym (ap (left_in x) (own-append me first.more second.more)
      ∙ fold-append after_any x (own me first.more) (own me second.more));
}
