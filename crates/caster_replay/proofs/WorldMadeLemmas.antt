-- Where nobody else calls, the steps of a plan that was made, and the histories behind them, follow
-- from the histories before them.
use Rattle.std.proofs.Common.{◌≡◌, ◌≢◌, ◌∙◌, ◌<◌, ℕ, true, cond, List, [], ◌∷◌, ◌++◌, length, set, refl, sym, ap, subst, inl, inr, arith}
use Rattle.std.proofs.lemmas.Bool.{cases_eq, cases_lt, eq-eqb, ne_eqb}
use Rattle.std.proofs.lemmas.List.{append-nil, ext_get_or, get_or_past, get_or-set_same, get_or-set_other, length-set}
use Rattle.std.proofs.lemmas.List.Elements.{filter-append}
use Rattle.turn_log.specs.History.{History, entries_of}
use Rattle.turn_log.specs.Heard.{Heard, calls_in}
use Rattle.turn_log.proofs.HeardLaws.{heard_first, heard_alone}
use Rattle.mount_ring.specs.declared.call.RingCall.{RingCall}
use Rattle.mount_ring.specs.declared.call.RingAnswer.{RingAnswer}
use Rattle.caster_accounts.specs.declared.call.BookCall.{BookCall}
use Rattle.caster_accounts.specs.declared.call.BookAnswer.{BookAnswer}
use Rattle.session_calls.specs.Steps.{Ask, to_ring, to_book, Step, at_ring, at_book, ask_of, answer_of, on_ring, on_book}
use Rattle.session_calls.specs.Plans.{Plan, done, asks, left, IsMade}
use Rattle.session_calls.specs.Rings.{history_at, answer_at}
use Rattle.session_calls.proofs.PlanLemmas.{made_rest}
use Rattle.rover_session.specs.Made.{is_owed, owed_among}
use Rattle.cast_config.specs.declared.config.Config.{Config}
use Rattle.session_model.specs.Setting.{shapes}
use Rattle.session_core.specs.Beginnings.{histories_of}
use Rattle.session_model.specs.Run.{Histories, with_call, with_calls, step_at, made}
use Rattle.session_model.specs.Called.{Called, book_answer}

-- ---- the calls at one mountpoint

here_first : (mount : ℕ) (call : RingCall) (answer : RingAnswer) (steps : List Step)
    → on_ring mount (at_ring mount call answer ∷ steps) ≡ (call, answer) ∷ on_ring mount steps
here_first mount call answer steps =
    ap (λ b. cond b ((call, answer) ∷ []) [] ++ on_ring mount steps) (eq-eqb mount mount refl)

elsewhere : (mount at : ℕ) (call : RingCall) (answer : RingAnswer) (steps : List Step) → mount ≢ at
    → on_ring at (at_ring mount call answer ∷ steps) ≡ on_ring at steps
elsewhere mount at call answer steps apart =
    ap (λ b. cond b ((call, answer) ∷ []) [] ++ on_ring at steps) (ne_eqb mount at apart)

-- what was heard first at the mountpoint of the first step
heard_here : (c : Config) (old now : Histories) (me mount : ℕ) (call : RingCall) (answer : RingAnswer)
    (steps : List Step)
    → Called c true old now me (at_ring mount call answer ∷ steps)
    → Heard true (answer_at (shapes c) mount) (history_at old.rings mount) (history_at now.rings mount) me
    ((call, answer) ∷ on_ring mount steps)
heard_here c old now me mount call answer steps called =
    subst (λ pairs. Heard true (answer_at (shapes c) mount) (history_at old.rings mount)
    (history_at now.rings mount) me pairs)
    (here_first mount call answer steps) (called.rings.rings mount)

-- there is no call beyond the mountpoints
call_within : (c : Config) (old now : Histories) (me mount : ℕ) (call : RingCall) (answer : RingAnswer)
    (steps : List Step) → Called c true old now me (at_ring mount call answer ∷ steps) → mount < length old.rings
call_within c old now me mount call answer steps called = elim (cases_lt mount (length old.rings)) [
  | inl within ↦ within
  | inr beyond ↦
      let heard = heard_here c old now me mount call answer steps called in
      let before : history_at old.rings mount ≡ [] = get_or_past old.rings mount [] beyond in
      let after : history_at now.rings mount ≡ [] =
      get_or_past now.rings mount [] (omega (arith, beyond, called.rings.size)) in
      let entries = heard_alone heard in
      let none : (me, call) ∷ entries_of me (calls_in (on_ring mount steps)) ≡ [] =
      sym (ap (λ (h : History RingCall). h ++ (me, call) ∷ entries_of me (calls_in (on_ring mount steps))) before)
      ∙ sym entries ∙ after in
      absurd cc
]

-- ---- the first step

-- it was answered from the histories before it, and the rest was called from there on
ring_first : (c : Config) (old now : Histories) (me mount : ℕ) (call : RingCall) (answer : RingAnswer)
    (steps : List Step) → Called c true old now me (at_ring mount call answer ∷ steps)
    → (answer ≡ answer_at (shapes c) mount (history_at old.rings mount) me call)
    × Called c true (with_call me old (to_ring mount call)) now me steps
ring_first c old now me mount call answer steps called =
    let within = call_within c old now me mount call answer steps called in
    let first = heard_first (answer_at (shapes c) mount) (history_at old.rings mount) (history_at now.rings mount) me
    call answer (on_ring mount steps) (heard_here c old now me mount call answer steps called) in
    let new : History RingCall = history_at old.rings mount ++ (me, call) ∷ [] in (
      first.0,
      record {
        rings = record {
          size = called.rings.size ∙ sym (length-set old.rings mount new);
          rings = λ at. elim (cases_eq mount at) [
            | inl same ↦
                subst (λ (m : ℕ). Heard true (answer_at (shapes c) m) (history_at (set old.rings mount new) m)
                (history_at now.rings m) me (on_ring m steps)) same
                (subst (λ (h : History RingCall). Heard true (answer_at (shapes c) mount) h (history_at now.rings mount)
                me (on_ring mount steps)) (sym (get_or-set_same old.rings mount new [] within)) first.1)
            | inr apart ↦
                subst (λ (h : History RingCall). Heard true (answer_at (shapes c) at) h (history_at now.rings at) me
                (on_ring at steps)) (sym (get_or-set_other old.rings mount at new [] (λ e. apart (sym e))))
                (subst (λ pairs. Heard true (answer_at (shapes c) at) (history_at old.rings at)
                (history_at now.rings at)
                me pairs) (elsewhere mount at call answer steps apart) (called.rings.rings at))
          ];
        };
        book = called.book;
      },
    )

book_first : (c : Config) (old now : Histories) (me : ℕ) (call : BookCall) (answer : BookAnswer) (steps : List Step)
    → Called c true old now me (at_book call answer ∷ steps)
    → (answer ≡ book_answer c old.book me call) × Called c true (with_call me old (to_book call)) now me steps
book_first c old now me call answer steps called =
    let first = heard_first (book_answer c) old.book now.book me call answer (on_book steps) called.book in
    (first.0, record { rings = record { size = called.rings.size; rings = called.rings.rings }; book = first.1 })

pub called_first : (c : Config) (old now : Histories) (me : ℕ) (step : Step) (steps : List Step)
    → Called c true old now me (step ∷ steps)
    → (step ≡ step_at c me old (ask_of step)) × Called c true (with_call me old (ask_of step)) now me steps
called_first c old now me (at_ring mount call answer) steps called =
    let first = ring_first c old now me mount call answer steps called in
    (ap (at_ring mount call) first.0, first.1)
called_first c old now me (at_book call answer) steps called =
    let first = book_first c old now me call answer steps called in
    (ap (at_book call) first.0, first.1)

-- ---- all steps

-- nothing was called, and nothing changed
pub called_nothing : (c : Config) (old now : Histories) (me : ℕ) → Called c true old now me [] → now ≡ old
called_nothing c old now me called =
    let rings : now.rings ≡ old.rings =
    ext_get_or [] now.rings old.rings called.rings.size
    (λ at within. heard_alone (called.rings.rings at) ∙ append-nil (history_at old.rings at)) in
    let book : now.book ≡ old.book = heard_alone called.book ∙ append-nil old.book in
    ap (λ (r : List (History RingCall)). histories_of r now.book) rings ∙ ap (histories_of old.rings) book

-- the histories behind the steps
pub histories_now : (c : Config) (me : ℕ) (old now : Histories) (steps : List Step)
    → Called c true old now me steps → now ≡ with_calls me old steps
histories_now c me old now [] called = called_nothing c old now me called
histories_now c me old now (step ∷ steps) called =
    histories_now c me (with_call me old (ask_of step)) now steps (called_first c old now me step steps called).1

pub steps_made : (c : Config) (me : ℕ) (old now : Histories) (plan : Plan) (steps : List Step)
    → Called c true old now me steps → IsMade plan steps → steps ≡ made c me old plan
steps_made c me old now done [] called is = refl
steps_made c me old now done (step ∷ steps) called is = absurd cc
steps_made c me old now (asks ask next) [] called is = absurd is
steps_made c me old now (asks ask next) (step ∷ steps) called is =
    let first = called_first c old now me step steps called in
    let rest = steps_made c me (with_call me old (ask_of step)) now (next (answer_of step)) steps first.1 is.1 in
    let step_is : step ≡ step_at c me old ask = first.0 ∙ ap (step_at c me old) is.0 in
    ap (λ (l : List Step). step ∷ l) rest
    ∙ ap (λ (s : Step). s ∷ made c me (with_call me old (ask_of step)) (next (answer_of s))) step_is
    ∙ ap (λ (a : Ask). step_at c me old ask ∷ made c me (with_call me old a) (next (answer_of
    (step_at c me old ask)))) is.0

-- both
pub made_is : (c : Config) (me : ℕ) (old now : Histories) (plan : Plan) (steps : List Step)
    → Called c true old now me steps → IsMade plan steps
    → (steps ≡ made c me old plan) × (now ≡ with_calls me old steps)
made_is c me old now plan steps called is =
    (steps_made c me old now plan steps called is, histories_now c me old now steps called)

-- ---- what is left of a plan

-- what was made of all that is owed is, behind the first steps, what is left of it; it has no reads
pub owed_made : (plan : Plan) (first more : List Step) → owed_among more ≡ more
    → IsMade plan (owed_among (first ++ more)) → IsMade (left plan (owed_among first)) more
owed_made plan first more no_read is =
    made_rest plan (owed_among first) more
    (subst (λ (l : List Step). IsMade plan l)
    (filter-append is_owed first more ∙ ap (λ (l : List Step). owed_among first ++ l) no_read) is)
