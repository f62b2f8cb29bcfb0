-- What was made of a rover's plan are the calls that its reports and its admission select.
use Rattle.std.proofs.Common.{◌≡◌, ◌≢◌, ◌∙◌, ◌++◌, ℕ, Bool, true, false, cond, List, [], ◌∷◌, map, Option, None, Some, inl, inr, refl, sym, ap, subst, append_assoc}
use Rattle.std.specs.Prelude.{◌==◌, slice_index}
use Rattle.std.proofs.lemmas.Bool.{eqb-true, eqb-false}
use Rattle.std.proofs.lemmas.List.{append-nil}
use Rattle.gga_read.specs.declared.Position.{Position}
use Rattle.base_select.specs.declared.Base.{Base}
use Rattle.base_select.specs.Choice.{measures, mounts, nearest_of, chosen, place_of}
use Rattle.base_select.proofs.NearestLemmas.{choice_is_of}
use Rattle.mount_ring.specs.declared.cursor.Cursor.{Cursor}
use Rattle.mount_ring.specs.declared.call.RingCall.{RingCall}
use Rattle.mount_ring.specs.declared.call.RingCall.TheVariants.{Join, Look}
use Rattle.mount_ring.specs.declared.call.RingAnswer.{RingAnswer}
use Rattle.mount_ring.specs.declared.call.RingAnswer.TheVariants.{Joined, Looked}
use Rattle.mount_ring.specs.History.{state_of, live_claim, joined}
use Rattle.session_calls.specs.Steps.{to_ring, Step, at_ring, at_book, of_ring}
use Rattle.session_calls.specs.Plans.{Plan, asks, IsMade}
use Rattle.session_calls.specs.Rings.{answer_at, shape_at}
use Rattle.rover_session.specs.Owed.{Terms, if_live, if_looked, looks, chooses, changed, joins, follows, joins_each, plan_by}
use Rattle.rover_session.specs.Owed as rover
use Rattle.rover_session.proofs.FollowLemmas.{choice_stays}
use Rattle.cast_config.specs.declared.config.Config.{Config}
use Rattle.session_model.specs.Setting.{shapes}
use Rattle.run_promise.specs.Calls.{Call}
use Rattle.run_promise.specs.Calls as calls
use Rattle.run_promise.specs.Selected.{if_held, held, Chooses, Joins, Follows, JoinsEach, Selects}
use Rattle.run_promise.specs.Selected as selected
use Rattle.run_promise.proofs.MadeLemmas.{asks_mount, asks_call, AreAnswered}
use Rattle.run_promise.proofs.CallLemmas.{calls_of}
use Rattle.run_promise.proofs.WalkLemmas.{JoinsSuch}

same_call : (m n : ℕ) (x y : RingCall) (a b : RingAnswer) → m ≡ n → x ≡ y → a ≡ b → calls.call m x a ≡ calls.call n y b
same_call m n x y a b first second third =
    ap (λ (k : ℕ). calls.call k x a) first ∙ ap (λ (z : RingCall). calls.call n z a) second
    ∙ ap (calls.call n y) third

-- ---- looks

live_same : (base : Base) (live : Option ℕ) → if_live base live ≡ if_held base live
live_same base None = refl
live_same base (Some claim) = refl

-- one look on each base was made, and then what follows
record LooksMade (c : Config) (bases these : List Base) (next : List Base → Plan) (steps : List Step) : Type 0 where
  lives : List (Base × Option ℕ)
  rest : List Step
  are : map (λ (live : Base × Option ℕ). live.0) lives ≡ bases
  calls : calls_of steps ≡ selected.looks lives ++ calls_of rest
  answered : AreAnswered c rest
  made : IsMade (next (these ++ held lives)) rest

looks_made : (c : Config) (bases these : List Base) (next : List Base → Plan) (steps : List Step)
    → AreAnswered c steps → IsMade (looks bases these next) steps → LooksMade c bases these next steps
looks_made c [] these next steps answered made = record {
  lives = [];
  rest = steps;
  are = refl;
  calls = refl;
  answered = answered;
  made = subst (λ (all : List Base). IsMade (next all) steps) (sym (append-nil these)) made;
}
looks_made c (base ∷ bases) these next [] answered made = absurd made
looks_made c (base ∷ bases) these next (at_ring mount call answer ∷ steps) answered made =
    let here : mount ≡ base.mount = asks_mount mount base.mount call Look made.0 in
    let look : call ≡ Look = asks_call mount base.mount call Look made.0 in
    let live : Option ℕ = live_claim (state_of answered.0.1).holder in
    let told : answer ≡ Looked live =
    answered.0.2 ∙ ap (answer_at (shapes c) mount answered.0.1 answered.0.0) look in
    let more = looks_made c bases (these ++ rover.if_held base (of_ring answer)) next steps answered.1 made.1 in
    let first : rover.if_held base (of_ring answer) ≡ if_held base live =
    ap (if_looked base) told ∙ live_same base live in
    record {
      lives = (base, live) ∷ more.lives;
      rest = more.rest;
      are = ap (λ (l : List Base). base ∷ l) more.are;
      calls = ap (λ (l : List Call). calls.call mount call answer ∷ l) more.calls
          ∙ ap (λ (k : Call). k ∷ (selected.looks more.lives ++ calls_of more.rest))
          (same_call mount base.mount call Look answer (Looked live) here look told);
      answered = more.answered;
      made = subst (λ (all : List Base). IsMade (next all) more.rest)
          (append_assoc these (rover.if_held base (of_ring answer)) (held more.lives)
          ∙ ap (λ (l : List Base). these ++ (l ++ held more.lives)) first) more.made;
    }
looks_made c (base ∷ bases) these next (at_book call answer ∷ steps) answered made = absurd cc

-- ---- a join

record JoinMade (c : Config) (mount filter : ℕ) (plan : Plan) (steps : List Step) : Type 0 where
  cursor : Cursor
  rest : List Step
  calls : calls_of steps ≡ calls.call mount (Join filter) (Joined cursor) ∷ calls_of rest
  answered : AreAnswered c rest
  made : IsMade plan rest

join_made : (c : Config) (mount filter : ℕ) (plan : Plan) (steps : List Step) → AreAnswered c steps
    → IsMade (asks (to_ring mount (Join filter)) (λ answer. plan)) steps → JoinMade c mount filter plan steps
join_made c mount filter plan [] answered made = absurd made
join_made c mount filter plan (at_ring at call answer ∷ steps) answered made =
    let here : at ≡ mount = asks_mount at mount call (Join filter) made.0 in
    let is : call ≡ Join filter = asks_call at mount call (Join filter) made.0 in
    let cursor : Cursor = joined (shape_at (shapes c) at) (state_of answered.0.1) filter in
    record {
      cursor = cursor;
      rest = steps;
      calls = ap (λ (k : Call). k ∷ calls_of steps)
          (same_call at mount call (Join filter) answer (Joined cursor) here is
          (answered.0.2 ∙ ap (answer_at (shapes c) at answered.0.1 answered.0.0) is));
      answered = answered.1;
      made = made.1;
    }
join_made c mount filter plan (at_book call answer ∷ steps) answered made = absurd cc

record ChangeMade (c : Config) (filter : ℕ) (present next : Option ℕ) (plan : Plan) (steps : List Step) : Type 0 where
  joined : List Call
  rest : List Step
  joins : Joins filter present next joined
  calls : calls_of steps ≡ joined ++ calls_of rest
  answered : AreAnswered c rest
  made : IsMade plan rest

stays_made : (c : Config) (filter : ℕ) (present next : Option ℕ) (plan : Plan) (steps : List Step)
    → AreAnswered c steps → next ≡ present → IsMade plan steps → ChangeMade c filter present next plan steps
stays_made c filter present next plan steps answered same made = record {
  joined = [];
  rest = steps;
  joins = inl (same, refl);
  calls = refl;
  answered = answered;
  made = made;
}

goes_made : (c : Config) (filter : ℕ) (present : Option ℕ) (mount : ℕ) (plan : Plan) (steps : List Step)
    → AreAnswered c steps → Some mount ≢ present → IsMade (asks (to_ring mount (Join filter)) (λ answer. plan)) steps
    → ChangeMade c filter present (Some mount) plan steps
goes_made c filter present mount plan steps answered apart made =
    let one = join_made c mount filter plan steps answered made in record {
      joined = calls.call mount (Join filter) (Joined one.cursor) ∷ [];
      rest = one.rest;
      joins = inr (mount, one.cursor, refl, apart, refl);
      calls = one.calls;
      answered = one.answered;
      made = one.made;
    }

some_same : (m n : ℕ) → ◌≡◌ {A = Option ℕ} (Some m) (Some n) → m ≡ n
some_same m n e = cc

change_if : (c : Config) (filter base mount : ℕ) (same : Bool) (plan : Plan) (steps : List Step)
    → (base == mount) ≡ same → AreAnswered c steps
    → IsMade (joins filter (cond same None (Some mount)) plan) steps
    → ChangeMade c filter (Some base) (Some mount) plan steps
change_if c filter base mount true plan steps is answered made =
    stays_made c filter (Some base) (Some mount) plan steps answered (ap Some (sym (eqb-true base mount is))) made
change_if c filter base mount false plan steps is answered made =
    goes_made c filter (Some base) mount plan steps answered
    (λ e. eqb-false base mount is (sym (some_same mount base e))) made

change_made : (c : Config) (filter : ℕ) (present next : Option ℕ) (plan : Plan) (steps : List Step)
    → (next ≡ None → present ≡ None) → AreAnswered c steps → IsMade (joins filter (changed present next) plan) steps
    → ChangeMade c filter present next plan steps
change_made c filter None None plan steps stays answered made =
    stays_made c filter None None plan steps answered refl made
change_made c filter (Some base) None plan steps stays answered made =
    let none : Some base ≡ None = stays refl in absurd cc
change_made c filter None (Some mount) plan steps stays answered made =
    goes_made c filter None mount plan steps answered (λ e. absurd cc) made
change_made c filter (Some base) (Some mount) plan steps stays answered made =
    change_if c filter base mount (base == mount) plan steps refl answered made

-- ---- all reports

choice_so : (hysteresis : ℕ) (present : Option ℕ) (report : Position) (these : List Base)
    → Chooses hysteresis present report these (chooses hysteresis present report these)
choice_so hysteresis present report [] = refl
choice_so hysteresis present report (base ∷ bases) =
    let all : List ℕ = measures report (base ∷ bases) in
    let mount : ℕ = slice_index (mounts (base ∷ bases))
    (chosen all hysteresis (nearest_of all) (place_of present (base ∷ bases))) in
    (mount, refl, (choice_is_of present report (base ∷ bases) hysteresis mount).1 refl)

follows_made : (c : Config) (terms : Terms) (present : Option ℕ) (told : List Position) (steps : List Step)
    → AreAnswered c steps → IsMade (follows terms present told) steps
    → Follows terms.hysteresis terms.filter terms.bases present told (calls_of steps)
follows_made c terms present [] steps answered made = ap calls_of made
follows_made c terms present (report ∷ later) steps answered made =
    let asked = looks_made c terms.bases []
    (λ these. joins terms.filter (changed present (chooses terms.hysteresis present report these))
    (follows terms (chooses terms.hysteresis present report these) later)) steps answered made in
    let next : Option ℕ = chooses terms.hysteresis present report (held asked.lives) in
    let change = change_made c terms.filter present next (follows terms next later) asked.rest
    (choice_stays terms.hysteresis present report (held asked.lives)) asked.answered asked.made in (
      asked.lives,
      next,
      change.joined,
      calls_of change.rest,
      asked.are,
      choice_so terms.hysteresis present report (held asked.lives),
      change.joins,
      asked.calls ∙ ap (λ (l : List Call). selected.looks asked.lives ++ l) change.calls,
      follows_made c terms next later change.rest change.answered change.made,
    )

each_made : (c : Config) (filter : ℕ) (bases : List Base) (steps : List Step) → AreAnswered c steps
    → IsMade (joins_each filter bases) steps → JoinsEach filter bases (calls_of steps)
each_made c filter [] steps answered made = ap calls_of made
each_made c filter (base ∷ bases) steps answered made =
    let one = join_made c base.mount filter (joins_each filter bases) steps answered made in
    (one.cursor, calls_of one.rest, one.calls, each_made c filter bases one.rest one.answered one.made)

pub plan_made : (c : Config) (near : Bool) (terms : Terms) (told : List Position) (steps : List Step)
    → AreAnswered c steps → IsMade (plan_by near terms told) steps
    → Selects near terms.hysteresis terms.filter terms.bases told (calls_of steps)
plan_made c false terms told steps answered made = each_made c terms.filter terms.bases steps answered made
plan_made c true terms told steps answered made = follows_made c terms None told steps answered made

-- ---- each join is with its filter

abbrev pub IsFilter : ℕ → ℕ → Type 0
IsFilter group filter = filter ≡ group

looks_such : (group : ℕ) (bases these : List Base) (next : List Base → Plan)
    → ((all : List Base) → JoinsSuch (IsFilter group) (next all)) → JoinsSuch (IsFilter group) (looks bases these next)
looks_such group [] these next each = each these
looks_such group (base ∷ bases) these next each =
    (tt, λ answer. looks_such group bases (these ++ rover.if_held base answer) next each)

joins_such : (group : ℕ) (to : Option ℕ) (next : Plan) → JoinsSuch (IsFilter group) next
    → JoinsSuch (IsFilter group) (joins group to next)
joins_such group None next such = such
joins_such group (Some mount) next such = (refl, λ answer. such)

follows_such : (terms : Terms) (present : Option ℕ) (told : List Position)
    → JoinsSuch (IsFilter terms.filter) (follows terms present told)
follows_such terms present [] = tt
follows_such terms present (report ∷ later) =
    looks_such terms.filter terms.bases []
    (λ these. joins terms.filter (changed present (chooses terms.hysteresis present report these))
    (follows terms (chooses terms.hysteresis present report these) later))
    (λ these. joins_such terms.filter (changed present (chooses terms.hysteresis present report these)) _
    (follows_such terms (chooses terms.hysteresis present report these) later))

each_such : (group : ℕ) (bases : List Base) → JoinsSuch (IsFilter group) (joins_each group bases)
each_such group [] = tt
each_such group (base ∷ bases) = (refl, λ answer. each_such group bases)

pub plan_such : (near : Bool) (terms : Terms) (told : List Position)
    → JoinsSuch (IsFilter terms.filter) (plan_by near terms told)
plan_such false terms told = each_such terms.filter terms.bases
plan_such true terms told = follows_such terms None told
