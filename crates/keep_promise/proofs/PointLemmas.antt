-- The segments of a caller's rovers are sound at each point of a mountpoint's history.
use Rattle.std.proofs.Common.{◌≡◌, ◌∙◌, ◌++◌, ℕ, Bool, true, false, cond, List, [], ◌∷◌, map, fold, All, Option, None, Some, refl, sym, ap, subst, eqb, eq-eqb, append_assoc}
use Rattle.std.specs.Prelude.{⊤, ◌==◌, if◌then◌else◌}
use Rattle.std.proofs.lemmas.Bool.{eqb-true}
use Rattle.std.proofs.lemmas.List.{append-nil}
use Rattle.std.proofs.lemmas.List.Elements.{All-cons, All-head, All-nil, All-tail}
use Rattle.turn_log.specs.History.{History, GoesOn}
use Rattle.turn_log.specs.Heard.{told}
use Rattle.turn_log.proofs.HeardLaws.{told-append, told_none}
use Rattle.mount_ring.specs.declared.cursor.Cursor.{Cursor}
use Rattle.mount_ring.specs.declared.cursor.ReadReport.{ReadReport}
use Rattle.mount_ring.specs.declared.call.RingCall.{RingCall}
use Rattle.mount_ring.specs.declared.call.RingCall.TheVariants.{Claim, Release, Publish, Join, Look, Read}
use Rattle.mount_ring.specs.declared.call.RingAnswer.{RingAnswer}
use Rattle.mount_ring.specs.declared.call.RingAnswer.TheVariants as answers
use Rattle.mount_ring.specs.declared.call.Holder.{Holder}
use Rattle.mount_ring.specs.Reads.{read_report}
use Rattle.mount_ring.specs.Places.{frames_of}
use Rattle.mount_ring.specs.History as ring
use Rattle.mount_ring.specs.History.{State, claim_answer, joined, permits_at, state_of}
use Rattle.mount_ring.proofs.HistoryLemmas.{published-append}
use Rattle.rover_cursor.specs.declared.segment.Segment.{Segment}
use Rattle.rover_cursor.specs.Segments.{after_answer, begun, read_on}
use Rattle.rover_cursor.specs.Sound.{IsSound}
use Rattle.rover_cursor.specs.Told.{published_in}
use Rattle.rover_cursor.proofs.SoundLemmas.{IsSound-append, IsSound-begun, IsSound-read}
use Rattle.session_calls.specs.Rings.{answer_at, history_at, shape_at}
use Rattle.cast_config.specs.declared.config.Config.{Config}
use Rattle.session_model.specs.Setting.{shapes}
use Rattle.session_model.specs.Run.{Histories, nothing_called}
use Rattle.caster_link.specs.declared.role.Role.{Role}
use Rattle.caster_keep.specs.Links.{Kept}
use Rattle.run_promise.specs.Calls.{Call, after_one, at_one, IsReadOn, ReadOn}
use Rattle.run_promise.proofs.RunLemmas.{nothing_at}
use Rattle.serve_promise.specs.Links.{AreCallsBetween}
use Rattle.keep_promise.specs.Keepers.{AreKeptOn}
use Rattle.keep_promise.specs.Points.{AreSoundThroughout}

abbrev Pairs : Type 0
Pairs = List (RingCall × RingAnswer)

-- ---- which answer goes with which call

-- a report is what reads are answered alone
abbrev IsAnswerTo : RingCall → RingAnswer → Type 0
IsAnswerTo (Read cursor budget) answer = ⊤
IsAnswerTo call (answers.Read report) = ⊥
IsAnswerTo call answer = ⊤

claim_fits : (state : State) (holder : Option Holder) → IsAnswerTo Claim (claim_answer state holder)
claim_fits state None = tt
claim_fits state (Some holder) = tt

answer_fits : (shape : ring.Shape) (state : State) (call : RingCall) → IsAnswerTo call (ring.answer shape state call)
answer_fits shape state Claim = claim_fits state state.holder
answer_fits shape state (Release claim) = tt
answer_fits shape state (Publish claim frame) = tt
answer_fits shape state (Join filter) = tt
answer_fits shape state Look = tt
answer_fits shape state (Read cursor budget) = tt

abbrev PairsFit : Pairs → Type 0
PairsFit [] = ⊤
PairsFit (pair ∷ pairs) = IsAnswerTo pair.0 pair.1 × PairsFit pairs

told_fit : (c : Config) (mount me : ℕ) (before more : History RingCall)
    → PairsFit (told (answer_at (shapes c) mount) me before more)
told_fit c mount me before [] = tt
told_fit c mount me before (e ∷ more) =
    let rest = told_fit c mount me (before ++ e ∷ []) more in
    let later : Pairs = told (answer_at (shapes c) mount) me (before ++ e ∷ []) more in
    elim (eqb e.0 me) as (λ b. PairsFit (cond b ((e.1, answer_at (shapes c) mount before me e.1) ∷ later) later)) [
      | true ↦ (answer_fits (shape_at (shapes c) mount) (state_of before) e.1, rest)
      | false ↦ rest
    ]

abbrev CallsFit : List Call → Type 0
CallsFit [] = ⊤
CallsFit (one ∷ calls) = IsAnswerTo one.asked one.answer × CallsFit calls

one_less : (mount : ℕ) (one : Call) (calls : List Call) → PairsFit (at_one mount (one ∷ calls))
    → PairsFit (at_one mount calls)
one_less mount one calls fit = by_test (one.mount == mount) fit where
  by_test : (b : Bool) → PairsFit ((if b then (one.asked, one.answer) ∷ [] else []) ++ at_one mount calls)
      → PairsFit (at_one mount calls)
  by_test true fit = fit.1
  by_test false fit = fit

first_fits : (one : Call) (calls : List Call) → PairsFit (at_one one.mount (one ∷ calls))
    → IsAnswerTo one.asked one.answer
first_fits one calls fit =
    (subst (λ (b : Bool). PairsFit ((if b then (one.asked, one.answer) ∷ [] else []) ++ at_one one.mount calls))
    (eq-eqb one.mount one.mount refl) fit).0

calls_fit : (calls : List Call) → ((mount : ℕ) → PairsFit (at_one mount calls)) → CallsFit calls
calls_fit [] fit = tt
calls_fit (one ∷ calls) fit =
    (first_fits one calls (fit one.mount), calls_fit calls (λ mount. one_less mount one calls (fit mount)))

-- ---- at one mountpoint

-- a read is one of the newest segment, from where that stands
abbrev IsNext : RingCall → List Segment → Type 0
IsNext (Read cursor budget) [] = ⊥
IsNext (Read cursor budget) (newest ∷ older) = cursor ≡ newest.cursor
IsNext call segments = ⊤

abbrev FollowOn : ℕ → List Segment → Pairs → Type 0
FollowOn mount segments [] = ⊤
FollowOn mount segments (pair ∷ pairs) =
    IsNext pair.0 segments × FollowOn mount (after_answer mount segments pair.1) pairs

-- the segments that the answers of these pairs give
abbrev behind : ℕ → List Segment → Pairs → List Segment
behind mount segments pairs = fold (after_answer mount) segments (map (λ (p : RingCall × RingAnswer). p.1) pairs)

follow_both : (mount : ℕ) (segments : List Segment) (first second : Pairs) → FollowOn mount segments first
    → FollowOn mount (behind mount segments first) second → FollowOn mount segments (first ++ second)
follow_both mount segments [] second one two = two
follow_both mount segments (pair ∷ first) second one two =
    (one.0, follow_both mount (after_answer mount segments pair.1) first second one.1 two)

-- the segments at this mountpoint among these
abbrev here : ℕ → List Segment → List Segment
here mount [] = []
here mount (segment ∷ segments) =
    if segment.mount == mount then segment ∷ here mount segments else here mount segments

-- who is answered with a report reads on
is_read : (call : RingCall) (report : ReadReport) (mount : ℕ) (segments : List Segment) → IsAnswerTo call (answers.Read report)
    → IsReadOn call mount segments
    → (newest : Segment) × (older : List Segment) × (segments ≡ newest ∷ older) × (mount ≡ newest.mount)
is_read Claim report mount segments fits on = absurd fits
is_read (Release claim) report mount segments fits on = absurd fits
is_read (Publish claim frame) report mount segments fits on = absurd fits
is_read (Join filter) report mount segments fits on = absurd fits
is_read Look report mount segments fits on = absurd fits
is_read (Read cursor budget) report mount [] fits on = absurd on
is_read (Read cursor budget) report mount (newest ∷ older) fits on = (newest, older, refl, on.0)

next_here : (call : RingCall) (at mount : ℕ) (segments before : List Segment) → at ≡ mount → IsReadOn call at segments
    → IsNext call (here mount segments ++ before)
next_here Claim at mount segments before same on = tt
next_here (Release claim) at mount segments before same on = tt
next_here (Publish claim frame) at mount segments before same on = tt
next_here (Join filter) at mount segments before same on = tt
next_here Look at mount segments before same on = tt
next_here (Read cursor budget) at mount [] before same on = absurd on
next_here (Read cursor budget) at mount (newest ∷ older) before same on =
    subst (λ (b : Bool). IsNext (Read cursor budget)
    ((if b then newest ∷ here mount older else here mount older) ++ before))
    (sym (eq-eqb newest.mount mount (sym on.0 ∙ same))) on.1

-- an answer at this mountpoint does there what it does to all
same_here : (answer : RingAnswer) (call : RingCall) (at mount : ℕ) (segments before : List Segment) → at ≡ mount
    → IsAnswerTo call answer → IsReadOn call at segments
    → here mount (after_answer at segments answer) ++ before
    ≡ after_answer mount (here mount segments ++ before) answer
same_here (answers.Given claim) call at mount segments before same fits on = refl
same_here (answers.Taken caller claim) call at mount segments before same fits on = refl
same_here answers.Released call at mount segments before same fits on = refl
same_here (answers.At place) call at mount segments before same fits on = refl
same_here (answers.Looked claim) call at mount segments before same fits on = refl
same_here (answers.Joined cursor) call at mount segments before same fits on =
    ap (λ (b : Bool). (if b then begun at cursor ∷ here mount segments else here mount segments) ++ before)
    (eq-eqb at mount same)
    ∙ ap (λ (m : ℕ). begun m cursor ∷ (here mount segments ++ before)) same
same_here (answers.Read report) call at mount segments before same fits on =
    let is = is_read call report at segments fits on in
    let newest : Segment = is.0 in
    let older : List Segment = is.1 in
    let test : (newest.mount == mount) ≡ true = eq-eqb newest.mount mount (sym is.3 ∙ same) in
    ap (λ (l : List Segment). here mount (after_answer at l (answers.Read report)) ++ before) is.2
    ∙ ap (λ (b : Bool). (if b then read_on report newest ∷ here mount older else here mount older) ++ before) test
    ∙ sym (ap (λ (l : List Segment). after_answer mount (here mount l ++ before) (answers.Read report)) is.2
    ∙ ap (λ (b : Bool). after_answer mount ((if b then newest ∷ here mount older else here mount older) ++ before)
    (answers.Read report)) test)

-- an answer at another one does nothing there
other_here : (answer : RingAnswer) (call : RingCall) (at mount : ℕ) (segments : List Segment)
    → (at == mount) ≡ false → IsAnswerTo call answer → IsReadOn call at segments
    → here mount (after_answer at segments answer) ≡ here mount segments
other_here (answers.Given claim) call at mount segments other fits on = refl
other_here (answers.Taken caller claim) call at mount segments other fits on = refl
other_here answers.Released call at mount segments other fits on = refl
other_here (answers.At place) call at mount segments other fits on = refl
other_here (answers.Looked claim) call at mount segments other fits on = refl
other_here (answers.Joined cursor) call at mount segments other fits on =
    ap (λ (b : Bool). if b then begun at cursor ∷ here mount segments else here mount segments) other
other_here (answers.Read report) call at mount segments other fits on =
    let is = is_read call report at segments fits on in
    let newest : Segment = is.0 in
    let older : List Segment = is.1 in
    let test : (newest.mount == mount) ≡ false = ap (λ (n : ℕ). n == mount) (sym is.3) ∙ other in
    ap (λ (l : List Segment). here mount (after_answer at l (answers.Read report))) is.2
    ∙ ap (λ (b : Bool). if b then read_on report newest ∷ here mount older else here mount older) test
    ∙ sym (ap (here mount) is.2
    ∙ ap (λ (b : Bool). if b then newest ∷ here mount older else here mount older) test)

-- the calls of one connection at this mountpoint
calls_follow : (mount : ℕ) (before segments : List Segment) (calls : List Call) → ReadOn segments calls
    → CallsFit calls → FollowOn mount (here mount segments ++ before) (at_one mount calls)
calls_follow mount before segments [] on fit = tt
calls_follow mount before segments (one ∷ calls) on fit =
    by_test (one.mount == mount) refl
    (calls_follow mount before (after_one segments one) calls on.1 fit.1)
  where
    by_test : (b : Bool) → (one.mount == mount) ≡ b
        → FollowOn mount (here mount (after_one segments one) ++ before) (at_one mount calls)
        → FollowOn mount (here mount segments ++ before)
        ((if b then (one.asked, one.answer) ∷ [] else []) ++ at_one mount calls)
    by_test true is later =
        let same : one.mount ≡ mount = eqb-true one.mount mount is in (
          next_here one.asked one.mount mount segments before same on.0,
          subst (λ (l : List Segment). FollowOn mount l (at_one mount calls))
              (same_here one.answer one.asked one.mount mount segments before same fit.0 on.0) later,
        )
    by_test false other later =
        subst (λ (l : List Segment). FollowOn mount (l ++ before) (at_one mount calls))
        (other_here one.answer one.asked one.mount mount segments other fit.0 on.0) later

-- ---- of all connections of a caller

-- the caller's calls since then follow on, whatever segments it has there from before
record FollowFrom (c : Config) (me mount : ℕ) (start now : List (History RingCall)) : Type 0 where
  more : History RingCall
  on : history_at now mount ≡ history_at start mount ++ more
  follow : (segments : List Segment)
      → FollowOn mount segments (told (answer_at (shapes c) mount) me (history_at start mount) more)

link_follows : (c : Config) (me mount : ℕ) (start now : List (History RingCall)) (calls : List Call)
    → AreCallsBetween c start now me calls → ReadOn [] calls → FollowFrom c me mount start now
link_follows c me mount start now calls all on =
    let fit : CallsFit calls =
    calls_fit calls (λ m. subst PairsFit (all m).2 (told_fit c m me (history_at start m) (all m).0)) in
    record {
      more = (all mount).0;
      on = (all mount).1;
      follow = λ segments. subst (FollowOn mount segments) (sym (all mount).2)
          (calls_follow mount segments [] calls on fit);
    }

links_follow : (c : Config) (role : Role) (me mount : ℕ) (histories : Histories) (links : List Kept)
    (start now : Histories) → AreKeptOn c role me histories links start now
    → FollowFrom c me mount start.rings now.rings
links_follow c role me mount histories [] start now same = record {
  more = [];
  on = ap (λ (h : Histories). history_at h.rings mount) same ∙ sym (append-nil (history_at start.rings mount));
  follow = λ segments. tt;
}
links_follow c role me mount histories (kept ∷ links) start now is =
    let kept_is = is.1.entry.kept in
    let one = link_follows c me mount start.rings is.0.rings kept_is.calls kept_is.all_calls kept_is.read_on in
    let rest = links_follow c role me mount histories links is.0 now is.2 in
    let at : History RingCall = history_at start.rings mount in
    record {
      more = one.more ++ rest.more;
      on = rest.on ∙ ap (λ (h : History RingCall). h ++ rest.more) one.on ∙ append_assoc at one.more rest.more;
      follow = λ segments.
          subst (FollowOn mount segments)
          (sym (told-append (answer_at (shapes c) mount) me at one.more rest.more))
          (follow_both mount segments (told (answer_at (shapes c) mount) me at one.more)
          (told (answer_at (shapes c) mount) me (at ++ one.more) rest.more) (one.follow segments)
          (subst (λ (h : History RingCall). FollowOn mount
          (behind mount segments (told (answer_at (shapes c) mount) me at one.more))
          (told (answer_at (shapes c) mount) me h rest.more)) one.on
          (rest.follow (behind mount segments (told (answer_at (shapes c) mount) me at one.more)))));
    }

-- ---- sound at each point

module _ (c : Config) (mount me : ℕ) where
  abbrev shape : ring.Shape
  shape = shape_at (shapes c) mount

  abbrev IsGood : History RingCall → Segment → Type 0
  IsGood before segment = (segment.mount ≡ mount)
      × IsSound (permits_at shape segment.cursor.filter) shape.capacity (published_in before) segment

  abbrev AreGood : History RingCall → List Segment → Type 0
  AreGood before segments = All (IsGood before) segments

  abbrev tells : History RingCall → History RingCall → Pairs
  tells before more = told (answer_at (shapes c) mount) me before more

  published_more : (h : History RingCall) (e : ℕ × RingCall)
      → published_in (h ++ e ∷ []) ≡ published_in h ++ frames_of e.1
  published_more h e =
      published-append h (e ∷ [])
      ∙ ap (λ (more : List (List ℕ)). published_in h ++ more) (append-nil (frames_of e.1))

  good_later : (before : History RingCall) (e : ℕ × RingCall) (segment : Segment) → IsGood before segment
      → IsGood (before ++ e ∷ []) segment
  good_later before e segment good = (
    good.0,
    subst (λ (frames : List (List ℕ)). IsSound (permits_at shape segment.cursor.filter) shape.capacity frames segment)
        (sym (published_more before e))
        (IsSound-append (permits_at shape segment.cursor.filter) shape.capacity (published_in before)
        (frames_of e.1) segment good.1),
  )

  all_later : (before : History RingCall) (e : ℕ × RingCall) (segments : List Segment) → AreGood before segments
      → AreGood (before ++ e ∷ []) segments
  all_later before e [] good = All-nil (IsGood (before ++ e ∷ []))
  all_later before e (segment ∷ segments) good =
      All-cons (IsGood (before ++ e ∷ [])) segment segments
      (good_later before e segment (All-head (IsGood before) segment segments good))
      (all_later before e segments
      (All-tail (IsGood before) segment segments good))

  claim_good : (before : History RingCall) (state : State) (holder : Option Holder) (segments : List Segment)
      → AreGood before segments → AreGood before (after_answer mount segments (claim_answer state holder))
  claim_good before state None segments good = good
  claim_good before state (Some holder) segments good = good

  read_good : (before : History RingCall) (cursor : Cursor) (budget : ℕ) (newest : Segment)
      → cursor ≡ newest.cursor → IsGood before newest
      → IsGood before (read_on (read_report (permits_at shape cursor.filter) shape.capacity (published_in before) cursor
      budget) newest)
  read_good before cursor budget newest same good =
      subst (λ (k : Cursor). IsGood before (read_on (read_report (permits_at shape k.filter) shape.capacity
      (published_in before) k budget) newest)) (sym same) (
        good.0,
        IsSound-read (permits_at shape newest.cursor.filter) shape.capacity (published_in before) newest budget good.1,
      )

  -- one call of this caller, before it is in the history
  one_good : (before : History RingCall) (call : RingCall) (segments : List Segment) → AreGood before segments
      → IsNext call segments
      → AreGood before (after_answer mount segments (ring.answer shape (state_of before) call))
  one_good before Claim segments good next = claim_good before (state_of before) (state_of before).holder segments good
  one_good before (Release claim) segments good next = good
  one_good before (Publish claim frame) segments good next = good
  one_good before (Join filter) segments good next =
      let cursor = joined shape (state_of before) filter in
      All-cons (IsGood before) (begun mount cursor) segments
      (refl, IsSound-begun (permits_at shape filter) shape.capacity (published_in before) mount cursor refl refl) good
  one_good before Look segments good next = good
  one_good before (Read cursor budget) [] good next = absurd next
  one_good before (Read cursor budget) (newest ∷ older) good next =
      let report = read_report (permits_at shape cursor.filter) shape.capacity (published_in before) cursor budget in
      All-cons (IsGood before) (read_on report newest) older
      (read_good before cursor budget newest next
      (All-head (IsGood before) newest older good))
      (All-tail (IsGood before) newest older good)

  -- by each beginning of what follows
  good_by : (done more before after : History RingCall) (segments : List Segment) → more ≡ before ++ after
      → AreGood done segments → FollowOn mount segments (tells done more)
      → AreGood (done ++ before) (behind mount segments (tells done before))
  good_by done more [] after segments is good follow =
      subst (λ (h : History RingCall). AreGood h segments) (sym (append-nil done)) good
  good_by done [] (e ∷ before) after segments is good follow = absurd cc
  good_by done (d ∷ more) (e ∷ before) after segments is good follow =
      let same : d ≡ e = cc in
      let rest : more ≡ before ++ after = cc in
      subst (λ (h : History RingCall). AreGood h (behind mount segments (tells done (e ∷ before))))
      (append_assoc done (e ∷ []) before)
      (by_test (eqb e.0 me)
      (subst (λ (x : ℕ × RingCall). FollowOn mount segments (tells done (x ∷ more))) same follow)
      (λ (next : List Segment) (fine : AreGood (done ++ e ∷ []) next)
      (on : FollowOn mount next (tells (done ++ e ∷ []) more)).
      good_by (done ++ e ∷ []) more before after next rest fine on))
    where
      by_test : (b : Bool)
          → FollowOn mount segments (cond b ((e.1, answer_at (shapes c) mount done me e.1) ∷ tells (done ++ e ∷ []) more)
          (tells (done ++ e ∷ []) more))
          → ((next : List Segment) → AreGood (done ++ e ∷ []) next → FollowOn mount next (tells (done ++ e ∷ []) more)
          → AreGood ((done ++ e ∷ []) ++ before) (behind mount next (tells (done ++ e ∷ []) before)))
          → AreGood ((done ++ e ∷ []) ++ before) (behind mount segments
          (cond b ((e.1, answer_at (shapes c) mount done me e.1) ∷ tells (done ++ e ∷ []) before)
          (tells (done ++ e ∷ []) before)))
      by_test true follow later =
          let next : List Segment = after_answer mount segments (answer_at (shapes c) mount done me e.1) in
          later next (all_later done e next (one_good done e.1 segments good follow.0)) follow.1
      by_test false follow later = later segments (all_later done e segments good) follow

  -- of a history to which this caller added nothing since
  pub sound_throughout : (role : Role) (histories seen : Histories) (links : List Kept) (whole : History RingCall)
      → AreKeptOn c role me histories links (nothing_called c) seen
      → GoesOn me (history_at seen.rings mount) whole → AreSoundThroughout c mount me whole
  sound_throughout role histories seen links whole kept goes before after is =
      let from = links_follow c role me mount histories links (nothing_called c) seen kept in
      let none : history_at (nothing_called c).rings mount ≡ [] = nothing_at c mount in
      let seen_is : history_at seen.rings mount ≡ from.more =
      from.on ∙ ap (λ (h : History RingCall). h ++ from.more) none in
      let first : FollowOn mount [] (tells [] from.more) =
      subst (λ (h : History RingCall). FollowOn mount [] (tells h from.more)) none (from.follow []) in
      let whole_is : whole ≡ from.more ++ goes.0 =
      goes.1 ∙ ap (λ (h : History RingCall). h ++ goes.0) seen_is in
      let all : FollowOn mount [] (tells [] whole) =
      subst (λ (h : History RingCall). FollowOn mount [] (tells [] h)) (sym whole_is)
      (subst (FollowOn mount []) (sym (told-append (answer_at (shapes c) mount) me [] from.more goes.0))
      (follow_both mount [] (tells [] from.more) (tells from.more goes.0) first
      (subst (FollowOn mount (behind mount [] (tells [] from.more)))
      (sym (told_none (answer_at (shapes c) mount) me from.more goes.0 goes.2)) tt))) in
      good_by [] whole before after [] is (All-nil (IsGood [])) all
