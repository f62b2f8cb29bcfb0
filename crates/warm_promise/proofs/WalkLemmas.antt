-- What the calls that are owed for bytes make of the segments and of the greetings.
use Rattle.std.proofs.Common.{◌≡◌, ◌∙◌, ◌<◌, ◌≤◌, ◌⊎◌, ◌++◌, ℕ, zero, suc, List, [], ◌∷◌, length, take, fold, set, All, None, Some, inl, inr, refl, sym, ap, subst, arith, length-append}
use Rattle.std.proofs.lemmas.List.{append-nil, length-set}
use Rattle.std.proofs.Math.Seq.{drop-length, take-length}
use Rattle.std.proofs.lemmas.List.Elements.{All-head, All-tail, All-cons, All-nil}
use Rattle.turn_log.specs.History.{History}
use Rattle.mount_ring.specs.declared.call.RingCall.{RingCall}
use Rattle.mount_ring.specs.declared.call.RingCall.TheVariants.{Claim, Release, Publish, Join, Look, Read}
use Rattle.mount_ring.specs.Places.{published_by}
use Rattle.mount_ring.specs.History.{state_of, permits_at, joined}
use Rattle.mount_ring.proofs.HistoryLemmas.{published-append}
use Rattle.last_frames.specs.Last.{last_permitted}
use Rattle.last_frames.specs.Greeted.{Greeting, greeted_by, greeted_in, greeted_since}
use Rattle.last_frames.proofs.GreetedLemmas.{greeted_since-more}
use Rattle.rover_cursor.specs.declared.segment.Segment.{Segment}
use Rattle.rover_cursor.specs.Segments.{begun}
use Rattle.rover_cursor.specs.Told.{published_in}
use Rattle.session_calls.specs.Steps.{Ask, to_ring, to_book, Step, ask_of, answer_of}
use Rattle.session_calls.specs.Plans.{Plan, done, asks}
use Rattle.session_calls.specs.Rings.{history_at, shape_at}
use Rattle.rover_session.specs.Made.{after_step, segments_after}
use Rattle.cast_config.specs.declared.config.Config.{Config}
use Rattle.session_model.specs.Setting.{shapes}
use Rattle.session_model.specs.Run.{Histories, with_call, with_calls, step_at, made}
use Rattle.session_model.specs.Promises.{published_at}
use Rattle.session_model.proofs.GoodLemmas.{IsGoodAsk, IsGood}
use Rattle.session_model.proofs.KeepLemmas.{Later, asked_same}
use Rattle.session_model.proofs.QuietLemmas.{claim_quiet}
use Rattle.run_promise.proofs.MadeLemmas.{IsAskWithin, IsWithin}
use Rattle.run_promise.proofs.WalkLemmas.{IsNever, IsJoinAsk, JoinsSuch}
use Rattle.warm_promise.specs.Greeted.{greeting_of}
use Rattle.warm_promise.proofs.BackLemmas.{IsNew, greeting_later}

-- ---- one call

-- one history of several goes on, and the others stay
abbrev IsCalled : ℕ → RingCall → ℕ → ℕ → History RingCall → History RingCall → Type 0
IsCalled me call mount at old now =
    (now ≡ old) ⊎ ((now ≡ old ++ (me, call) ∷ []) × (at ≡ mount))

set_called : (h : List (History RingCall)) (mount at me : ℕ) (call : RingCall) (new : History RingCall)
    → new ≡ history_at h mount ++ (me, call) ∷ []
    → IsCalled me call mount at (history_at h at) (history_at (set h mount new) at)
set_called [] mount at me call new is = inl refl
set_called (first ∷ h) zero zero me call new is = inr (is, refl)
set_called (first ∷ h) zero (suc at) me call new is = inl refl
set_called (first ∷ h) (suc mount) zero me call new is = inl refl
set_called (first ∷ h) (suc mount) (suc at) me call new is = elim (set_called h mount at me call new is) [
  | inl same ↦ inl same
  | inr (changed, here) ↦ inr (changed, ap suc here)
]

set_here : (h : List (History RingCall)) (mount : ℕ) (new : History RingCall) → mount < length h
    → history_at (set h mount new) mount ≡ new
set_here [] mount new within = absurd (omega (arith, within))
set_here (first ∷ h) zero new within = refl
set_here (first ∷ h) (suc mount) new within = set_here h mount new (omega (arith, within))

called_more : (me : ℕ) (call : RingCall) (mount at : ℕ) (old now : History RingCall) → IsCalled me call mount at old now
    → (more : List (List ℕ)) × (published_in now ≡ published_in old ++ more)
called_more me call mount at old now (inl same) =
    ([], ap published_in same ∙ sym (append-nil (published_in old)))
called_more me call mount at old now (inr (changed, here)) =
    (published_by ((me, call) ∷ []), ap published_in changed ∙ published-append old ((me, call) ∷ []))

pub call_later : (me : ℕ) (h : Histories) (ask : Ask) → Later h.rings (with_call me h ask).rings
call_later me h (to_ring mount call) at =
    called_more me call mount at (history_at h.rings at) _
    (set_called h.rings mount at me call (history_at h.rings mount ++ (me, call) ∷ []) refl)
call_later me h (to_book call) at = ([], sym (append-nil (published_in (history_at h.rings at))))

-- ---- since the event

-- how many calls there were, and the greeting since then
abbrev pub count_at : Histories → ℕ → ℕ
count_at h mount = length (history_at h.rings mount)

abbrev pub since : Config → Histories → Histories → ℕ → Greeting
since c old h mount =
    greeted_since (shape_at (shapes c) mount) (count_at old mount) (history_at h.rings mount)

-- where nobody joined there is no greeting; else the newest segment's is that of its mountpoint
abbrev pub AreJoined : Config → Histories → Histories → List Segment → Type 0
AreJoined c old h [] = (mount : ℕ) → since c old h mount ≡ None
AreJoined c old h (segment ∷ news) = since c old h segment.mount ≡ Some (greeting_of c h.rings segment)

-- what stands behind calls that are owed, which began these new segments
pub record Walk (c : Config) (old h : Histories) (before news segments : List Segment) : Type 0 where
  pub all : segments ≡ news ++ before
  pub each : All (IsNew c h.rings) news
  pub joined_is : AreJoined c old h news
  pub longer : (mount : ℕ) → count_at old mount ≤ count_at h mount

pub walk_start : (c : Config) (h : Histories) (segments : List Segment) → Walk c h h segments [] segments
walk_start c h segments = record {
  all = refl;
  each = All-nil (IsNew c h.rings);
  joined_is = λ mount. none_since c h mount (history_at h.rings mount);
  longer = λ mount. omega arith;
}
  where
    none_since : (c : Config) (h : Histories) (mount : ℕ) (history : History RingCall)
        → greeted_since (shape_at (shapes c) mount) (length history) history ≡ None
    none_since c h mount history =
        ap (λ (rest : History RingCall). greeted_in (shape_at (shapes c) mount) (take (length history) history) rest None)
        (drop-length history)

-- ---- new segments stay so

new_later : (c : Config) (old now : List (History RingCall)) (segment : Segment) → Later old now → IsNew c old segment
    → IsNew c now segment
new_later c old now segment later new =
    let more = later segment.mount in
    record {
      unread = new.unread;
      no_laps = new.no_laps;
      within = omega (
        arith,
        new.within,
        ap length more.1,
        length-append (published_at old segment) more.0,
      );
    }

all_new_later : (c : Config) (old now : List (History RingCall)) (news : List Segment) → Later old now
    → All (IsNew c old) news → All (IsNew c now) news
all_new_later c old now [] later all = All-nil (IsNew c now)
all_new_later c old now (segment ∷ news) later all =
    All-cons (IsNew c now) segment news (new_later c old now segment later (All-head (IsNew c old) segment news all))
    (all_new_later c old now news later (All-tail (IsNew c old) segment news all))

-- ---- a call that is no Join

-- it leaves the greetings as they are
since_if : (c : Config) (old h : Histories) (me mount at : ℕ) (call : RingCall) (now : History RingCall)
    → ((g : Greeting) → greeted_by (shape_at (shapes c) at) (state_of (history_at h.rings at)) call g ≡ g)
    → count_at old at ≤ count_at h at → IsCalled me call mount at (history_at h.rings at) now
    → greeted_since (shape_at (shapes c) at) (count_at old at) now ≡ since c old h at
since_if c old h me mount at call now quiet longer (inl same) =
    ap (greeted_since (shape_at (shapes c) at) (count_at old at)) same
since_if c old h me mount at call now quiet longer (inr (changed, here)) =
    ap (greeted_since (shape_at (shapes c) at) (count_at old at)) changed
    ∙ greeted_since-more (shape_at (shapes c) at) (count_at old at) (history_at h.rings at) (me, call) longer
    ∙ quiet (since c old h at)

longer_if : (me mount at : ℕ) (call : RingCall) (count : ℕ) (old now : History RingCall)
    → IsCalled me call mount at old now → count ≤ length old → count ≤ length now
longer_if me mount at call count old now (inl same) longer = omega (arith, longer, ap length same)
longer_if me mount at call count old now (inr (changed, here)) longer =
    omega (arith, longer, ap length changed, length-append old ((me, call) ∷ []))

joined_later : (c : Config) (old h now : Histories) (news : List Segment) → Later h.rings now.rings
    → ((at : ℕ) → since c old now at ≡ since c old h at) → All (IsNew c h.rings) news → AreJoined c old h news
    → AreJoined c old now news
joined_later c old h now [] later same all are = λ mount. same mount ∙ are mount
joined_later c old h now (segment ∷ news) later same all are =
    same segment.mount ∙ are
    ∙ ap (λ (l : List (List ℕ)). Some l) (sym (greeting_later c h.rings now.rings segment later
    (All-head (IsNew c h.rings) segment news all).within))

module _ (c : Config) (old h : Histories) (me mount : ℕ) (call : RingCall) (before news : List Segment) where
  abbrev now : Histories
  now = with_call me h (to_ring mount call)

  called_at : (at : ℕ) → IsCalled me call mount at (history_at h.rings at) (history_at now.rings at)
  called_at at = set_called h.rings mount at me call (history_at h.rings mount ++ (me, call) ∷ []) refl

  quiet_walks : (segments : List Segment)
      → ((at : ℕ) (g : Greeting) → greeted_by (shape_at (shapes c) at) (state_of (history_at h.rings at)) call g ≡ g)
      → Walk c old h before news segments → Walk c old now before news segments
  quiet_walks segments quiet walk =
      let later = call_later me h (to_ring mount call) in
      record {
        all = walk.all;
        each = all_new_later c h.rings now.rings news later walk.each;
        joined_is = joined_later c old h now news later
            (λ at. since_if c old h me mount at call (history_at now.rings at) (quiet at) (walk.longer at) (called_at at))
            walk.each walk.joined_is;
        longer = λ at. longer_if me mount at call (count_at old at) (history_at h.rings at) (history_at now.rings at)
            (called_at at) (walk.longer at);
      }

-- ---- a Join

join_walks : (c : Config) (old h : Histories) (me mount filter : ℕ) (before news segments : List Segment)
    → mount < length h.rings → Walk c old h before news segments
    → Walk c old (with_call me h (to_ring mount (Join filter))) before
    (begun mount (joined (shape_at (shapes c) mount) (state_of (history_at h.rings mount)) filter) ∷ news)
    (after_step segments (step_at c me h (to_ring mount (Join filter))))
join_walks c old h me mount filter before news segments within walk =
    let call : RingCall = Join filter in
    let now : Histories = with_call me h (to_ring mount call) in
    let history = history_at h.rings mount in
    let shape = shape_at (shapes c) mount in
    let first : Segment = begun mount (joined shape (state_of history) filter) in
    let later = call_later me h (to_ring mount call) in
    let here : history_at now.rings mount ≡ history ++ (me, call) ∷ [] =
    set_here h.rings mount (history ++ (me, call) ∷ []) within in
    let published : published_in (history_at now.rings mount) ≡ published_in history =
    ap published_in here ∙ published-append history ((me, call) ∷ []) ∙ append-nil (published_in history) in
    let greeting : greeting_of c now.rings first ≡ last_permitted (permits_at shape filter) (published_in history) =
    ap (λ (l : List (List ℕ)). last_permitted (permits_at shape filter) (take (length (published_in history)) l))
    published
    ∙ ap (last_permitted (permits_at shape filter)) (take-length (published_in history)) in
    record {
      all = ap (λ (l : List Segment). first ∷ l) walk.all;
      each = All-cons (IsNew c now.rings) first news
          (record { unread = refl; no_laps = refl; within = omega (arith, ap length published) })
          (all_new_later c h.rings now.rings news later walk.each);
      joined_is = ap (greeted_since shape (count_at old mount)) here
          ∙ greeted_since-more shape (count_at old mount) history (me, call) (walk.longer mount)
          ∙ ap (λ (l : List (List ℕ)). Some l) (sym greeting);
      longer = λ at. longer_if me mount at call (count_at old at) (history_at h.rings at) (history_at now.rings at)
          (set_called h.rings mount at me call (history ++ (me, call) ∷ []) refl) (walk.longer at);
    }

-- ---- a plan

claim_walks : (c : Config) (old h : Histories) (me mount : ℕ) (before news segments : List Segment)
    → Walk c old h before news segments
    → Walk c old (with_call me h (to_ring mount Claim)) before news
    (after_step segments (step_at c me h (to_ring mount Claim)))
claim_walks c old h me mount before news segments walk =
    subst (Walk c old (with_call me h (to_ring mount Claim)) before news)
    (sym (claim_quiet (state_of (history_at h.rings mount)) (state_of (history_at h.rings mount)).holder mount segments))
    (quiet_walks c old h me mount Claim before news segments (λ at g. refl) walk)

never_walks : (c : Config) (old h : Histories) (me : ℕ) (ask : Ask) (before news segments : List Segment)
    → IsGoodAsk ask → IsJoinAsk IsNever ask → Walk c old h before news segments
    → Walk c old (with_call me h ask) before news (after_step segments (step_at c me h ask))
never_walks c old h me (to_ring mount Claim) before news segments good never walk =
    claim_walks c old h me mount before news segments walk
never_walks c old h me (to_ring mount (Release claim)) before news segments good never walk =
    quiet_walks c old h me mount (Release claim) before news segments (λ at g. refl) walk
never_walks c old h me (to_ring mount (Publish claim frame)) before news segments good never walk =
    quiet_walks c old h me mount (Publish claim frame) before news segments (λ at g. refl) walk
never_walks c old h me (to_ring mount (Join filter)) before news segments good never walk = absurd never
never_walks c old h me (to_ring mount Look) before news segments good never walk =
    quiet_walks c old h me mount Look before news segments (λ at g. refl) walk
never_walks c old h me (to_ring mount (Read cursor budget)) before news segments good never walk = absurd good
never_walks c old h me (to_book call) before news segments good never walk = record {
  all = walk.all;
  each = walk.each;
  joined_is = joined_later c old h (with_call me h (to_book call)) news (call_later me h (to_book call)) (λ at. refl)
      walk.each walk.joined_is;
  longer = walk.longer;
}

-- some new segments
abbrev pub SomeWalk : Config → Histories → Histories → List Segment → List Segment → Type 0
SomeWalk c old h before segments = (news : List Segment) × Walk c old h before news segments

ask_walks : (c : Config) (old h : Histories) (me : ℕ) (ask : Ask) (before news segments : List Segment)
    → IsGoodAsk ask → IsAskWithin (length h.rings) ask → Walk c old h before news segments
    → SomeWalk c old (with_call me h ask) before (after_step segments (step_at c me h ask))
ask_walks c old h me (to_ring mount Claim) before news segments good within walk =
    (news, claim_walks c old h me mount before news segments walk)
ask_walks c old h me (to_ring mount (Release claim)) before news segments good within walk =
    (news, never_walks c old h me (to_ring mount (Release claim)) before news segments good tt walk)
ask_walks c old h me (to_ring mount (Publish claim frame)) before news segments good within walk =
    (news, never_walks c old h me (to_ring mount (Publish claim frame)) before news segments good tt walk)
ask_walks c old h me (to_ring mount (Join filter)) before news segments good within walk =
    (_, join_walks c old h me mount filter before news segments within walk)
ask_walks c old h me (to_ring mount Look) before news segments good within walk =
    (news, never_walks c old h me (to_ring mount Look) before news segments good tt walk)
ask_walks c old h me (to_ring mount (Read cursor budget)) before news segments good within walk = absurd good
ask_walks c old h me (to_book call) before news segments good within walk =
    (news, never_walks c old h me (to_book call) before news segments good tt walk)

call_size : (me : ℕ) (h : Histories) (ask : Ask) → length (with_call me h ask).rings ≡ length h.rings
call_size me h (to_ring mount call) = length-set h.rings mount _
call_size me h (to_book call) = refl

-- the histories behind a call and more steps
abbrev behind : ℕ → Histories → Ask → List Step → Histories
behind me h ask steps = fold (λ h (s : Step). with_call me h (ask_of s)) (with_call me h ask) steps

pub plan_walks : (c : Config) (old h : Histories) (me : ℕ) (plan : Plan) (before news segments : List Segment)
    → IsGood plan → IsWithin (length h.rings) plan → Walk c old h before news segments
    → SomeWalk c old (with_calls me h (made c me h plan)) before (segments_after segments (made c me h plan))
plan_walks c old h me done before news segments good within walk = (news, walk)
plan_walks c old h me (asks ask next) before news segments good within walk =
    let step = step_at c me h ask in
    let now = with_call me h ask in
    let first = ask_walks c old h me ask before news segments good.0 within.0 walk in
    let rest = plan_walks c old now me (next (answer_of step)) before first.0 (after_step segments step)
    (good.1 (answer_of step))
    (subst (λ (n : ℕ). IsWithin n (next (answer_of step))) (sym (call_size me h ask)) (within.1 (answer_of step)))
    first.1 in
    let steps = made c me now (next (answer_of step)) in
    subst (λ (a : Ask). SomeWalk c old (behind me h a steps) before (segments_after (after_step segments step) steps))
    (sym (asked_same c me h ask)) rest

-- and one that joins nowhere
pub never_plan : (c : Config) (old h : Histories) (me : ℕ) (plan : Plan) (before news segments : List Segment)
    → IsGood plan → JoinsSuch IsNever plan → Walk c old h before news segments
    → Walk c old (with_calls me h (made c me h plan)) before news (segments_after segments (made c me h plan))
never_plan c old h me done before news segments good never walk = walk
never_plan c old h me (asks ask next) before news segments good never walk =
    let step = step_at c me h ask in
    let now = with_call me h ask in
    let first = never_walks c old h me ask before news segments good.0 never.0 walk in
    let rest = never_plan c old now me (next (answer_of step)) before news (after_step segments step)
    (good.1 (answer_of step)) (never.1 (answer_of step)) first in
    let steps = made c me now (next (answer_of step)) in
    subst (λ (a : Ask). Walk c old (behind me h a steps) before news (segments_after (after_step segments step) steps))
    (sym (asked_same c me h ask)) rest
