-- What a plan becomes where nobody else calls in between: its calls, with their answers, are all
-- that the histories have more.
use Rattle.std.proofs.Common.{◌≡◌, ◌∙◌, ◌<◌, ◌++◌, ℕ, Bool, true, cond, List, [], ◌∷◌, length, fold, refl, sym, ap, subst}
use Rattle.std.specs.Prelude.{⊤}
use Rattle.turn_log.specs.History.{History}
use Rattle.turn_log.proofs.HeardLaws.{heard_call}
use Rattle.mount_ring.specs.declared.call.RingCall.{RingCall}
use Rattle.mount_ring.specs.declared.call.RingCall.TheVariants.{Claim, Release, Publish, Join, Look, Read}
use Rattle.caster_accounts.specs.declared.call.BookCall.{BookCall}
use Rattle.caster_accounts.specs.History as books
use Rattle.rover_cursor.specs.declared.segment.Segment.{Segment}
use Rattle.session_calls.specs.Steps.{Ask, to_ring, to_book, Step, at_ring, at_book, ask_of, answer_of}
use Rattle.session_calls.specs.Plans.{Plan, done, asks, IsMade}
use Rattle.session_calls.specs.Rings.{history_at, answer_at, Went}
use Rattle.session_calls.proofs.PlaceLemmas.{went_by_one}
use Rattle.session_calls.proofs.WentLemmas.{went_none, went_both}
use Rattle.rover_session.specs.Owed.{reads}
use Rattle.rover_session.specs.Made.{after_step, segments_after, is_owed, owed_among}
use Rattle.cast_config.specs.declared.config.Config.{Config}
use Rattle.session_model.specs.Setting.{shapes, caps}
use Rattle.session_model.specs.Run.{Histories, with_call, with_calls, step_at, made}
use Rattle.session_model.proofs.GoodLemmas.{IsGoodAsk, IsGood}
use Rattle.run_promise.specs.Calls.{IsReadOn}
use Rattle.session_model.proofs.KeepLemmas.{asked_same}

-- what two equal calls ask, and where
pub asks_mount : (m n : ℕ) (x y : RingCall) → to_ring m x ≡ to_ring n y → m ≡ n
asks_mount m n x y e = cc

pub asks_call : (m n : ℕ) (x y : RingCall) → to_ring m x ≡ to_ring n y → x ≡ y
asks_call m n x y e = cc

-- the whole plan was made
pub made_is : (c : Config) (me : ℕ) (h : Histories) (plan : Plan) → IsMade plan (made c me h plan)
made_is c me h done = refl
made_is c me h (asks ask next) =
    let step = step_at c me h ask in
    (asked_same c me h ask, made_is c me (with_call me h ask) (next (answer_of step)))

-- ---- at mountpoints that there are

abbrev pub IsAskWithin : ℕ → Ask → Type 0
IsAskWithin count (to_ring mount call) = mount < count
IsAskWithin count (to_book call) = ⊤

abbrev pub IsWithin : ℕ → Plan → Type 0
IsWithin count done = ⊤
IsWithin count (asks ask next) = IsAskWithin count ask × ((answer : _) → IsWithin count (next answer))

one_went : (c : Config) (me : ℕ) (h : Histories) (ask : Ask) → IsAskWithin (length h.rings) ask
    → Went (shapes c) true h.rings (with_call me h ask).rings me (step_at c me h ask ∷ [])
one_went c me h (to_ring mount call) within =
    went_by_one (shapes c) true h.rings (history_at h.rings mount ++ (me, call) ∷ []) me mount call
    (answer_at (shapes c) mount (history_at h.rings mount) me call) within
    (heard_call true (answer_at (shapes c) mount) (history_at h.rings mount) me call)
one_went c me h (to_book call) within =
    let none = went_none (shapes c) true h.rings me in
    record { size = none.size; rings = none.rings }

pub made_went : (c : Config) (me : ℕ) (h : Histories) (plan : Plan) → IsWithin (length h.rings) plan
    → Went (shapes c) true h.rings (with_calls me h (made c me h plan)).rings me (made c me h plan)
made_went c me h done within = went_none (shapes c) true h.rings me
made_went c me h (asks ask next) within =
    let step = step_at c me h ask in
    let now = with_call me h ask in
    let more = made c me now (next (answer_of step)) in
    let first = one_went c me h ask within.0 in
    let rest = made_went c me now (next (answer_of step))
    (subst (λ (n : ℕ). IsWithin n (next (answer_of step))) (sym first.size) (within.1 (answer_of step))) in
    subst (λ (a : Ask). Went (shapes c) true h.rings
    (fold (λ h (s : Step). with_call me h (ask_of s)) (with_call me h a) more).rings me (step ∷ more))
    (sym (asked_same c me h ask))
    (went_both (shapes c) true h.rings now.rings (with_calls me now more).rings me (step ∷ []) more first rest)

-- ---- each answer is one that its place gives

abbrev pub IsAnswered : Config → Step → Type 0
IsAnswered c (at_ring mount call answer) =
    (me : ℕ) × (h : History RingCall) × (answer ≡ answer_at (shapes c) mount h me call)
IsAnswered c (at_book call answer) = (h : History BookCall) × (answer ≡ books.answer (caps c) h call)

abbrev pub AreAnswered : Config → List Step → Type 0
AreAnswered c [] = ⊤
AreAnswered c (step ∷ steps) = IsAnswered c step × AreAnswered c steps

pub answered-append : (c : Config) (first second : List Step) → AreAnswered c first → AreAnswered c second
    → AreAnswered c (first ++ second)
answered-append c [] second x y = y
answered-append c (step ∷ first) second x y = (x.0, answered-append c first second x.1 y)

one_answered : (c : Config) (me : ℕ) (h : Histories) (ask : Ask) → IsAnswered c (step_at c me h ask)
one_answered c me h (to_ring mount call) = (me, history_at h.rings mount, refl)
one_answered c me h (to_book call) = (h.book, refl)

pub made_answered : (c : Config) (me : ℕ) (h : Histories) (plan : Plan) → AreAnswered c (made c me h plan)
made_answered c me h done = tt
made_answered c me h (asks ask next) =
    (one_answered c me h ask, made_answered c me (with_call me h ask) (next (answer_of (step_at c me h ask))))

-- ---- what is owed for bytes has no read

abbrev pub AreOwed : List Step → Type 0
AreOwed [] = ⊤
AreOwed (step ∷ steps) = (is_owed step ≡ true) × AreOwed steps

one_owed : (c : Config) (me : ℕ) (h : Histories) (ask : Ask) → IsGoodAsk ask → is_owed (step_at c me h ask) ≡ true
one_owed c me h (to_ring mount Claim) good = refl
one_owed c me h (to_ring mount (Release claim)) good = refl
one_owed c me h (to_ring mount (Publish claim frame)) good = refl
one_owed c me h (to_ring mount (Join filter)) good = refl
one_owed c me h (to_ring mount Look) good = refl
one_owed c me h (to_ring mount (Read cursor budget)) good = absurd good
one_owed c me h (to_book call) good = refl

pub made_owed : (c : Config) (me : ℕ) (h : Histories) (plan : Plan) → IsGood plan → AreOwed (made c me h plan)
made_owed c me h done good = tt
made_owed c me h (asks ask next) good =
    let step = step_at c me h ask in
    (one_owed c me h ask good.0, made_owed c me (with_call me h ask) (next (answer_of step)) (good.1 (answer_of step)))

pub owed_all : (steps : List Step) → AreOwed steps → owed_among steps ≡ steps
owed_all [] all = refl
owed_all (step ∷ steps) all =
    ap (λ (b : Bool). cond b (step ∷ owed_among steps) (owed_among steps)) all.0
    ∙ ap (λ (l : List Step). step ∷ l) (owed_all steps all.1)

-- ---- each read is of the newest segment

abbrev pub IsStepOn : List Segment → Step → Type 0
IsStepOn segments (at_ring mount call answer) = IsReadOn call mount segments
IsStepOn segments (at_book call answer) = ⊤

abbrev pub StepsOn : List Segment → List Step → Type 0
StepsOn segments [] = ⊤
StepsOn segments (step ∷ steps) = IsStepOn segments step × StepsOn (after_step segments step) steps

pub on-append : (segments : List Segment) (first second : List Step) → StepsOn segments first
    → StepsOn (segments_after segments first) second → StepsOn segments (first ++ second)
on-append segments [] second x y = y
on-append segments (step ∷ first) second x y = (x.0, on-append (after_step segments step) first second x.1 y)

one_on : (segments : List Segment) (step : Step) → is_owed step ≡ true → IsStepOn segments step
one_on segments (at_ring mount Claim answer) owed = tt
one_on segments (at_ring mount (Release claim) answer) owed = tt
one_on segments (at_ring mount (Publish claim frame) answer) owed = tt
one_on segments (at_ring mount (Join filter) answer) owed = tt
one_on segments (at_ring mount Look answer) owed = tt
one_on segments (at_ring mount (Read cursor budget) answer) owed = absurd cc
one_on segments (at_book call answer) owed = tt

pub owed_on : (segments : List Segment) (steps : List Step) → AreOwed steps → StepsOn segments steps
owed_on segments [] all = tt
owed_on segments (step ∷ steps) all = (one_on segments step all.0, owed_on (after_step segments step) steps all.1)

pub turn_on : (c : Config) (me : ℕ) (h : Histories) (segments : List Segment) (budget : ℕ)
    → StepsOn segments (made c me h (reads budget segments))
turn_on c me h [] budget = tt
turn_on c me h (segment ∷ older) budget = ((refl, refl), tt)
