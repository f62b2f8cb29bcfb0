-- What a source calls begins no segment and reads none.
use Rattle.std.proofs.Common.{◌≡◌, ◌∙◌, ℕ, Bool, true, false, IsTrue, List, [], ◌∷◌, ◌++◌, refl, ap, subst, Option, None, Some}
use Rattle.std.specs.Prelude.{eqb, cond}
use Rattle.std.proofs.lemmas.Bool.{eq-eqb}
use Rattle.turn_log.specs.History.{History}
use Rattle.turn_log.specs.Heard.{told, Heard}
use Rattle.mount_ring.specs.declared.call.RingCall.{RingCall}
use Rattle.mount_ring.specs.declared.call.RingCall.TheVariants as calls
use Rattle.mount_ring.specs.declared.call.RingAnswer.{RingAnswer}
use Rattle.mount_ring.specs.declared.call.Holder.{Holder}
use Rattle.mount_ring.specs.declared.shape.RingShape.{RingShape}
use Rattle.mount_ring.specs.History as ring
use Rattle.rover_cursor.specs.declared.segment.Segment.{Segment}
use Rattle.rover_cursor.specs.Segments.{after_answer}
use Rattle.session_calls.specs.Steps.{Ask, to_ring, to_book, Step, at_ring, at_book, ask_of, on_ring, on_book}
use Rattle.session_calls.specs.Rings.{Went, history_at, shape_at, answer_at}
use Rattle.rover_session.specs.Made.{segments_after, owed_among}

-- the calls of a source
abbrev pub is_source_call : RingCall → Bool
is_source_call calls.Claim = true
is_source_call (calls.Release claim) = true
is_source_call (calls.Publish claim frame) = true
is_source_call (calls.Join filter) = false
is_source_call calls.Look = false
is_source_call (calls.Read cursor budget) = false

abbrev pub is_source_ask : Ask → Bool
is_source_ask (to_ring mount call) = is_source_call call
is_source_ask (to_book call) = false

abbrev pub AreSource : List Step → Type 0
AreSource [] = Unit {0}
AreSource (step ∷ steps) = IsTrue (is_source_ask (ask_of step)) × AreSource steps

-- none of them reads
pub source_owed : (steps : List Step) → AreSource steps → owed_among steps ≡ steps
source_owed [] are = refl
source_owed (at_ring mount calls.Claim answer ∷ steps) are =
    ap (λ (l : List Step). at_ring mount calls.Claim answer ∷ l) (source_owed steps are.1)
source_owed (at_ring mount (calls.Release claim) answer ∷ steps) are =
    ap (λ (l : List Step). at_ring mount (calls.Release claim) answer ∷ l) (source_owed steps are.1)
source_owed (at_ring mount (calls.Publish claim frame) answer ∷ steps) are =
    ap (λ (l : List Step). at_ring mount (calls.Publish claim frame) answer ∷ l) (source_owed steps are.1)
source_owed (at_ring mount (calls.Join filter) answer ∷ steps) are = let no = are.0 in absurd cc
source_owed (at_ring mount calls.Look answer ∷ steps) are = let no = are.0 in absurd cc
source_owed (at_ring mount (calls.Read cursor budget) answer ∷ steps) are = let no = are.0 in absurd cc
source_owed (at_book call answer ∷ steps) are = let no = are.0 in absurd cc

-- and none is at the book
pub source_off : (steps : List Step) → AreSource steps → on_book steps ≡ []
source_off [] are = refl
source_off (at_ring mount call answer ∷ steps) are = source_off steps are.1
source_off (at_book call answer ∷ steps) are = let no = are.0 in absurd cc

-- ---- one call

-- an answer that leaves all segments as they are
abbrev pub IsQuiet : RingAnswer → Type 0
IsQuiet answer = (mount : ℕ) (segments : List Segment) → after_answer mount segments answer ≡ segments

-- a claim, given or not
pub claim_quiet : (state : ring.State) (holder : Option Holder) → IsQuiet (ring.claim_answer state holder)
claim_quiet state None mount segments = refl
claim_quiet state (Some holder) mount segments = refl

answer_quiet : (shape : ring.Shape) (state : ring.State) (call : RingCall) → IsTrue (is_source_call call)
    → IsQuiet (ring.answer shape state call)
answer_quiet shape state calls.Claim is = claim_quiet state state.holder
answer_quiet shape state (calls.Release claim) is = λ mount segments. refl
answer_quiet shape state (calls.Publish claim frame) is = λ mount segments. refl
answer_quiet shape state (calls.Join filter) is = absurd cc
answer_quiet shape state calls.Look is = absurd cc
answer_quiet shape state (calls.Read cursor budget) is = absurd cc

-- ---- all of a caller's calls at one ring

-- each of a source's calls among these was answered so
abbrev AreQuiet : List (RingCall × RingAnswer) → Type 0
AreQuiet [] = Unit {0}
AreQuiet (pair ∷ pairs) = (IsTrue (is_source_call pair.0) → IsQuiet pair.1) × AreQuiet pairs

told_quiet : (shapes : List RingShape) (mount me : ℕ) (before more : History RingCall)
    → AreQuiet (told (answer_at shapes mount) me before more)
told_quiet shapes mount me before [] = tt
told_quiet shapes mount me before (e ∷ more) =
    let rest : AreQuiet (told (answer_at shapes mount) me (before ++ e ∷ []) more) =
    told_quiet shapes mount me (before ++ e ∷ []) more in
    elim (eqb e.0 me) as (λ t. AreQuiet (cond t ((e.1, answer_at shapes mount before me e.1)
    ∷ told (answer_at shapes mount) me (before ++ e ∷ []) more)
    (told (answer_at shapes mount) me (before ++ e ∷ []) more))) [
      | true ↦ (answer_quiet (shape_at shapes mount) (ring.state_of before) e.1, rest)
      | false ↦ rest
    ]

heard_quiet : (shapes : List RingShape) (alone : Bool) (mount : ℕ) (old now : History RingCall) (me : ℕ)
    (pairs : List (RingCall × RingAnswer)) → Heard alone (answer_at shapes mount) old now me pairs → AreQuiet pairs
heard_quiet shapes alone mount old now me pairs heard =
    subst AreQuiet heard.mine (told_quiet shapes mount me old heard.more)

-- ---- at all rings

-- at each ring the calls of these steps were answered so
abbrev AllQuiet : List Step → Type 0
AllQuiet steps = (mount : ℕ) → AreQuiet (on_ring mount steps)

first_quiet : (mount : ℕ) (call : RingCall) (answer : RingAnswer) (steps : List Step)
    → AreQuiet (on_ring mount (at_ring mount call answer ∷ steps)) → IsTrue (is_source_call call) → IsQuiet answer
first_quiet mount call answer steps quiet is = here (eqb mount mount) (eq-eqb mount mount refl) quiet where
  here : (same : Bool) → same ≡ true
      → AreQuiet ((cond same ((call, answer) ∷ []) []) ++ on_ring mount steps) → IsQuiet answer
  here true e quiet = quiet.0 is
  here false e quiet = absurd cc

rest_quiet : (mount : ℕ) (step : Step) (steps : List Step) → AreQuiet (on_ring mount (step ∷ steps))
    → AreQuiet (on_ring mount steps)
rest_quiet mount (at_ring asked call answer) steps quiet = by (eqb asked mount) quiet where
  by : (same : Bool) → AreQuiet ((cond same ((call, answer) ∷ []) []) ++ on_ring mount steps)
      → AreQuiet (on_ring mount steps)
  by true quiet = quiet.1
  by false quiet = quiet
rest_quiet mount (at_book call answer) steps quiet = quiet

all_quiet : (steps : List Step) (segments : List Segment) → AllQuiet steps → AreSource steps
    → segments_after segments steps ≡ segments
all_quiet [] segments quiet are = refl
all_quiet (at_ring mount call answer ∷ steps) segments quiet are =
    ap (λ (s : List Segment). segments_after s steps)
    (first_quiet mount call answer steps (quiet mount) are.0 mount segments)
    ∙ all_quiet steps segments (λ m. rest_quiet m (at_ring mount call answer) steps (quiet m)) are.1
all_quiet (at_book call answer ∷ steps) segments quiet are = let no = are.0 in absurd cc

pub quiet_on : (shapes : List RingShape) (alone : Bool) (old now : List (History RingCall)) (me : ℕ) (steps : List Step)
    (segments : List Segment) → Went shapes alone old now me steps → AreSource steps
    → segments_after segments steps ≡ segments
quiet_on shapes alone old now me steps segments went are =
    all_quiet steps segments
    (λ mount. heard_quiet shapes alone mount (history_at old mount) (history_at now mount) me (on_ring mount steps)
    (went.rings mount)) are
