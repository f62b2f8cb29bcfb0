-- What connections owe for their bytes: frames alone are published, and nothing is read.
use Rattle.std.proofs.Common.{◌++◌, ℕ, Bool, true, false, IsTrue, List, [], ◌∷◌, All, Option, None, Some, option_to_list}
use Rattle.std.specs.Bool.{⊤}
use Rattle.std.proofs.lemmas.List.Elements.{All-head, All-tail}
use Rattle.rtcm_frame.specs.Transport.{is_frame}
use Rattle.rtcm_frame.proofs.CutLemmas.{all-frames}
use Rattle.gga_read.specs.declared.Position.{Position}
use Rattle.gga_read.specs.Report.{reports}
use Rattle.base_select.specs.declared.Base.{Base}
use Rattle.mount_ring.specs.declared.call.RingCall.{RingCall}
use Rattle.mount_ring.specs.declared.call.RingCall.TheVariants.{Claim, Release, Publish, Join, Look, Read}
use Rattle.mount_ring.specs.declared.call.RingAnswer.TheVariants as rings
use Rattle.rover_cursor.specs.declared.segment.Segment.{Segment}
use Rattle.session_calls.specs.Steps.{Ask, to_ring, to_book, Answer, of_ring, of_book, Step, answer_of}
use Rattle.session_calls.specs.Plans.{Plan, done, asks, left}
use Rattle.source_session.specs.Body.{payload, frames_of}
use Rattle.upstream_relay.specs.Owed.{publishing, after_claim}
use Rattle.rover_session.specs.Owed.{Terms, if_held, looks, chooses, changed, joins, follows, joins_each, plan_by}
use Rattle.cast_config.specs.declared.config.Config.{Config}
use Rattle.session_model.specs.Judged.{Judged, waiting, finished, source, rover}
use Rattle.session_model.specs.Owed.{Came, nothing, over, holding, inside, is_let_in, if_entered, terms_of, plan_of, closing_by}

-- no read, and no publishing of what is no frame
abbrev pub IsGoodCall : RingCall → Type 0
IsGoodCall Claim = ⊤
IsGoodCall (Release claim) = ⊤
IsGoodCall (Publish claim frame) = IsTrue (is_frame frame)
IsGoodCall (Join filter) = ⊤
IsGoodCall Look = ⊤
IsGoodCall (Read cursor budget) = ⊥

abbrev pub IsGoodAsk : Ask → Type 0
IsGoodAsk (to_ring mount call) = IsGoodCall call
IsGoodAsk (to_book call) = ⊤

abbrev pub IsGood : Plan → Type 0
IsGood done = ⊤
IsGood (asks ask next) = IsGoodAsk ask × ((answer : Answer) → IsGood (next answer))

pub good_left : (plan : Plan) (steps : List Step) → IsGood plan → IsGood (left plan steps)
good_left done steps good = tt
good_left (asks ask next) [] good = good
good_left (asks ask next) (step ∷ steps) good = good_left (next (answer_of step)) steps (good.1 (answer_of step))

-- ---- a source

abbrev IsOne : List ℕ → Type 0
IsOne frame = IsTrue (is_frame frame)

abbrev AreFrames : List (List ℕ) → Type 0
AreFrames frames = All IsOne frames

good_publishing : (mount claim : ℕ) (frames : List (List ℕ)) → AreFrames frames → IsGood (publishing mount claim frames)
good_publishing mount claim [] all = tt
good_publishing mount claim (frame ∷ frames) all = (
  All-head IsOne frame frames all,
  λ answer. good_publishing mount claim frames (All-tail IsOne frame frames all),
)

good_claim : (mount : ℕ) (frames : List (List ℕ)) → AreFrames frames → (answer : Answer)
    → IsGood (after_claim mount frames answer)
good_claim mount frames all (of_ring (rings.Given claim)) = good_publishing mount claim frames all
good_claim mount frames all (of_ring (rings.Taken caller claim)) = tt
good_claim mount frames all (of_ring rings.Released) = tt
good_claim mount frames all (of_ring (rings.At place)) = tt
good_claim mount frames all (of_ring (rings.Joined cursor)) = tt
good_claim mount frames all (of_ring (rings.Looked live)) = tt
good_claim mount frames all (of_ring (rings.Read report)) = tt
good_claim mount frames all (of_book answer) = tt

-- ---- a rover

good_looks : (bases held : List Base) (next : List Base → Plan) → ((all : List Base) → IsGood (next all))
    → IsGood (looks bases held next)
good_looks [] held next each = each held
good_looks (base ∷ bases) held next each = (tt, λ answer. good_looks bases (held ++ if_held base answer) next each)

good_joins : (filter : ℕ) (to : Option ℕ) (next : Plan) → IsGood next → IsGood (joins filter to next)
good_joins filter None next good = good
good_joins filter (Some mount) next good = (tt, λ answer. good)

good_follows : (terms : Terms) (present : Option ℕ) (told : List Position) → IsGood (follows terms present told)
good_follows terms present [] = tt
good_follows terms present (report ∷ later) =
    good_looks terms.bases [] _ (λ held.
    good_joins terms.filter (changed present (chooses terms.hysteresis present report held)) _
    (good_follows terms (chooses terms.hysteresis present report held) later))

good_each : (filter : ℕ) (bases : List Base) → IsGood (joins_each filter bases)
good_each filter [] = tt
good_each filter (base ∷ bases) = (tt, λ answer. good_each filter bases)

good_by : (near : Bool) (terms : Terms) (told : List Position) → IsGood (plan_by near terms told)
good_by false terms told = good_each terms.filter terms.bases
good_by true terms told = good_follows terms None told

good_entered : (let_in : Bool) (plan : Plan) → IsGood plan → IsGood (if_entered let_in plan)
good_entered true plan good = good
good_entered false plan good = tt

-- ---- what is owed for bytes, and at the end

pub good_plan : (c : Config) (j : Judged) → IsGood (plan_of c j)
good_plan c waiting = tt
good_plan c (finished reply end) = tt
good_plan c (source terms body) =
    (tt, good_claim terms.mount (frames_of terms.chunked body) (all-frames (payload terms.chunked body)))
good_plan c (rover terms tail) = (
  tt,
  λ answer. good_entered (is_let_in answer) _
      (good_by terms.admission.near (terms_of c terms.admission) (option_to_list terms.first ++ reports tail)),
)

pub good_closing : (came : Came) (segments : List Segment) → IsGood (closing_by came segments)
good_closing nothing segments = tt
good_closing (over reply end) segments = tt
good_closing (holding terms body claim) segments = (tt, λ answer. tt)
good_closing (inside terms) segments = (tt, λ answer. tt)
