-- The calls at mountpoints among a connection's steps.
use Rattle.std.proofs.Common.{◌≡◌, ◌∙◌, ◌++◌, ℕ, Bool, true, false, cond, List, [], ◌∷◌, fold, refl, sym, ap}
use Rattle.std.specs.Prelude.{◌==◌, if◌then◌else◌}
use Rattle.std.specs.List.{flat_map}
use Rattle.turn_log.specs.History.{History}
use Rattle.turn_log.specs.Heard.{told}
use Rattle.mount_ring.specs.declared.call.RingCall.{RingCall}
use Rattle.mount_ring.specs.declared.call.RingCall.TheVariants.{Claim, Release, Publish, Join, Look, Read}
use Rattle.mount_ring.specs.declared.call.RingAnswer.{RingAnswer}
use Rattle.rover_cursor.specs.declared.segment.Segment.{Segment}
use Rattle.session_calls.specs.Steps.{Step, at_ring, at_book, on_ring}
use Rattle.session_calls.specs.Rings.{history_at, answer_at, Went}
use Rattle.rover_session.specs.Made.{after_step, segments_after, is_call_owed, owed_among}
use Rattle.cast_config.specs.declared.config.Config.{Config}
use Rattle.session_model.specs.Setting.{shapes}
use Rattle.run_promise.specs.Calls.{Call, at_one, AreAllCalls, is_no_read, without_reads, after_one, ReadOn}
use Rattle.run_promise.proofs.MadeLemmas.{StepsOn}

abbrev pub call_in : Step → List Call
call_in (at_ring mount call answer) = record { mount = mount; asked = call; answer = answer } ∷ []
call_in (at_book call answer) = []

abbrev pub calls_of : List Step → List Call
calls_of steps = flat_map call_in steps

-- at one mountpoint
pub same_at : (mount : ℕ) (steps : List Step) → at_one mount (calls_of steps) ≡ on_ring mount steps
same_at mount [] = refl
same_at mount (at_ring asked call answer ∷ steps) =
    ap (λ (l : List (RingCall × RingAnswer)). (if asked == mount then (call, answer) ∷ [] else []) ++ l)
    (same_at mount steps)
same_at mount (at_book call answer ∷ steps) = same_at mount steps

-- the segments
pub same_segments : (segments : List Segment) (steps : List Step)
    → fold after_one segments (calls_of steps) ≡ segments_after segments steps
same_segments segments [] = refl
same_segments segments (at_ring mount call answer ∷ steps) =
    same_segments (after_step segments (at_ring mount call answer)) steps
same_segments segments (at_book call answer ∷ steps) = same_segments segments steps

pub same_reads : (segments : List Segment) (steps : List Step) → StepsOn segments steps
    → ReadOn segments (calls_of steps)
same_reads segments [] on = tt
same_reads segments (at_ring mount call answer ∷ steps) on =
    (on.0, same_reads (after_step segments (at_ring mount call answer)) steps on.1)
same_reads segments (at_book call answer ∷ steps) on = same_reads segments steps on.1

-- those that are no reads
no_read_same : (call : RingCall) → is_no_read call ≡ is_call_owed call
no_read_same Claim = refl
no_read_same (Release claim) = refl
no_read_same (Publish claim frame) = refl
no_read_same (Join filter) = refl
no_read_same Look = refl
no_read_same (Read cursor budget) = refl

kept_if : (b : Bool) (step : Step) (call : Call) (steps : List Step) → call_in step ≡ call ∷ []
    → cond b (call ∷ calls_of steps) (calls_of steps) ≡ calls_of (cond b (step ∷ steps) steps)
kept_if true step call steps is = ap (λ (l : List Call). l ++ calls_of steps) (sym is)
kept_if false step call steps is = refl

pub same_owed : (steps : List Step) → without_reads (calls_of steps) ≡ calls_of (owed_among steps)
same_owed [] = refl
same_owed (at_ring mount call answer ∷ steps) =
    let one : Call = record { mount = mount; asked = call; answer = answer } in
    ap (λ (b : Bool). cond b (one ∷ without_reads (calls_of steps)) (without_reads (calls_of steps)))
    (no_read_same call)
    ∙ ap (λ (l : List Call). cond (is_call_owed call) (one ∷ l) l) (same_owed steps)
    ∙ kept_if (is_call_owed call) (at_ring mount call answer) one (owed_among steps) refl
same_owed (at_book call answer ∷ steps) = same_owed steps

-- ---- they are all that the histories have

pub all_calls : (c : Config) (old now : List (History RingCall)) (me : ℕ) (steps : List Step)
    → ((mount : ℕ) → history_at old mount ≡ []) → Went (shapes c) false old now me steps
    → AreAllCalls c now me (calls_of steps)
all_calls c old now me steps none went mount =
    let heard = went.rings mount in
    let seen : history_at now mount ≡ heard.more =
    heard.seen ∙ ap (λ (h : History RingCall). h ++ heard.more) (none mount) in
    ap (told (answer_at (shapes c) mount) me []) seen
    ∙ ap (λ (h : History RingCall). told (answer_at (shapes c) mount) me h heard.more) (sym (none mount))
    ∙ heard.mine ∙ sym (same_at mount steps)
