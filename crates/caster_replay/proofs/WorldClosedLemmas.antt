-- The receipt of a connection that was closed is what is told of it, with its closing turn among
-- its steps.
use Rattle.std.proofs.Common.{◌≡◌, ◌∙◌, ◌++◌, ◌⊎◌, ℕ, Bool, true, false, IsTrue, List, [], ◌∷◌, refl, sym, ap, subst, inl, inr, Option, None, Some}
use Rattle.std.specs.Prelude.{reverse, unwrap_or}
use Rattle.std.proofs.lemmas.List.Sums.{fold-append}
use Rattle.mount_ring.specs.declared.call.RingCall.TheVariants.{Release}
use Rattle.caster_accounts.specs.declared.call.BookCall.{BookCall}
use Rattle.rover_cursor.specs.declared.segment.Segment.{Segment}
use Rattle.session_calls.specs.Steps.{Answer, to_ring, to_book, Step}
use Rattle.session_calls.specs.Plans.{Plan, done, asks, IsMade}
use Rattle.rover_session.specs.Made.{after_step, segments_after, sent_in, overrun_in}
use Rattle.cast_config.specs.declared.config.Config.{Config}
use Rattle.session_model.specs.declared.ending.Ending.{Ending}
use Rattle.session_model.specs.declared.ending.Last.{Last}
use Rattle.session_model.specs.declared.report.Receipt.{Receipt}
use Rattle.session_model.specs.Judged.{Judged}
use Rattle.session_model.specs.Owed.{Came, nothing, over, holding, inside, came_by, first_answer, came_to, closing_by, closing}
use Rattle.session_model.specs.Endings.{ended_by, at_end, ended_last}
use Rattle.session_model.specs.Reports.{junk_of, is_entered, receipt_of}
use Rattle.session_model.specs.Run.{Histories, step_at}
use Rattle.session_model.specs.Called.{Called}
use Rattle.session_core.specs.Standing.{is_halted}
use Rattle.session_core.proofs.ClosingLemmas.{free_closed, uncalled_free}
use Rattle.session_core.specs.Closed.{ending_by, IsReceipt}
use Rattle.caster_replay.proofs.WorldMadeLemmas.{called_first}

-- ---- what a closing turn leaves

-- these steps leave any segments what they are
abbrev IsQuiet : List Step → Type 0
IsQuiet steps = (segments : List Segment) → segments_after segments steps ≡ segments

quiet_none : (steps : List Step) → steps ≡ [] → IsQuiet steps
quiet_none steps none segments = ap (segments_after segments) none

-- a claim that is given back
quiet_release : (c : Config) (old now : Histories) (me mount claim : ℕ) (steps : List Step)
    → Called c true old now me steps → IsMade (asks (to_ring mount (Release claim)) (λ answer. done)) steps
    → IsQuiet steps
quiet_release c old now me mount claim [] called is = absurd is
quiet_release c old now me mount claim (step ∷ steps) called is = λ segments.
    let first : step ≡ step_at c me old (to_ring mount (Release claim)) =
    (called_first c old now me step steps called).0 ∙ ap (step_at c me old) is.0 in
    ap (λ (s : Step). segments_after (after_step segments s) steps) first
    ∙ quiet_none steps is.1 segments

-- and an account that is left
quiet_leave : (c : Config) (old now : Histories) (me : ℕ) (call : BookCall) (steps : List Step)
    → Called c true old now me steps → IsMade (asks (to_book call) (λ answer. done)) steps → IsQuiet steps
quiet_leave c old now me call [] called is = absurd is
quiet_leave c old now me call (step ∷ steps) called is = λ segments.
    let first : step ≡ step_at c me old (to_book call) =
    (called_first c old now me step steps called).0 ∙ ap (step_at c me old) is.0 in
    ap (λ (s : Step). segments_after (after_step segments s) steps) first
    ∙ quiet_none steps is.1 segments

quiet_closing : (c : Config) (old now : Histories) (me : ℕ) (came : Came) (last : List Segment)
    (steps : List Step) → Called c true old now me steps → IsMade (closing_by came last) steps → IsQuiet steps
quiet_closing c old now me nothing last steps called is = quiet_none steps is
quiet_closing c old now me (over reply end) last steps called is = quiet_none steps is
quiet_closing c old now me (holding terms body claim) last steps called is =
    quiet_release c old now me terms.mount claim steps called is
quiet_closing c old now me (inside terms) last steps called is = quiet_leave c old now me _ steps called is

pub segments_closed : (c : Config) (old now : Histories) (me : ℕ) (j : Judged) (steps more : List Step)
    → Called c true old now me more → IsMade (closing j steps) more
    → segments_after [] (steps ++ more) ≡ segments_after [] steps
segments_closed c old now me j steps more called is =
    fold-append after_step [] steps more
    ∙ quiet_closing c old now me (came_to j steps) (segments_after [] steps) more called is (segments_after [] steps)

-- who called nothing has nothing to close
closing_none : (j : Judged) (segments : List Segment) (steps : List Step)
    → IsMade (closing_by (came_by j None) segments) steps → steps ≡ []
closing_none j segments steps is =
    subst (λ (p : Plan). IsMade p steps) (free_closed _ segments (uncalled_free [] refl j)) is

pub received_closed : (j : Judged) (steps more : List Step) → IsMade (closing j steps) more
    → first_answer (steps ++ more) ≡ first_answer steps
received_closed j [] more is = ap first_answer (closing_none j [] more is)
received_closed j (step ∷ steps) more is = refl

-- ---- the receipt

-- what is told of a connection that came to this and has these segments, the newest first
abbrev told_by : Came → List Segment → Last → Receipt
told_by came segments last = record {
  ending = unwrap_or (ended_by came) (ended_last last (at_end came));
  segments = reverse segments;
  sent = sent_in segments;
  overrun = overrun_in segments;
  junk = junk_of came;
  entered = is_entered came;
  settled = true;
}

ending_so : (ended : Option Ending) (last : Last) (came : Came)
    → ending_by ended last came ≡ unwrap_or ended (ended_last last (at_end came))
ending_so None last came = refl
ending_so (Some end) last came = refl

junk_so : (ended : Option Ending) (junk due : ℕ) → is_halted ended ≡ false → IsTrue (is_halted ended) ⊎ (junk ≡ due)
    → junk ≡ due
junk_so ended junk due goes (inl halted) = absurd cc
junk_so ended junk due goes (inr is) = is

abbrev put_together : Ending → List Segment → ℕ → ℕ → ℕ → Bool → Bool → Receipt
put_together ending segments sent overrun junk entered settled = record {
  ending = ending;
  segments = segments;
  sent = sent;
  overrun = overrun;
  junk = junk;
  entered = entered;
  settled = settled;
}

told_so : (ended : Option Ending) (j : Judged) (steps : List Step) (last : Last) (receipt : Receipt)
    → IsReceipt ended j steps last receipt → is_halted ended ≡ false → ended ≡ ended_by (came_to j steps)
    → receipt.settled ≡ true → receipt ≡ told_by (came_to j steps) (segments_after [] steps) last
told_so ended j steps last receipt is goes by settled =
    let came = came_to j steps in
    let end = ended_last last (at_end came) in
    let segments = segments_after [] steps in
    let ending : receipt.ending ≡ unwrap_or (ended_by came) end =
    is.ending ∙ ending_so ended last came
    ∙ ap (λ (e : Option Ending). unwrap_or e end) by in
    let junk : receipt.junk ≡ junk_of came = junk_so ended receipt.junk (junk_of came) goes is.junk in
    ap (λ (x : Ending). put_together x receipt.segments receipt.sent receipt.overrun receipt.junk receipt.entered
    receipt.settled) ending
    ∙ ap (λ (x : List Segment). put_together (unwrap_or (ended_by came) end) x receipt.sent
    receipt.overrun receipt.junk receipt.entered receipt.settled) is.segments
    ∙ ap (λ (x : ℕ). put_together (unwrap_or (ended_by came) end) (reverse segments) x
    receipt.overrun receipt.junk receipt.entered receipt.settled) is.sent
    ∙ ap (λ (x : ℕ). put_together (unwrap_or (ended_by came) end) (reverse segments)
    (sent_in segments) x receipt.junk receipt.entered receipt.settled) is.overrun
    ∙ ap (λ (x : ℕ). put_together (unwrap_or (ended_by came) end) (reverse segments)
    (sent_in segments) (overrun_in segments) x receipt.entered receipt.settled) junk
    ∙ ap (λ (x : Bool). put_together (unwrap_or (ended_by came) end) (reverse segments)
    (sent_in segments) (overrun_in segments) (junk_of came) x receipt.settled) is.entered
    ∙ ap (λ (x : Bool). put_together (unwrap_or (ended_by came) end) (reverse segments)
    (sent_in segments) (overrun_in segments) (junk_of came) (is_entered came) x) settled

-- of a connection that was not halted, and each of whose closing turns was taken
pub receipt_told : (c : Config) (old now : Histories) (me : ℕ) (ended : Option Ending) (j : Judged)
    (steps more : List Step) (last : Last) (receipt : Receipt) → Called c true old now me more
    → IsMade (closing j steps) more → IsReceipt ended j steps last receipt → is_halted ended ≡ false
    → ended ≡ ended_by (came_to j steps) → receipt.settled ≡ true
    → receipt ≡ receipt_of j (steps ++ more) last
receipt_told c old now me ended j steps more last receipt called made is goes by settled =
    told_so ended j steps last receipt is goes by settled
    ∙ ap (λ (r : Option Answer). told_by (came_by j r) (segments_after [] steps) last)
    (sym (received_closed j steps more made))
    ∙ ap (λ (s : List Segment). told_by (came_to j (steps ++ more)) s last)
    (sym (segments_closed c old now me j steps more called made))
