-- How a link ended: whether it was halted, and all that it called, with what was refused at its
-- closing.
use Rattle.std.proofs.Common.{◌≡◌, ◌∙◌, ◌++◌, ℕ, Bool, true, false, List, [], ◌∷◌, reverse, Option, None, Some, inl, refl, sym, ap, subst, append_assoc}
use Rattle.std.proofs.lemmas.Grind.{fold-append}
use Rattle.std.proofs.lemmas.List.Concat.{flat_map-append}
use Rattle.std.proofs.lemmas.List.Elements.{filter-append}
use Rattle.turn_log.specs.History.{History}
use Rattle.mount_ring.specs.declared.call.RingCall.{RingCall}
use Rattle.rover_cursor.specs.declared.segment.Segment.{Segment}
use Rattle.session_calls.specs.Steps.{Answer, Step}
use Rattle.session_calls.specs.Plans.{IsMade}
use Rattle.session_calls.proofs.PlanLemmas.{made_begun}
use Rattle.rover_session.specs.Made.{after_step, segments_after, owed_among}
use Rattle.cast_config.specs.declared.config.Config.{Config}
use Rattle.session_model.specs.declared.ending.Ending.{Ending}
use Rattle.session_model.specs.declared.ending.Last.{Last}
use Rattle.session_model.specs.declared.ending.Last.TheVariants as lasts
use Rattle.session_model.specs.declared.report.Receipt.{Receipt}
use Rattle.session_model.specs.Called.{is_halt}
use Rattle.session_model.specs.Endings.{ended_by, at_end, ended_last}
use Rattle.session_model.specs.Judged.{Opening, Judged}
use Rattle.session_model.specs.Owed.{Came, nothing, over, holding, inside, came_by, first_answer, came_to, plan_of, closing}
use Rattle.session_model.specs.Replies.{opening_text, sent_by}
use Rattle.session_model.specs.Reports.{is_entered}
use Rattle.session_model.specs.Run.{Histories, Connected}
use Rattle.session_core.specs.Standing.{EndsAs, is_halted, is_uncalled}
use Rattle.session_core.specs.Closed.{ending_by}
use Rattle.session_model.proofs.GoodLemmas.{good_closing}
use Rattle.session_model.proofs.KeepLemmas.{AllSound}
use Rattle.caster_replay.proofs.WorldClosedLemmas.{received_closed}
use Rattle.session_core.proofs.ReceiptLemmas.{unended_by}
use Rattle.run_promise.specs.Calls.{Call, is_no_read, without_reads}
use Rattle.run_promise.specs.Promised.{Was}
use Rattle.run_promise.proofs.MadeLemmas.{AreAnswered, answered-append, StepsOn, on-append, owed_on}
use Rattle.run_promise.proofs.CallLemmas.{call_in, calls_of}
use Rattle.run_promise.proofs.OwedLemmas.{on_front}
use Rattle.run_promise.proofs.AccountLemmas.{Facts, told_with, was_so}
use Rattle.serve_promise.specs.Links.{AllFrames, told_as}
use Rattle.serve_promise.proofs.StepLemmas.{good_owed}
use Rattle.serve_promise.proofs.ClosesLemmas.{Closes, closing_closers, closers_front, closers_still}
use Rattle.serve_promise.proofs.SameLemmas.{Same, was_same}
use Rattle.serve_promise.proofs.FrameLemmas.{keeps_so}

-- ---- whether it was halted

unhalted : (it : Came) → ended_by it ≡ None → false ≡ is_halt (at_end it)
unhalted nothing unended = refl
unhalted (over reply end) unended = absurd cc
unhalted (holding terms body claim) unended = refl
unhalted (inside terms) unended = refl

last_goes : (last : Last) (it : Came) → ended_by it ≡ None → false ≡ is_halt (ended_last last (at_end it))
last_goes lasts.End it unended = unhalted it unended
last_goes lasts.ReadFault it unended = refl
last_goes lasts.WriteFault it unended = refl

pub halt_same : (ended : Option Ending) (last : Last) (it : Came) → EndsAs ended (ended_by it)
    → is_halted ended ≡ is_halt (ending_by ended last it)
halt_same None last it ends = last_goes last it (unended_by None (ended_by it) ends refl)
halt_same (Some end) last it ends = refl

pub uncalled_none : (steps : List Step) → is_uncalled steps ≡ true → steps ≡ []
uncalled_none [] is = refl
uncalled_none (step ∷ steps) is = absurd cc

-- ---- all that it called, with what was refused at its closing

module _ (c : Config) (j : Judged) (steps closed_by : List Step) (settled : Bool)
    (is : Closes c j steps closed_by settled) where
  abbrev last_all : List Step
  last_all = closed_by ++ is.extra

  all_on : StepsOn [] steps → StepsOn [] (steps ++ last_all)
  all_on on =
      on-append [] steps last_all on
      (owed_on (segments_after [] steps) last_all
      (good_owed (closing j steps) last_all (good_closing (came_to j steps) (segments_after [] steps))
      (made_begun (closing j steps) last_all is.is_made)))

  pub called_on : StepsOn [] steps → StepsOn [] (steps ++ closed_by)
  called_on on =
      on_front [] (steps ++ closed_by) is.extra
      (subst (StepsOn []) (sym (append_assoc steps closed_by is.extra)) (all_on on))

  all_still : segments_after [] (steps ++ last_all) ≡ segments_after [] steps
  all_still = fold-append after_step [] steps last_all
      ∙ closers_still c (segments_after [] steps) last_all is.answered
      (closing_closers j steps last_all is.is_made)

  pub called_still : AreAnswered c closed_by → segments_after [] (steps ++ closed_by) ≡ segments_after [] steps
  called_still answered =
      fold-append after_step [] steps closed_by
      ∙ closers_still c (segments_after [] steps) closed_by answered
      (closers_front closed_by is.extra (closing_closers j steps last_all is.is_made))

  calls_split : without_reads (calls_of (steps ++ last_all))
      ≡ without_reads (calls_of (steps ++ closed_by)) ++ without_reads (calls_of is.extra)
  calls_split =
      ap (λ (l : List Step). without_reads (calls_of l)) (sym (append_assoc steps closed_by is.extra))
      ∙ ap without_reads (flat_map-append call_in (steps ++ closed_by) is.extra)
      ∙ filter-append (λ (one : Call). is_no_read one.asked) (calls_of (steps ++ closed_by)) (calls_of is.extra)

-- ---- one that was not halted

pub whole_so : (c : Config) (histories : List (History RingCall)) (opening : Opening) (me : ℕ) (j : Judged)
    (steps closed_by : List Step) (last : Last) (receipt : Receipt) (due : List ℕ)
    (is : Closes c j steps closed_by receipt.settled) → AreAnswered c steps → StepsOn [] steps
    → IsMade (plan_of c j) (owed_among steps) → AllFrames histories
    → AllSound c histories (segments_after [] steps) → receipt.segments ≡ reverse (segments_after [] steps)
    → receipt.entered ≡ is_entered (came_to j steps)
    → due ≡ sent_by c histories opening (came_to j steps) (reverse (segments_after [] steps))
    → Was c histories (told_as me receipt due) (opening_text c opening) []
    (without_reads (calls_of (steps ++ closed_by)) ++ without_reads (calls_of is.extra)) j
whole_so c histories opening me j steps closed_by last receipt due is answered on plan frames sound segments
    entered_is due_is =
    let closers : List Step = closed_by ++ is.extra in
    let still = all_still c j steps closed_by receipt.settled is in
    let by : first_answer (steps ++ closers) ≡ first_answer steps = received_closed j steps closers is.is_made in
    let h : Histories = record { rings = histories; book = [] } in
    let d : Connected = record {
      number = me;
      opening = opening;
      text = [];
      steps = steps ++ closers;
      closed = Some last;
    } in
    let facts : Facts c h d j [] = record {
      answered = answered-append c steps closers answered is.answered;
      on = all_on c j steps closed_by receipt.settled is on;
      first = steps;
      last = closers;
      split = refl;
      made = plan;
      closed = is.is_made;
      whole = inl refl;
      keeps = keeps_so c histories d frames (subst (AllSound c histories) (sym still) sound);
    } in
    let same : Same (told_with c h d j) (told_as me receipt due) = record {
      bytes = ap (λ (r : Option Answer). sent_by c histories opening (came_by j r)
          (reverse (segments_after [] (steps ++ closers)))) by
          ∙ ap (λ (l : List Segment). sent_by c histories opening (came_to j steps) (reverse l)) still
          ∙ sym due_is;
      entered = ap (λ (r : Option Answer). is_entered (came_by j r)) by ∙ sym entered_is;
      segments = ap reverse still ∙ sym segments;
    } in
    subst (λ (l : List Call). Was c histories (told_as me receipt due) (opening_text c opening) [] l j)
    (calls_split c j steps closed_by receipt.settled is)
    (was_same c histories (told_with c h d j) (told_as me receipt due) (opening_text c opening) []
    (without_reads (calls_of (steps ++ closers))) same j (was_so c h d j [] facts))
