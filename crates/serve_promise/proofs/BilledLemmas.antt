-- A link that was served is billed what its receipt says.
use Rattle.std.proofs.Common.{◌≡◌, ◌∙◌, ◌++◌, ℕ, Bool, true, false, List, [], Some, inl, inr, sym, ap, subst}
use Rattle.std.specs.Prelude.{is_some}
use Rattle.cast_io.specs.declared.steps.Step.{Step as LinkStep}
use Rattle.cast_io.specs.Links.{bytes_in}
use Rattle.session_calls.specs.Steps.{Step, on_book}
use Rattle.session_calls.specs.Plans.{IsBegun, Plan}
use Rattle.session_calls.proofs.PlanLemmas.{made_begun}
use Rattle.rover_session.specs.Made.{owed_among}
use Rattle.cast_config.specs.declared.config.Config.{Config}
use Rattle.session_model.specs.declared.ending.Last.{Last}
use Rattle.session_model.specs.declared.report.Receipt.{Receipt}
use Rattle.session_model.specs.Called.{Called, is_halt}
use Rattle.session_model.specs.Courses.{happened, steps_of, text_of}
use Rattle.session_model.specs.Judged.{Opening, judged}
use Rattle.session_model.specs.Owed.{came_to, plan_of}
use Rattle.session_model.specs.Reports.{IsHeadingOf}
use Rattle.session_model.specs.Run.{Histories}
use Rattle.session_core.specs.declared.held.Held.{Held}
use Rattle.session_core.specs.Holding.{HoldsAs}
use Rattle.session_core.specs.Standing.{IsMadeBy, is_halted}
use Rattle.caster_link.specs.Served.{LinkGoes}
use Rattle.caster_link.proofs.CalledLemmas.{called_both}
use Rattle.run_promise.proofs.MadeLemmas.{AreAnswered, StepsOn}
use Rattle.serve_promise.specs.Accounts.{IsBilled}
use Rattle.serve_promise.proofs.StepLemmas.{given_is, called_answered, ran_on}
use Rattle.serve_promise.proofs.EndLemmas.{halt_same}
use Rattle.serve_promise.proofs.LetInLemmas.{IsJudgedSo, let_in}
use Rattle.serve_promise.proofs.BookLemmas.{booked}

begun_by : (halted : Bool) (plan : Plan) (steps : List Step) → IsMadeBy halted plan steps → IsBegun plan steps
begun_by false plan steps made = made_begun plan steps made
begun_by true plan steps begun = begun

module _ (c : Config) (opening : Opening) (me : ℕ) (start now : Histories) (taken : List LinkStep) (written : List ℕ)
    (last : Last) (receipt : Receipt) (goes : LinkGoes c opening me start now taken written last receipt) where
  abbrev pub steps : List Step
  steps = steps_of goes.events

  -- its text is what its reads gave
  pub text_is : text_of (happened goes.events) ≡ bytes_in taken
  text_is = given_is (is_some goes.ended) (happened goes.events) goes.missing taken goes.left_out goes.split

  pub halted_is : is_halted goes.ended ≡ is_halt receipt.ending
  halted_is = halt_same goes.ended last (came_to goes.j steps) goes.ends ∙ ap is_halt (sym goes.receipt_is.ending)

  pub judged_so : IsJudgedSo c opening (bytes_in taken) steps goes.j
  judged_so = elim goes.judged_is [
    | inl (heading, is_heading, same) ↦ inl (
      heading,
      subst (λ (text : List ℕ). IsHeadingOf (Some opening) text heading) text_is is_heading,
      same ∙ ap (judged c opening heading) text_is,
    )
    | inr (ended, none, same) ↦ inr (none, same)
  ]

  pub steps_on : StepsOn [] steps
  steps_on = ran_on c opening (is_halted goes.ended) goes.events goes.ran

  pub steps_begun : IsBegun (plan_of c goes.j) (owed_among steps)
  steps_begun = begun_by (is_halted goes.ended) (plan_of c goes.j) (owed_among steps) goes.owes

  pub all_called : Called c false start now me (steps ++ goes.closed_by)
  all_called = called_both c start goes.between now me steps goes.closed_by goes.called goes.closed

  pub billed : (held : Held) → HoldsAs c opening (came_to goes.j steps) held
      → IsBilled c opening me (bytes_in taken) start.book now.book (record { held = held; receipt = receipt })
  billed held is =
      let answered : AreAnswered c steps = called_answered c start goes.between me steps goes.called in
      let closed : AreAnswered c goes.closed_by =
      called_answered c goes.between now me goes.closed_by goes.closed in
      record {
        let_in = let_in c opening (bytes_in taken) goes.ended goes.j steps last receipt judged_so goes.receipt_is
            halted_is held is;
        calls = on_book (steps ++ goes.closed_by);
        booked = all_called.book;
        are_calls = booked c goes.j steps goes.closed_by receipt answered closed steps_on steps_begun goes.settled
            goes.receipt_is.sent goes.receipt_is.overrun opening held is;
      }
