-- A link that was served is promised.
use Rattle.std.proofs.Common.{◌≡◌, ◌∙◌, ◌⊎◌, ◌++◌, ℕ, Bool, true, false, List, [], reverse, All, Option, Some, inl, inr, refl, sym, ap, subst, append_assoc}
use Rattle.std.specs.Prelude.{◌||◌, is_some}
use Rattle.std.proofs.lemmas.Bool.{and_parts}
use Rattle.std.proofs.lemmas.List.{reverse-reverse}
use Rattle.cast_io.specs.declared.steps.Step.{Step as LinkStep}
use Rattle.cast_io.specs.Links.{bytes_in}
use Rattle.turn_log.specs.History.{History}
use Rattle.mount_ring.specs.declared.call.RingCall.{RingCall}
use Rattle.rover_cursor.specs.declared.segment.Segment.{Segment}
use Rattle.session_calls.specs.Steps.{Step}
use Rattle.session_calls.specs.Rings.{history_at}
use Rattle.rover_session.specs.Body.{body_of}
use Rattle.rover_session.specs.Made.{segments_after, owed_among, sent_in, overrun_in}
use Rattle.cast_config.specs.declared.config.Config.{Config}
use Rattle.session_model.specs.declared.ending.Ending.{Ending}
use Rattle.session_model.specs.declared.ending.Last.{Last}
use Rattle.session_model.specs.declared.report.Receipt.{Receipt}
use Rattle.session_model.specs.Called.{Called, is_halt}
use Rattle.session_model.specs.Judged.{Opening, judged}
use Rattle.session_model.specs.Owed.{came_to, plan_of, closing}
use Rattle.session_model.specs.Promises.{IsSoundIn}
use Rattle.session_model.specs.Replies.{opening_text, reply_of, version_of, sent_by}
use Rattle.session_model.specs.Reports.{IsHeadingOf}
use Rattle.session_model.specs.Run.{Histories}
use Rattle.session_core.specs.Standing.{IsMadeBy, IsSentBy, is_halted, is_uncalled, is_halted_uncalled}
use Rattle.session_core.specs.Closed.{IsSettled, ending_by}
use Rattle.session_model.proofs.KeepLemmas.{AllSound, all_later}
use Rattle.session_model.specs.Courses.{happened, steps_of, text_of}
use Rattle.caster_link.specs.Links.{is_torn}
use Rattle.caster_link.specs.Served.{LinkGoes}
use Rattle.session_core.proofs.ClosingLemmas.{free_out, uncalled_free}
use Rattle.caster_link.proofs.CalledLemmas.{called_both}
use Rattle.caster_replay.proofs.WorldLaterLemmas.{kept_later}
use Rattle.caster_serve.proofs.StreetLemmas.{or_split}
use Rattle.run_promise.specs.Begun.{IsBegun as IsSegmentBegun}
use Rattle.run_promise.specs.Calls.{Call, without_reads, segments_of, ReadOn}
use Rattle.run_promise.proofs.MadeLemmas.{AreAnswered, StepsOn}
use Rattle.run_promise.proofs.BegunLemmas.{AreTold, told_begun}
use Rattle.run_promise.proofs.CallLemmas.{calls_of, same_at, same_segments, same_reads}
use Rattle.run_promise.proofs.AccountLemmas.{sent_so, overrun_so, all_reversed}
use Rattle.serve_promise.specs.Links.{AllFrames, GoOnTo, AreCallsBetween, IsJudgedBy, IsLinkKept}
use Rattle.serve_promise.proofs.StepLemmas.{given_is, called_answered, ran_on}
use Rattle.serve_promise.proofs.ClosesLemmas.{Closes, closes_so, unasked_none}
use Rattle.serve_promise.proofs.FrameLemmas.{keeps_so, later_so}
use Rattle.session_model.proofs.PromiseLemmas.{all_count}
use Rattle.serve_promise.proofs.FirstLemmas.{first_so}
use Rattle.serve_promise.proofs.EndLemmas.{called_on, called_still, halt_same, uncalled_none, whole_so}

module _ (c : Config) (opening : Opening) (me : ℕ) (start now : Histories) (took : List LinkStep)
    (written : List ℕ) (last : Last) (receipt : Receipt) (histories : List (History RingCall))
    (goes : LinkGoes c opening me start now took written last receipt) (on_to : GoOnTo now.rings histories)
    (frames : AllFrames histories) where
  abbrev steps : List Step
  steps = steps_of goes.events

  abbrev segments : List Segment
  segments = segments_after [] steps

  text_is : text_of (happened goes.events) ≡ bytes_in took
  text_is = given_is (is_some goes.ended) (happened goes.events) goes.missing took goes.left_out goes.split

  answered : AreAnswered c steps
  answered = called_answered c start goes.between me steps goes.called

  closed_answered : AreAnswered c goes.closed_by
  closed_answered = called_answered c goes.between now me goes.closed_by goes.closed

  on : StepsOn [] steps
  on = ran_on c opening (is_halted goes.ended) goes.events goes.ran

  closes : Closes c goes.j steps goes.closed_by receipt.settled
  closes = closes_so c me now goes.j steps goes.closed_by receipt.settled closed_answered goes.settled

  sound_back : AllSound c now.rings (reverse segments)
  sound_back = subst (AllSound c now.rings) goes.receipt_is.segments goes.sound

  sound : AllSound c histories segments
  sound = all_later c now.rings histories segments (later_so now.rings histories on_to)
      (subst (AllSound c now.rings) (reverse-reverse segments)
      (all_reversed (IsSoundIn c now.rings) (reverse segments) sound_back))

  abbrev due : List ℕ
  due = sent_by c histories opening (came_to goes.j steps) (reverse segments)

  due_now : sent_by c now.rings opening (came_to goes.j steps) (reverse segments) ≡ due
  due_now = ap (λ (f : List (List ℕ)). opening_text c opening ++ reply_of c (came_to goes.j steps)
      ++ body_of (version_of (came_to goes.j steps)) f)
      (sym (kept_later c now.rings histories (reverse segments) (later_so now.rings histories on_to) sound_back))

  halt_is : is_halted goes.ended ≡ is_halt receipt.ending
  halt_is = halt_same goes.ended last (came_to goes.j steps) goes.ends ∙ ap is_halt (sym goes.receipt_is.ending)

  all_calls : AreCallsBetween c start.rings now.rings me (calls_of (steps ++ goes.closed_by))
  all_calls mount =
      let called : Called c false start now me (steps ++ goes.closed_by) =
      called_both c start goes.between now me steps goes.closed_by goes.called goes.closed in
      let heard = called.rings.rings mount in
      (heard.more, heard.seen, heard.mine ∙ sym (same_at mount (steps ++ goes.closed_by)))

  read_on : ReadOn [] (calls_of (steps ++ goes.closed_by))
  read_on = same_reads [] (steps ++ goes.closed_by)
      (called_on c goes.j steps goes.closed_by receipt.settled closes on)

  segments_are : receipt.segments ≡ reverse (segments_of (calls_of (steps ++ goes.closed_by)))
  segments_are = goes.receipt_is.segments
      ∙ ap reverse (sym (same_segments [] (steps ++ goes.closed_by)
      ∙ called_still c goes.j steps goes.closed_by receipt.settled closes closed_answered))

  -- where each of its segments begins
  begun : All (IsSegmentBegun histories me) receipt.segments
  begun =
      let calls : List Call = calls_of (steps ++ goes.closed_by) in
      let told : AreTold c (history_at start.rings) histories me calls = λ mount.
      let mine = all_calls mount in let later = on_to mount in (
        mine.0,
        later.0,
        later.1 ∙ ap (λ (h : History RingCall). h ++ later.0) mine.1
            ∙ append_assoc (history_at start.rings mount) mine.0 later.0,
        mine.2,
      ) in
      subst (All (IsSegmentBegun histories me)) (sym segments_are)
      (all_reversed (IsSegmentBegun histories me) (segments_of calls)
      (told_begun c (history_at start.rings) histories me calls told read_on))

  -- where it called nothing, nothing was to be closed
  none_called : steps ≡ [] → calls_of (steps ++ goes.closed_by) ≡ []
  none_called none =
      ap (λ (l : List Step). calls_of (l ++ goes.closed_by)) none
      ∙ ap calls_of (unasked_none receipt.settled goes.j [] goes.closed_by
      (subst (λ (l : List Step). IsSettled receipt.settled (closing goes.j l) goes.closed_by) none goes.settled))

  none_entered : steps ≡ [] → receipt.entered ≡ false
  none_entered none = goes.receipt_is.entered ∙ free_out _ (uncalled_free steps none goes.j)

  why_cut : (is_halted_uncalled goes.ended steps || is_torn last) ≡ true
      → (is_torn last ≡ true)
      ⊎ ((is_halt receipt.ending ≡ true) × (receipt.entered ≡ false)
      × (calls_of (steps ++ goes.closed_by) ≡ []))
  why_cut is = elim (or_split (is_halted_uncalled goes.ended steps) (is_torn last) is) [
    | inl uncalled ↦
        let both = and_parts (is_halted goes.ended) (is_uncalled steps) uncalled in
        let none : steps ≡ [] = uncalled_none steps both.1 in
        inr (sym halt_is ∙ both.0, none_entered none, none_called none)
    | inr torn ↦ inl torn
  ]

  judged_so : IsJudgedBy c opening (bytes_in took) receipt (without_reads (calls_of (steps ++ goes.closed_by))) goes.j
  judged_so = elim goes.judged_is [
    | inl (heading, is, same) ↦ inl (
      heading,
      subst (λ (text : List ℕ). IsHeadingOf (Some opening) text heading) text_is is,
      same ∙ ap (judged c opening heading) text_is,
    )
    | inr (ended, none, same) ↦ inr (
      goes.receipt_is.ending ∙ ap (λ (e : Option Ending). ending_by e last (came_to goes.j steps)) ended,
      none_entered none,
      ap without_reads (none_called none),
      same,
    )
  ]

  pub link_kept : IsLinkKept c opening me start.rings now.rings histories (bytes_in took) written last receipt
  link_kept =
      let all : List Step = steps ++ goes.closed_by in
      let told = goes.receipt_is in
      record {
        calls = calls_of all;
        all_calls = all_calls;
        read_on = read_on;
        segments = segments_are;
        sent = told.sent ∙ sent_so segments ∙ ap sent_in (sym told.segments);
        overrun = told.overrun ∙ overrun_so segments ∙ ap overrun_in (sym told.segments);
        begun = begun;
        sound = subst (AllSound c histories) (sym told.segments)
            (all_reversed (IsSoundIn c histories) segments sound);
        counts = all_count c histories receipt.segments
            (subst (AllSound c histories) (sym told.segments)
            (all_reversed (IsSoundIn c histories) segments sound));
        j = goes.j;
        judged_is = judged_so;
        due = due;
        cut_off = is_halted_uncalled goes.ended steps || is_torn last;
        why = why_cut;
        written_is = subst (IsSentBy (is_halted_uncalled goes.ended steps || is_torn last) written) due_now goes.bytes;
        kept_back = without_reads (calls_of closes.extra);
        settled = λ is. ap (λ (l : List Step). without_reads (calls_of l)) (closes.settled_none is);
        releases = closes.releases;
        was = λ goes_on.
            whole_so c histories opening me goes.j steps goes.closed_by last receipt due closes answered on
            (subst (λ (b : Bool). IsMadeBy b (plan_of c goes.j) (owed_among steps)) (halt_is ∙ goes_on) goes.owes)
            frames sound told.segments told.entered refl;
        first = λ halted.
            first_so c histories opening me goes.j steps goes.closed_by receipt due (record {
              answered = answered;
              on = on;
              begun = subst (λ (b : Bool). IsMadeBy b (plan_of c goes.j) (owed_among steps)) (halt_is ∙ halted)
                  goes.owes;
              settled = goes.settled;
              segments = told.segments;
              entered = told.entered;
              due_is = refl;
              keeps = keeps_so c histories _ frames sound;
            });
      }
