-- A connection that was served is closed.
use Rattle.std.proofs.Common.{◌≡◌, ◌∙◌, ◌≤◌, ◌++◌, length, ℕ, Bool, true, false, List, [], refl, sym, ap, subst, inl, inr, Option, None, Some, append_assoc}
use Rattle.std.specs.Prelude.{is_some, reverse, ◌||◌}
use Rattle.std.proofs.lemmas.List.{append-nil}
use Rattle.std.proofs.lemmas.List.Elements.{All-nil}
use Rattle.cast_io.specs.declared.steps.Step.{Step as LinkTook}
use Rattle.cast_io.specs.Told.{LinkTold}
use Rattle.session_calls.specs.Steps.{Step}
use Rattle.session_calls.specs.Plans.{Plan, IsBegun}
use Rattle.mount_ring.specs.declared.call.RingCall.{RingCall}
use Rattle.turn_log.specs.History.{History}
use Rattle.rover_session.specs.Made.{segments_after, owed_among}
use Rattle.cast_config.specs.declared.config.Config.{Config}
use Rattle.session_model.specs.declared.ending.Ending.{Ending}
use Rattle.session_model.specs.declared.ending.Ending.TheVariants.{Memory}
use Rattle.session_model.specs.declared.ending.Last.{Last}
use Rattle.session_model.specs.declared.ending.Last.TheVariants as lasts
use Rattle.session_model.specs.declared.report.Receipt.{Receipt}
use Rattle.session_core.specs.declared.session.Session.{Session}
use Rattle.session_model.specs.Headings.{Heading}
use Rattle.session_model.specs.Judged.{Opening, Judged, waiting, judged}
use Rattle.session_model.specs.Owed.{Happening, nothing, came_to, plan_of, closing}
use Rattle.session_model.specs.Endings.{ended_by}
use Rattle.session_model.specs.Replies.{opening_text, sent_by}
use Rattle.session_model.specs.Reports.{IsHeadingOf}
use Rattle.session_model.specs.Promises.{IsSoundIn}
use Rattle.session_model.specs.Run.{Histories}
use Rattle.session_model.specs.Called.{Called, OthersCalled}
use Rattle.session_core.specs.Standing.{StandsFor, EndsAs, IsMadeBy, IsSentBy, is_halted, is_uncalled, is_halted_uncalled}
use Rattle.session_core.specs.Closed.{ending_by, IsSettled, IsReceipt, IsClosed}
use Rattle.session_model.proofs.KeepLemmas.{AllSound}
use Rattle.session_core.proofs.ClosingLemmas.{free_closed, free_junk, free_out, uncalled_free}
use Rattle.session_model.specs.Courses.{happened, steps_of, text_of}
use Rattle.caster_link.specs.Links.{Stopped, is_torn}
use Rattle.session_core.specs.declared.held.Held.TheVariants.{Nothing}
use Rattle.session_core.specs.declared.session_stage.SessionStage.{SessionStage}
use Rattle.session_core.specs.Holding.{HoldsAs}
use Rattle.session_core.specs.States.{holding_at, session_holding}
use Rattle.session_core.specs.Asking.{IsAsking, asked_in}
use Rattle.session_core.proofs.AskingLemmas.{asks_so}
use Rattle.session_core.proofs.HoldingLemmas.{holds_so}
use Rattle.caster_link.specs.Stepped.{HasClosed}
use Rattle.caster_link.specs.Served.{Came, IsJudged, LinkGoes, LinkServed}
use Rattle.caster_link.proofs.CalledLemmas.{called_none, called_less, others_none}
use Rattle.caster_link.proofs.LinkLemmas.{link_none}
use Rattle.caster_link.proofs.SoundLemmas.{stands_sound, sound_closed, sent_later}

-- the first bytes of the first bytes are first bytes
sent_through : (cut torn : Bool) (written sent due : List ℕ) → IsSentBy torn written sent
    → IsSentBy cut sent due → IsSentBy (cut || torn) written due
sent_through false false written sent due first second = first ∙ second
sent_through false true written sent due first second = (first.0, sym second ∙ first.1)
sent_through true false written sent due first second =
    (second.0, second.1 ∙ ap (λ (l : List ℕ). l ++ second.0) (sym first))
sent_through true true written sent due first second = (
  first.0 ++ second.0,
  second.1 ∙ ap (λ (l : List ℕ). l ++ second.0) first.1 ∙ append_assoc written first.0 second.0,
)

-- ---- what its bytes say it is

-- of one whose session was lost nothing is sent but how it opened
lost_due : (c : Config) (rings : List (History RingCall)) (opening : Opening) (steps : List Step) → steps ≡ []
    → sent_by c rings opening (came_to waiting steps) (reverse (segments_after [] steps))
    ≡ opening_text c opening ++ []
lost_due c rings opening steps none =
    ap (λ (s : List Step). sent_by c rings opening (came_to waiting s) (reverse (segments_after [] s))) none
    ∙ append-nil (opening_text c opening ++ [])

lost_cut : (ended : Option Ending) (steps : List Step) → ended ≡ Some Memory → steps ≡ []
    → is_halted_uncalled ended steps ≡ true
lost_cut ended steps halted none = ap (λ (e : Option Ending). is_halted_uncalled e steps) halted ∙ ap is_uncalled none

-- and it called nothing
lost_owes : (c : Config) (ended : Option Ending) (steps : List Step) → ended ≡ Some Memory → steps ≡ []
    → IsMadeBy (is_halted ended) (plan_of c waiting) (owed_among steps)
lost_owes c ended steps halted none =
    subst (λ (e : Option Ending). IsMadeBy (is_halted e) (plan_of c waiting) (owed_among steps)) (sym halted)
    (subst (λ (s : List Step). IsBegun (plan_of c waiting) (owed_among s)) (sym none) tt)

-- its closing makes nothing
lost_settled : (settled : Bool) (j : Judged) (steps more : List Step) → steps ≡ []
    → IsSettled settled (closing j steps) more → IsSettled settled (closing waiting steps) more
lost_settled settled j steps more none is =
    subst (λ (p : Plan). IsSettled settled p more)
    (free_closed (came_to j steps) (segments_after [] steps) (uncalled_free steps none j)
    ∙ sym (free_closed (came_to waiting steps) (segments_after [] steps) (uncalled_free steps none waiting))) is

lost_receipt : (ended : Option Ending) (j : Judged) (steps : List Step) (last : Last) (receipt : Receipt)
    → ended ≡ Some Memory → steps ≡ [] → IsReceipt ended j steps last receipt
    → IsReceipt ended waiting steps last receipt
lost_receipt ended j steps last receipt halted none is = record {
  ending = is.ending ∙ ap (λ (e : Option Ending). ending_by e last (came_to j steps)) halted
      ∙ sym (ap (λ (e : Option Ending). ending_by e last nothing) halted);
  segments = is.segments;
  sent = is.sent;
  overrun = is.overrun;
  junk = inl (ap is_halted halted);
  at_most = subst (λ (n : ℕ). receipt.junk ≤ n)
      (free_junk (came_to j steps) (uncalled_free steps none j)) is.at_most;
  entered = is.entered ∙ free_out (came_to j steps) (uncalled_free steps none j);
}

-- ---- the whole

-- what its bytes ask is told of its session
came_asks : (c : Config) (opening : Opening) (me : ℕ) (start between : Histories) (session : Session)
    (before after : LinkTold) (last : Last) (came : Came c opening me start between session before after last)
    (heading : Heading) → IsHeadingOf (Some opening) (text_of (happened came.reached.events)) heading
    → IsAsking session.asked session.ended (asked_in heading)
came_asks c opening me start between session before after last came heading is =
    asks_so session opening heading (text_of came.whats)
    (subst (λ (w : List Happening). IsHeadingOf (Some opening) (text_of w) heading) came.reached.happened_are is)
    came.reached.asks

-- it goes so, its session held what these events came to, and what is told of it is what their
-- bytes ask
abbrev GoesSo : Config → Opening → ℕ → Histories → Histories → Session → List LinkTook → List ℕ → Last → Receipt → Type 0
GoesSo c opening me start now session taken written last receipt =
    (goes : LinkGoes c opening me start now taken written last receipt)
    × HoldsAs c opening (came_to goes.j (steps_of goes.events)) (session_holding session)
    × ((heading : Heading) → IsHeadingOf (Some opening) (text_of (happened goes.events)) heading
    → IsAsking session.asked goes.ended (asked_in heading))

goes_by : (c : Config) (opening : Opening) (me : ℕ) (alone : Bool) (start between now : Histories)
    (session : Session) (before after : LinkTold) (last : Last) (receipt : Receipt)
    (came : Came c opening me start between session before after last) (j : Judged) (more : List Step)
    → IsJudged c opening (text_of came.whats) (steps_of came.reached.events) session.ended j
    → EndsAs session.ended (ended_by (came_to j (steps_of came.reached.events)))
    → IsMadeBy (is_halted session.ended) (plan_of c j) (owed_among (steps_of came.reached.events))
    → IsSentBy (is_halted_uncalled session.ended (steps_of came.reached.events)) came.sent
    (sent_by c between.rings opening (came_to j (steps_of came.reached.events))
    (reverse (segments_after [] (steps_of came.reached.events))))
    → Called c alone between now session.me more
    → IsSettled receipt.settled (closing j (steps_of came.reached.events)) more
    → IsReceipt session.ended j (steps_of came.reached.events) last receipt
    → AllSound c between.rings (segments_after [] (steps_of came.reached.events))
    → HoldsAs c opening (came_to j (steps_of came.reached.events)) (session_holding session)
    → GoesSo c opening me start now session came.taken came.written last receipt
goes_by c opening me alone start between now session before after last receipt came j more is ends owes due called
    settled told sound holds =
    let reached = came.reached in
    let same : came.whats ≡ happened reached.events = sym reached.happened_are in
    let cut : Bool = is_halted_uncalled session.ended (steps_of reached.events) in
    let closed : Called c false between now me more =
    called_less c alone between now me more
    (subst (λ (n : ℕ). Called c alone between now n more) reached.caller called) in (
      record {
        events = reached.events;
        ended = session.ended;
        ran = reached.ran;
        missing = came.missing;
        split = ap (λ w. w ++ came.missing) reached.happened_are ∙ came.split;
        left_out = came.left_out;
        stopped = subst (λ w. Stopped (is_some session.ended) (length (text_of w)) came.taken last) same came.stopped;
        between = between;
        called = reached.called;
        j = j;
        judged_is = subst (λ w. IsJudged c opening (text_of w) (steps_of reached.events) session.ended j) same is;
        ends = ends;
        owes = owes;
        bytes = subst (IsSentBy (cut || is_torn last) came.written)
            (sent_later c between now me opening j (steps_of reached.events) more sound closed)
            (sent_through cut (is_torn last) came.written came.sent _ came.bytes due);
        closed_by = more;
        closed = closed;
        settled = settled;
        receipt_is = told;
        sound = subst (AllSound c now.rings) (sym told.segments)
            (sound_closed c between now me (steps_of reached.events) more sound closed);
      },
      holds,
      came_asks c opening me start between session before after last came,
    )

-- what `close` says
abbrev pub Closes : Config → Opening → Bool → Histories → Histories → Session → Last → Receipt → Type 0
Closes c opening alone between now session last receipt =
    (heading : Heading) (text : List ℕ) (steps : List Step) (histories : Histories) (sent : List ℕ)
    → IsHeadingOf (Some opening) text heading → StandsFor c session opening text steps histories sent
    → OthersCalled histories between session.me
    → IsClosed c alone between now session.me session.ended (judged c opening heading text) steps last receipt

goes_on_stands : (c : Config) (opening : Opening) (me : ℕ) (alone : Bool) (start between now : Histories)
    (session : Session) (before after : LinkTold) (last : Last) (receipt : Receipt)
    (came : Came c opening me start between session before after last)
    → Closes c opening alone between now session last receipt
    → StandsFor c session opening (text_of came.whats) (steps_of came.reached.events) between came.sent
    → GoesSo c opening me start now session came.taken came.written last receipt
goes_on_stands c opening me alone start between now session before after last receipt came closes (inl stands) =
    let steps : List Step = steps_of came.reached.events in
    let j : Judged = judged c opening stands.heading (text_of came.whats) in
    let closed : IsClosed c alone between now session.me session.ended j steps last receipt =
    closes stands.heading (text_of came.whats) steps between came.sent stands.is_heading (inl stands)
    (others_none between session.me) in
    goes_by c opening me alone start between now session before after last receipt came j closed.more
    (inl (stands.heading, stands.is_heading, refl)) stands.ends stands.owes stands.sent_is closed.called closed.settled
    closed.receipt_is
    (stands_sound c session opening (text_of came.whats) steps between came.sent (inl stands))
    (holds_so c session opening stands.heading (text_of came.whats) steps between came.sent stands.is_heading
    (inl stands))
goes_on_stands c opening me alone start between now session before after last receipt came closes (inr lost) =
    let reached = came.reached in
    let steps : List Step = steps_of reached.events in
    let j : Judged = judged c opening reached.first [] in
    let closed : IsClosed c alone between now session.me session.ended j steps last receipt =
    closes reached.first [] steps between came.sent reached.is_first (inr lost) (others_none between session.me) in
    goes_by c opening me alone start between now session before after last receipt came waiting closed.more
    (inr (lost.ended, lost.uncalled, refl)) (inl (ap is_halted lost.ended))
    (lost_owes c session.ended steps lost.ended lost.uncalled)
    (subst (λ (cut : Bool). IsSentBy cut came.sent
    (sent_by c between.rings opening (came_to waiting steps) (reverse (segments_after [] steps))))
    (sym (lost_cut session.ended steps lost.ended lost.uncalled))
    ([], lost_due c between.rings opening steps lost.uncalled ∙ ap (λ (l : List ℕ). l ++ []) (sym lost.unsent)))
    closed.called (lost_settled receipt.settled j steps closed.more lost.uncalled closed.settled)
    (lost_receipt session.ended j steps last receipt lost.ended lost.uncalled closed.receipt_is)
    (stands_sound c session opening (text_of came.whats) steps between came.sent (inr lost))
    (subst (λ (stage : SessionStage). HoldsAs c opening (came_to waiting steps) (holding_at stage)) (sym lost.stage)
    (uncalled_free steps lost.uncalled waiting))

pub came_closed : (c : Config) (opening : Opening) (me : ℕ) (alone : Bool) (start between now : Histories)
    (session : Session) (before after : LinkTold) (last : Last) (receipt : Receipt)
    → Came c opening me start between session before after last
    → Closes c opening alone between now session last receipt
    → HasClosed c opening me start now before after (session_holding session) session.asked receipt
came_closed c opening me alone start between now session before after last receipt came closes =
    let so = goes_on_stands c opening me alone start between now session before after last receipt came closes
    came.reached.stands in record {
      served = record {
        taken = came.taken;
        written = came.written;
        link = came.link;
        last = last;
        goes = so.0;
        caused = came.caused;
      };
      held = so.1;
      asked = so.2;
    }

-- a session for which there was no memory called nothing, was sent nothing, and held and asked
-- nothing
pub unopened : (c : Config) (opening : Opening) (me : ℕ) (now : Histories) (told : LinkTold) (receipt : Receipt)
    → IsSettled receipt.settled (closing waiting []) []
    → IsReceipt (Some Memory) waiting [] lasts.End receipt
    → HasClosed c opening me now now told told Nothing None receipt
unopened c opening me now told receipt settled is = record {
  served = served;
  held = tt;
  asked = λ heading is. inr (refl, refl);
} where
  served : LinkServed c opening me now now told told receipt
  served = record {
    taken = [];
    written = [];
    link = link_none told;
    last = lasts.End;
    goes = record {
      events = [];
      ended = Some Memory;
      ran = record { whole = []; last = []; split = refl; course = tt; broken = tt };
      missing = [];
      split = refl;
      left_out = inl refl;
      stopped = inr (refl, inl refl);
      between = now;
      called = called_none c now me;
      j = waiting;
      judged_is = inr (refl, refl, refl);
      ends = inl refl;
      owes = tt;
      bytes = (sent_by c now.rings opening (came_to waiting []) (reverse (segments_after [] [])), refl);
      closed_by = [];
      closed = called_none c now me;
      settled = settled;
      receipt_is = is;
      sound = subst (AllSound c now.rings) (sym is.segments) (All-nil (IsSoundIn c now.rings));
    };
    caused = tt;
  }
