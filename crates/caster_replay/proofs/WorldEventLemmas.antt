-- What happens to one connection of a recorded run: from what its session's calls ensure, what the
-- run keeps of it stands for what it becomes.
use Rattle.std.proofs.Common.{◌≡◌, ◌∙◌, ◌++◌, ℕ, Bool, true, false, List, [], refl, sym, ap, subst, inl, inr, Option, None, Some}
use Rattle.std.specs.Prelude.{unwrap_or, is_none, ◌&&◌}
use Rattle.session_calls.specs.Steps.{Step}
use Rattle.session_calls.specs.Plans.{Plan, left, IsMade}
use Rattle.rover_session.specs.Owed.{reads}
use Rattle.rover_session.specs.Made.{segments_after, owed_among}
use Rattle.cast_config.specs.declared.config.Config.{Config}
use Rattle.session_model.specs.declared.ending.Ending.{Ending}
use Rattle.session_model.specs.declared.ending.Last.{Last}
use Rattle.session_model.specs.declared.ending.Last.TheVariants as lasts
use Rattle.session_model.specs.declared.report.Receipt.{Receipt}
use Rattle.session_core.specs.declared.session.Session.{Session}
use Rattle.session_model.specs.Headings.{Heading}
use Rattle.session_model.specs.Judged.{Opening, Judged, judged}
use Rattle.session_model.specs.Owed.{plan_of, Happening, arrives, takes_turn, ends, closing}
use Rattle.session_model.specs.Reports.{IsHeadingOf}
use Rattle.session_model.specs.Run.{Histories, Connected, Moved, judged_of, with_text, with_last, makes, closed_if, moved}
use Rattle.session_model.specs.Called.{Called}
use Rattle.session_core.specs.Turned.{Turned}
use Rattle.session_core.specs.Standing.{is_halted, Stands, StandsFor, Fed}
use Rattle.session_core.specs.Closed.{IsSettled, IsClosed}
use Rattle.session_core.proofs.CloseLemmas.{called_none}
use Rattle.session_model.proofs.GoodLemmas.{good_left, good_plan}
use Rattle.session_model.proofs.KeepLemmas.{AreFrames, AllSound}
use Rattle.session_model.proofs.WellLemmas.{IsSoundOf, makes_moves}
use Rattle.caster_replay.specs.Lives.{IsGoing, IsKept}
use Rattle.caster_replay.specs.declared.run_connection.State.{State}
use Rattle.caster_replay.specs.declared.run_connection.State.TheVariants.{Open, Closed}
use Rattle.caster_replay.proofs.WorldMadeLemmas.{owed_made}
use Rattle.caster_replay.proofs.WorldLaterLemmas.{called_after}
use Rattle.caster_replay.proofs.WorldStepLemmas.{owes_so, stepped, makes_so, judged_so, owes_all, ended_so, sent_all, going_now, came_moved, closed_as, over_now}

-- ---- what a run keeps of a connection

-- what happened made this of the connection and of the histories, by its calls alone, and this is
-- kept of it
pub record Becomes (c : Config) (heading : Heading) (old now : Histories) (d : Connected) (what : Happening)
    (state : State) (bytes : List ℕ) : Type 0 where
  pub connection : Connected
  pub is : moved c heading old d what ≡ record { connection = connection; histories = now }
  pub number : connection.number ≡ d.number
  pub steps : List Step
  pub called : Called c true old now d.number steps
  pub kept : IsKept c heading now connection state bytes

-- ---- a session that is not halted stands

-- it is not lost for want of memory
pub stands_so : (c : Config) (session : Session) (o : Opening) (text : List ℕ) (steps : List Step) (h : Histories)
    (sent : List ℕ) → StandsFor c session o text steps h sent → is_halted session.ended ≡ false
    → Stands c session o text steps h sent
stands_so c session o text steps h sent (inl s) goes = s
stands_so c session o text steps h sent (inr lost) goes =
    let halted : is_halted session.ended ≡ true = ap is_halted lost.ended in absurd cc

-- ---- what a call to a session says of it

-- bytes came, and the session that took them was not halted
module _ (c : Config) (heading : Heading) (old mid : Histories) (d : Connected) (text : List ℕ) (session : Session)
    (before after rest : List ℕ) (fed : Fed c true old mid session d.opening (d.text ++ text) d.steps before before
    after)
    (no_read : owed_among fed.more ≡ fed.more) (me : session.me ≡ d.number) (goes : is_halted session.ended ≡ false)
    (said : IsHeadingOf (Some d.opening) ((d.text ++ text) ++ rest) heading) where
  -- the connection with the bytes and steps
  abbrev pub fed_to : Moved
  fed_to = stepped (with_text d (d.text ++ text)) fed.more mid

  abbrev pub fed_by : Judged
  fed_by = judged c d.opening heading (d.text ++ text)

  pub fed_called : Called c true old mid d.number fed.more
  fed_called = subst (λ (n : ℕ). Called c true old mid n fed.more) me fed.called

  pub fed_stands : Stands c session d.opening (d.text ++ text) (d.steps ++ fed.more) mid after
  fed_stands =
      subst (λ (l : List ℕ). Stands c session d.opening (d.text ++ text) (d.steps ++ fed.more) mid l) (sym fed.out)
      (stands_so c session d.opening (d.text ++ text) (d.steps ++ fed.more) mid (before ++ fed.added) fed.stands goes)

  pub fed_moved : moved c heading old d (arrives text) ≡ closed_if session.ended c fed_by fed_to
  fed_moved = came_moved c heading old mid d text fed.more session after rest fed_stands goes said no_read fed_called

  -- it goes on
  pub feed_goes : d.closed ≡ None → session.ended ≡ None → Becomes c heading old mid d (arrives text) (Open session)
      after
  feed_goes uncut on = record {
    connection = fed_to.connection;
    is = fed_moved ∙ ap (λ (e : Option Ending). closed_if e c fed_by fed_to) on;
    number = refl;
    steps = fed.more;
    called = fed_called;
    kept = going_now c heading mid fed_to.connection session after rest fed_stands me on uncut said;
  }

  -- what was sent in its segments stands in the histories
  fed_sound : AreFrames old.rings → IsSoundOf c old.rings d
      → AllSound c mid.rings (segments_after [] (d.steps ++ fed.more))
  fed_sound frames sound =
      let plan : Plan = left (plan_of c fed_by) (owed_among d.steps) in
      let owes : IsMade (plan_of c fed_by) (owed_among (d.steps ++ fed.more)) =
      owes_all c heading mid fed_to.connection session after rest fed_stands goes said in
      let moves = makes_moves c old (with_text d (d.text ++ text)) plan
      (good_left (plan_of c fed_by) (owed_among d.steps) (good_plan c fed_by)) frames sound in
      let is : makes c old (with_text d (d.text ++ text)) plan ≡ fed_to =
      makes_so c old mid (with_text d (d.text ++ text)) plan fed.more fed_called
      (owed_made (plan_of c fed_by) d.steps fed.more no_read owes) in
      subst (λ (m : Moved). AllSound c m.histories.rings (segments_after [] m.connection.steps)) is moves.sound

  -- it ended by itself, and was closed at once
  pub feed_ends : (now : Histories) (end : Ending) (receipt : Receipt) → d.closed ≡ None → session.ended ≡ Some end
      → AreFrames old.rings → IsSoundOf c old.rings d
      → ((h : Heading) → IsHeadingOf (Some d.opening) (d.text ++ text) h
      → IsClosed c true mid now session.me session.ended (judged c d.opening h (d.text ++ text)) (d.steps ++ fed.more)
      lasts.End receipt)
      → receipt.settled ≡ true → Becomes c heading old now d (arrives text) (Closed receipt) after
  feed_ends now end receipt uncut over frames sound closes settled =
      let first : Connected = fed_to.connection in
      let same : fed_by ≡ judged c d.opening fed_stands.heading (d.text ++ text) =
      judged_so c heading mid first session after rest fed_stands goes said in
      let closed : IsClosed c true mid now session.me session.ended fed_by first.steps lasts.End receipt =
      subst (λ (j : Judged). IsClosed c true mid now session.me session.ended j first.steps lasts.End receipt)
      (sym same)
      (closes fed_stands.heading fed_stands.is_heading) in
      let called : Called c true mid now d.number closed.more =
      subst (λ (n : ℕ). Called c true mid now n closed.more) me closed.called in
      let made : IsMade (closing fed_by first.steps) closed.more =
      subst (λ (b : Bool). IsSettled b (closing fed_by first.steps) closed.more) settled closed.settled in
      record {
        connection = closed_as first closed.more d.closed;
        is = fed_moved ∙ ap (λ (e : Option Ending). closed_if e c fed_by fed_to) over
            ∙ makes_so c mid now first (closing fed_by first.steps) closed.more called made;
        number = refl;
        steps = fed.more ++ closed.more;
        called = called_after c old mid now d.number fed.more closed.more fed_called called;
        kept = over_now c heading mid now first session.ended closed.more lasts.End d.closed receipt after called made
            closed.receipt_is goes
            (ended_so c heading mid first session after rest fed_stands goes said) settled
            (ap (λ (l : Option Last). unwrap_or l lasts.End) uncut)
            (ap (λ (l : Option Last). is_none l && is_none session.ended) uncut
            ∙ ap (λ (e : Option Ending). is_none e) over)
            (sent_all c heading mid first session after rest fed_stands goes said)
            (fed_sound frames sound);
      }

-- ---- a turn

-- a turn was taken, and the session goes on
pub turn_goes : (c : Config) (heading : Heading) (old now : Histories) (d : Connected) (budget : ℕ) (session : Session)
    (before after rest : List ℕ)
    → Turned c true old now budget session d.opening d.text d.steps before before after → session.me ≡ d.number
    → d.closed ≡ None
    → session.ended ≡ None → IsHeadingOf (Some d.opening) (d.text ++ rest) heading
    → Becomes c heading old now d (takes_turn budget) (Open session) after
turn_goes c heading old now d budget session before after rest fed me uncut on said =
    let made : IsMade (reads budget (segments_after [] d.steps)) fed.more =
    owes_so (is_halted session.ended) (reads budget (segments_after [] d.steps)) fed.more (ap is_halted on) fed.made in
    let called : Called c true old now d.number fed.more =
    subst (λ (n : ℕ). Called c true old now n fed.more) me fed.called in
    let s : Stands c session d.opening d.text (d.steps ++ fed.more) now after =
    subst (λ (l : List ℕ). Stands c session d.opening d.text (d.steps ++ fed.more) now l) (sym fed.out)
    (stands_so c session d.opening d.text (d.steps ++ fed.more) now (before ++ fed.added) fed.stands
    (ap is_halted on)) in
    let after_it : Connected = (stepped d fed.more now).connection in
    record {
      connection = after_it;
      is = makes_so c old now d (reads budget (segments_after [] d.steps)) fed.more called made;
      number = refl;
      steps = fed.more;
      called = called;
      kept = going_now c heading now after_it session after rest s me on uncut said;
    }

-- ---- an end

-- a connection that goes on is closed
pub close_ends : (c : Config) (heading : Heading) (old now : Histories) (d : Connected) (last : Last)
    (session : Session)
    (bytes rest : List ℕ) (receipt : Receipt) → IsGoing c heading old d session bytes
    → AllSound c old.rings (segments_after [] d.steps) → IsHeadingOf (Some d.opening) (d.text ++ rest) heading
    → ((h : Heading) → IsHeadingOf (Some d.opening) d.text h
    → IsClosed c true old now session.me session.ended (judged c d.opening h d.text) d.steps last receipt)
    → receipt.settled ≡ true → Becomes c heading old now d (ends last) (Closed receipt) bytes
close_ends c heading old now d last session bytes rest receipt g sound said closes settled =
    let goes : is_halted session.ended ≡ false = ap is_halted g.goes in
    let j : Judged = judged_of c heading d in
    let same : j ≡ judged c d.opening g.stands.heading d.text =
    judged_so c heading g.histories d session bytes rest g.stands goes said in
    let closed : IsClosed c true old now session.me session.ended j d.steps last receipt =
    subst (λ (j : Judged). IsClosed c true old now session.me session.ended j d.steps last receipt) (sym same)
    (closes g.stands.heading g.stands.is_heading) in
    let called : Called c true old now d.number closed.more =
    subst (λ (n : ℕ). Called c true old now n closed.more) g.me closed.called in
    let made : IsMade (closing j d.steps) closed.more =
    subst (λ (b : Bool). IsSettled b (closing j d.steps) closed.more) settled closed.settled in
    record {
      connection = closed_as d closed.more (Some last);
      is = makes_so c old now (with_last d last) (closing j d.steps) closed.more called made;
      number = refl;
      steps = closed.more;
      called = called;
      kept = over_now c heading old now d session.ended closed.more last (Some last) receipt bytes called made
          closed.receipt_is goes (ended_so c heading g.histories d session bytes rest g.stands goes said) settled refl
          refl g.bytes_are sound;
    }

-- ---- an opening

-- a session that has taken nothing yet, as if it had been fed nothing
abbrev pub opened_fed : (c : Config) (h : Histories) (session : Session) (o : Opening) (sent : List ℕ)
    → StandsFor c session o [] [] h sent → Fed c true h h session o [] [] [] [] sent
opened_fed c h session o sent stands = record {
  more = [];
  added = sent;
  out = refl;
  called = called_none c true h session.me;
  no_read = refl;
  stands = stands;
}
