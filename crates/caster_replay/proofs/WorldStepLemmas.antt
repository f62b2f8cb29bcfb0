-- One connection of a recorded run, where nobody else calls: what a session's calls made of it is
-- what the run has of it.
use Rattle.std.proofs.Common.{◌≡◌, ◌∙◌, ◌++◌, ◌&&◌, ℕ, Bool, true, false, List, [], sym, ap, subst, inl, inr, Option, None, Some}
use Rattle.std.specs.Prelude.{reverse, unwrap_or, is_none}
use Rattle.rover_cursor.specs.declared.segment.Segment.{Segment}
use Rattle.session_calls.specs.Steps.{Answer, Step}
use Rattle.session_calls.specs.Plans.{Plan, left, IsMade}
use Rattle.rover_session.specs.Made.{segments_after, owed_among}
use Rattle.cast_config.specs.declared.config.Config.{Config}
use Rattle.session_model.specs.declared.ending.Ending.{Ending}
use Rattle.session_model.specs.declared.ending.Last.{Last}
use Rattle.session_model.specs.declared.ending.Last.TheVariants as lasts
use Rattle.session_model.specs.declared.report.Receipt.{Receipt}
use Rattle.session_core.specs.declared.session.Session.{Session}
use Rattle.session_model.specs.Headings.{Heading}
use Rattle.session_model.specs.Judged.{Judged, judged}
use Rattle.session_model.specs.Owed.{came_by, first_answer, came_to, plan_of, arrives, closing}
use Rattle.session_model.specs.Endings.{ended_by, goes_on}
use Rattle.session_model.specs.Replies.{sent_by}
use Rattle.session_model.specs.Reports.{IsHeadingOf, receipt_of, told_of}
use Rattle.session_model.specs.Run.{Histories, Connected, Moved, judged_of, with_text, with_calls, makes, closed_if, moved}
use Rattle.session_model.specs.Called.{Called, OthersCalled}
use Rattle.session_core.specs.Standing.{is_halted, is_uncalled, is_halted_uncalled, IsMadeBy, IsSentBy, EndsAs, Stands}
use Rattle.session_core.specs.Closed.{IsReceipt}
use Rattle.session_model.proofs.LawLemmas.{said_same}
use Rattle.session_model.proofs.KeepLemmas.{Later, AllSound}
use Rattle.caster_replay.specs.Lives.{sent_to, IsGoing, IsOver, connection_of}
use Rattle.caster_replay.proofs.WorldMadeLemmas.{made_is, owed_made}
use Rattle.session_core.proofs.FeedHeadLemmas.{others_none}
use Rattle.caster_replay.proofs.WorldLaterLemmas.{called_later, others_both, sent_later}
use Rattle.caster_replay.proofs.WorldClosedLemmas.{segments_closed, received_closed, receipt_told}

-- ---- what is kept of a connection

-- ---- steps of a plan

-- a connection after these further steps
abbrev pub stepped : Connected → List Step → Histories → Moved
stepped d steps h = record {
  connection = record {
    number = d.number;
    opening = d.opening;
    text = d.text;
    steps = d.steps ++ steps;
    closed = d.closed;
  };
  histories = h;
}

pub makes_so : (c : Config) (old now : Histories) (d : Connected) (plan : Plan) (steps : List Step)
    → Called c true old now d.number steps → IsMade plan steps → makes c old d plan ≡ stepped d steps now
makes_so c old now d plan steps called is =
    let both = made_is c d.number old now plan steps called is in
    ap (λ (l : List Step). stepped d l (with_calls d.number old l)) (sym both.0)
    ∙ ap (stepped d steps) (sym both.1)

-- ---- a session that was not halted

pub owes_so : (halted : Bool) (plan : Plan) (steps : List Step) → halted ≡ false → IsMadeBy halted plan steps
    → IsMade plan steps
owes_so halted plan steps goes is = subst (λ (b : Bool). IsMadeBy b plan steps) goes is

ends_so : (ended by : Option Ending) → is_halted ended ≡ false → EndsAs ended by → ended ≡ by
ends_so ended by goes (inl halted) = absurd cc
ends_so ended by goes (inr is) = is

sent_so : (ended : Option Ending) (steps : List Step) (sent due : List ℕ) → is_halted ended ≡ false
    → IsSentBy (is_halted_uncalled ended steps) sent due → sent ≡ due
sent_so ended steps sent due goes is = subst (λ (b : Bool). IsSentBy (b && is_uncalled steps) sent due) goes is

none_halted : (ended : Option Ending) → ended ≡ None → is_halted ended ≡ false
none_halted ended none = ap is_halted none

-- ---- what a heading of more bytes says of it

module _ (c : Config) (heading : Heading) (now : Histories) (d : Connected) (session : Session) (sent rest : List ℕ)
    (s : Stands c session d.opening d.text d.steps now sent) (goes : is_halted session.ended ≡ false)
    (said : IsHeadingOf (Some d.opening) (d.text ++ rest) heading) where
  -- the same as its own heading
  pub judged_so : judged_of c heading d ≡ judged c d.opening s.heading d.text
  judged_so = said_same c d.opening d.text rest s.heading heading s.is_heading said

  pub owes_all : IsMade (plan_of c (judged_of c heading d)) (owed_among d.steps)
  owes_all = subst (λ (j : Judged). IsMade (plan_of c j) (owed_among d.steps)) (sym judged_so)
      (owes_so (is_halted session.ended) (plan_of c (judged c d.opening s.heading d.text)) (owed_among d.steps) goes
      s.owes)

  pub ended_so : session.ended ≡ ended_by (came_to (judged_of c heading d) d.steps)
  ended_so = ends_so session.ended (ended_by (came_to (judged c d.opening s.heading d.text) d.steps)) goes s.ends
      ∙ ap (λ (j : Judged). ended_by (came_to j d.steps)) (sym judged_so)

  pub sent_all : sent ≡ sent_to c heading now d
  sent_all = sent_so session.ended d.steps sent _ goes s.sent_is
      ∙ ap (λ (j : Judged). sent_by c now.rings d.opening (came_to j d.steps) (reverse (segments_after [] d.steps)))
      (sym judged_so)

-- a session that stands goes on
pub going_now : (c : Config) (heading : Heading) (now : Histories) (d : Connected) (session : Session)
    (sent rest : List ℕ) → Stands c session d.opening d.text d.steps now sent → session.me ≡ d.number
    → session.ended ≡ None → d.closed ≡ None → IsHeadingOf (Some d.opening) (d.text ++ rest) heading
    → IsGoing c heading now d session sent
going_now c heading now d session sent rest s me goes uncut said = record {
  me = me;
  goes = goes;
  uncut = uncut;
  histories = now;
  stands = s;
  others = others_none now d.number;
  bytes_are = sent_all c heading now d session sent rest s (none_halted session.ended goes) said;
}

-- what goes on is concerned by what happens to it
pub going_concerned : (c : Config) (heading : Heading) (now : Histories) (d : Connected) (session : Session)
    (bytes rest : List ℕ) → IsGoing c heading now d session bytes
    → IsHeadingOf (Some d.opening) (d.text ++ rest) heading → goes_on (judged_of c heading d) d.steps d.closed ≡ true
going_concerned c heading now d session bytes rest g said =
    let by : ended_by (came_to (judged_of c heading d) d.steps) ≡ None =
    sym (ended_so c heading g.histories d session bytes rest g.stands (none_halted session.ended g.goes) said)
    ∙ g.goes in
    ap (λ (l : Option Last). is_none l && is_none (ended_by (came_to (judged_of c heading d) d.steps))) g.uncut
    ∙ ap (λ (e : Option Ending). is_none e) by

-- ---- bytes that come in

pub came_moved : (c : Config) (heading : Heading) (old now : Histories) (d : Connected) (text : List ℕ)
    (more : List Step) (session : Session) (sent rest : List ℕ)
    → Stands c session d.opening (d.text ++ text) (d.steps ++ more) now sent → is_halted session.ended ≡ false
    → IsHeadingOf (Some d.opening) ((d.text ++ text) ++ rest) heading
    → owed_among more ≡ more → Called c true old now d.number more
    → moved c heading old d (arrives text)
    ≡ closed_if session.ended c (judged c d.opening heading (d.text ++ text))
    (stepped (with_text d (d.text ++ text)) more now)
came_moved c heading old now d text more session sent rest s goes said no_read called =
    let after : Connected = (stepped (with_text d (d.text ++ text)) more now).connection in
    let j : Judged = judged c d.opening heading (d.text ++ text) in
    let owes : IsMade (plan_of c j) (owed_among (d.steps ++ more)) =
    owes_all c heading now after session sent rest s goes said in
    let ended : session.ended ≡ ended_by (came_to j (d.steps ++ more)) =
    ended_so c heading now after session sent rest s goes said in
    ap (λ (m : Moved). closed_if (ended_by (came_to j m.connection.steps)) c j m)
    (makes_so c old now (with_text d (d.text ++ text)) (left (plan_of c j) (owed_among d.steps)) more called
    (owed_made (plan_of c j) d.steps more no_read owes))
    ∙ ap (λ (e : Option Ending). closed_if e c j (stepped (with_text d (d.text ++ text)) more now)) (sym ended)

-- ---- when it is over

-- with its closing turn
abbrev pub closed_as : Connected → List Step → Option Last → Connected
closed_as d more closed = record {
  number = d.number;
  opening = d.opening;
  text = d.text;
  steps = d.steps ++ more;
  closed = closed;
}

pub over_now : (c : Config) (heading : Heading) (old now : Histories) (d : Connected) (ended : Option Ending)
    (more : List Step) (last : Last) (closed : Option Last) (receipt : Receipt) (sent : List ℕ)
    → Called c true old now d.number more → IsMade (closing (judged_of c heading d) d.steps) more
    → IsReceipt ended (judged_of c heading d) d.steps last receipt → is_halted ended ≡ false
    → ended ≡ ended_by (came_to (judged_of c heading d) d.steps) → receipt.settled ≡ true
    → unwrap_or closed lasts.End ≡ last → (is_none closed && is_none ended) ≡ false
    → sent ≡ sent_to c heading old d → AllSound c old.rings (segments_after [] d.steps)
    → IsOver c heading now (closed_as d more closed) receipt sent
over_now c heading old now d ended more last closed receipt sent called is told goes by settled last_is over due sound =
    let j : Judged = judged_of c heading d in
    let same : first_answer (d.steps ++ more) ≡ first_answer d.steps = received_closed j d.steps more is in
    let segments : segments_after [] (d.steps ++ more) ≡ segments_after [] d.steps =
    segments_closed c old now d.number j d.steps more called is in
    record {
      stops =
          ap (λ (r : Option Answer). is_none closed && is_none (ended_by (came_by j r))) same
          ∙ ap (λ (e : Option Ending). is_none closed && is_none e) (sym by) ∙ over;
      receipt_is =
          receipt_told c old now d.number ended j d.steps more last receipt called is told goes by settled
          ∙ ap (receipt_of j (d.steps ++ more)) (sym last_is);
      bytes_are =
          due
          ∙ sym (sent_later c old.rings now.rings d.opening (came_to j d.steps) (segments_after [] d.steps)
          (called_later c old now d.number more called) sound)
          ∙ ap (λ (r : Option Answer). sent_by c now.rings d.opening (came_by j r) (reverse (segments_after [] d.steps))) (sym same)
          ∙ ap (λ (l : List Segment). sent_by c now.rings d.opening (came_to j (d.steps ++ more)) (reverse l))
          (sym segments);
    }

-- so it is told
pub over_told : (c : Config) (headings : ℕ → Heading) (now : Histories) (d : Connected) (receipt : Receipt)
    (bytes : List ℕ) → IsOver c (headings d.number) now d receipt bytes
    → told_of c headings now d ≡ record { number = d.number; receipt = receipt; bytes = bytes }
over_told c headings now d receipt bytes over =
    ap (λ (r : Receipt). connection_of d.number r (sent_to c (headings d.number) now d)) (sym over.receipt_is)
    ∙ ap (connection_of d.number receipt) (sym over.bytes_are)

-- ---- calls of others

pub going_on : (c : Config) (heading : Heading) (old now : Histories) (d : Connected) (session : Session)
    (bytes : List ℕ) → OthersCalled old now d.number → Later old.rings now.rings
    → AllSound c old.rings (segments_after [] d.steps)
    → IsGoing c heading old d session bytes → IsGoing c heading now d session bytes
going_on c heading old now d session bytes others later sound g = record {
  me = g.me;
  goes = g.goes;
  uncut = g.uncut;
  histories = g.histories;
  stands = g.stands;
  others = others_both g.histories old now d.number g.others others;
  bytes_are = g.bytes_are
      ∙ sym (sent_later c old.rings now.rings d.opening (came_to (judged_of c heading d) d.steps)
      (segments_after [] d.steps) later sound);
}

pub over_on : (c : Config) (heading : Heading) (old now : Histories) (d : Connected) (receipt : Receipt)
    (bytes : List ℕ) → Later old.rings now.rings → AllSound c old.rings (segments_after [] d.steps)
    → IsOver c heading old d receipt bytes → IsOver c heading now d receipt bytes
over_on c heading old now d receipt bytes later sound over = record {
  stops = over.stops;
  receipt_is = over.receipt_is;
  bytes_are = over.bytes_are
      ∙ sym (sent_later c old.rings now.rings d.opening (came_to (judged_of c heading d) d.steps)
      (segments_after [] d.steps) later sound);
}
