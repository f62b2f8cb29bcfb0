-- What became of a connection that was served over a link: from its first byte to its receipt.
use Rattle.std.specs.Prelude.{◌≡◌, ℕ, ◌^◌, ◌<◌, ◌⊎◌, ◌||◌, false, List, [], ◌++◌, length, reverse, is_some, Option, Some}
use Rattle.std.specs.List.{All}
use Rattle.cast_io.specs.declared.steps.Step.{Step as LinkTook}
use Rattle.cast_io.specs.Told.{LinkTold}
use Rattle.session_calls.specs.Steps.{Step}
use Rattle.rover_session.specs.Made.{segments_after, owed_among}
use Rattle.cast_config.specs.declared.config.Config.{Config}
use Rattle.session_model.specs.declared.ending.Ending.{Ending}
use Rattle.session_model.specs.declared.ending.Ending.TheVariants.{Memory}
use Rattle.session_model.specs.declared.ending.Last.{Last}
use Rattle.session_model.specs.declared.report.Receipt.{Receipt}
use Rattle.session_core.specs.declared.session.Session.{Session}
use Rattle.session_model.specs.Headings.{Heading}
use Rattle.session_model.specs.Judged.{Opening, Judged, waiting, judged}
use Rattle.session_model.specs.Owed.{Happening, came_to, plan_of, closing}
use Rattle.session_model.specs.Endings.{ended_by}
use Rattle.session_model.specs.Promises.{IsSoundIn}
use Rattle.session_model.specs.Replies.{sent_by}
use Rattle.session_model.specs.Reports.{IsHeadingOf}
use Rattle.session_model.specs.Run.{Histories}
use Rattle.session_model.specs.Called.{Called}
use Rattle.session_core.specs.Standing.{StandsFor, EndsAs, IsMadeBy, IsSentBy, is_halted, is_halted_uncalled}
use Rattle.session_core.specs.Closed.{IsSettled, IsReceipt}
use Rattle.session_core.specs.Asking.{TellsAsked}
use Rattle.session_model.specs.Courses.{Event, Ran, happened, steps_of, text_of}
use Rattle.caster_link.specs.Links.{LinkGrew, IsLeftOut, Stopped, IsCausedBy, happens_in, is_torn}

-- ---- while it is served

-- From these histories to those this happened to the connection, and the session stands for all of
-- it, with these bytes sent.
pub record Reached (c : Config) (opening : Opening) (me : ℕ) (start now : Histories)
    (session : Session) (sent : List ℕ) (whats : List Happening) : Type 0 where
  pub caller : session.me ≡ me
  -- what no bytes say
  pub first : Heading
  pub is_first : IsHeadingOf (Some opening) [] first
  pub events : List Event
  pub ran : Ran c opening (is_halted session.ended) events
  pub happened_are : happened events ≡ whats
  pub called : Called c false start now me (steps_of events)
  pub stands : StandsFor c session opening (text_of whats) (steps_of events) now sent
  pub asks : TellsAsked opening (text_of whats) session

-- Of what was due, all happened too, but no turn after the connection had ended; and further bytes
-- were made for it.
pub record Arrived (c : Config) (opening : Opening) (me : ℕ) (start now : Histories)
    (session : Session) (sent before after : List ℕ) (whats due : List Happening) : Type 0 where
  pub added : List ℕ
  pub out : after ≡ before ++ added
  pub done : List Happening
  pub missing : List Happening
  pub split : done ++ missing ≡ due
  pub left_out : IsLeftOut (is_some session.ended) missing
  -- all bytes among it came in
  pub bytes : text_of (whats ++ done) ≡ text_of (whats ++ due)
  pub reached : Reached c opening me start now session (sent ++ added) (whats ++ done)

-- All that the link's steps gave happened, and what was made for it was written but for these last
-- bytes. The link gave so many bytes.
pub record Serving (c : Config) (opening : Opening) (me : ℕ) (start now : Histories)
    (session : Session) (before after : LinkTold) (out : List ℕ) (given : ℕ) : Type 0 where
  pub taken : List LinkTook
  pub written : List ℕ
  pub whats : List Happening
  pub missing : List Happening
  pub link : LinkGrew before after taken written
  pub reached : Reached c opening me start now session (written ++ out) whats
  pub split : whats ++ missing ≡ happens_in taken
  pub left_out : IsLeftOut (is_some session.ended) missing
  pub count : given ≡ length (text_of whats)

-- The connection is to be closed for this reason.
pub record Came (c : Config) (opening : Opening) (me : ℕ) (start now : Histories)
    (session : Session) (before after : LinkTold) (last : Last) : Type 0 where
  pub taken : List LinkTook
  pub written : List ℕ
  pub sent : List ℕ
  pub whats : List Happening
  pub missing : List Happening
  pub link : LinkGrew before after taken written
  pub reached : Reached c opening me start now session sent whats
  pub split : whats ++ missing ≡ happens_in taken
  pub left_out : IsLeftOut (is_some session.ended) missing
  pub stopped : Stopped (is_some session.ended) (length (text_of whats)) taken last
  pub few : length (text_of whats) < 2 ^ 63
  pub bytes : IsSentBy (is_torn last) written sent
  pub caused : IsCausedBy last before.faults after.faults

-- ---- when it is over

-- What all bytes of a connection say it is. Where memory was lacking before it called anything,
-- nothing is said of it.
abbrev pub IsJudged : Config → Opening → List ℕ → List Step → Option Ending → Judged → Type 0
IsJudged c opening text steps ended j =
    ((heading : Heading) × IsHeadingOf (Some opening) text heading
    × (j ≡ judged c opening heading text))
    ⊎ ((ended ≡ Some Memory) × (steps ≡ []) × (j ≡ waiting))

-- A link took these steps and was given these bytes. With them its connection went from these
-- histories to those, was closed for this reason, and came to this receipt.
pub record LinkGoes (c : Config) (opening : Opening) (me : ℕ) (start now : Histories)
    (taken : List LinkTook) (written : List ℕ) (last : Last) (receipt : Receipt) : Type 0 where
  -- what happened until it was closed, each event with its calls
  pub events : List Event
  -- how it ended by itself or was halted, if it did
  pub ended : Option Ending
  pub ran : Ran c opening (is_halted ended) events
  -- the steps that the link took gave these events, but that no turn follows bytes that ended it
  pub missing : List Happening
  pub split : happened events ++ missing ≡ happens_in taken
  pub left_out : IsLeftOut (is_some ended) missing
  pub stopped : Stopped (is_some ended) (length (text_of (happened events))) taken last
  -- the calls, each answered at its own point, up to the closing ones
  pub between : Histories
  pub called : Called c false start between me (steps_of events)
  -- what its bytes say it is
  pub j : Judged
  pub judged_is : IsJudged c opening (text_of (happened events)) (steps_of events) ended j
  pub ends : EndsAs ended (ended_by (came_to j (steps_of events)))
  -- all its calls but reads are what its bytes owe, or the first of that where it was halted
  pub owes : IsMadeBy (is_halted ended) (plan_of c j) (owed_among (steps_of events))
  -- what is sent for that was written, or the first of it where the session was halted before its
  -- first call or a write failed
  pub bytes : IsSentBy (is_halted_uncalled ended (steps_of events) || is_torn last) written
      (sent_by c now.rings opening (came_to j (steps_of events))
      (reverse (segments_after [] (steps_of events))))
  -- what was held is given back, unless that turn was refused
  pub closed_by : List Step
  pub closed : Called c false between now me closed_by
  pub settled : IsSettled receipt.settled (closing j (steps_of events)) closed_by
  pub receipt_is : IsReceipt ended j (steps_of events) last receipt
  -- frames sent and frames counted as overrun are together the permitted ones, by the histories
  -- that it left
  pub sound : All (IsSoundIn c now.rings) receipt.segments

-- The link went from what it told before to what it tells after, and its connection by that. A
-- fault of the link is told only where its count rose.
pub record LinkServed (c : Config) (opening : Opening) (me : ℕ) (start now : Histories)
    (before after : LinkTold) (receipt : Receipt) : Type 0 where
  pub taken : List LinkTook
  pub written : List ℕ
  pub link : LinkGrew before after taken written
  pub last : Last
  pub goes : LinkGoes c opening me start now taken written last receipt
  pub caused : IsCausedBy last before.faults after.faults
