-- What is promised of one link that a caster served: of its calls, its segments, its frames and its
-- bytes, by what came in on it and by the histories that it left.
use Rattle.std.specs.Prelude.{◌≡◌, ℕ, ◌⊎◌, Bool, true, false, IsTrue, List, [], ◌∷◌, ◌++◌, reverse, option_to_list, unwrap_or, Some}
use Rattle.std.specs.List.{All}
use Rattle.rtcm_frame.specs.Transport.{is_frame}
use Rattle.rtcm_frame.specs.Cut.{cut}
use Rattle.turn_log.specs.History.{History}
use Rattle.turn_log.specs.Heard.{told}
use Rattle.gga_read.specs.Report.{reports}
use Rattle.mount_ring.specs.declared.call.RingCall.{RingCall}
use Rattle.mount_ring.specs.declared.call.RingCall.TheVariants.{Claim, Release}
use Rattle.mount_ring.specs.declared.call.RingAnswer.TheVariants.{Given}
use Rattle.rover_cursor.specs.declared.segment.Segment.{Segment}
use Rattle.rover_cursor.specs.Told.{published_in}
use Rattle.session_calls.specs.Rings.{history_at, answer_at}
use Rattle.rover_session.specs.Made.{sent_in, overrun_in}
use Rattle.ntrip_head.specs.declared.request.Version.TheVariants.{One}
use Rattle.ntrip_reply.specs.declared.kind.Reply.TheVariants as replies
use Rattle.cast_config.specs.declared.config.Config.{Config}
use Rattle.session_model.specs.declared.ending.Ending.TheVariants.{Memory}
use Rattle.session_model.specs.declared.ending.Last.{Last}
use Rattle.session_model.specs.declared.report.Connection.{Connection}
use Rattle.session_model.specs.declared.report.Receipt.{Receipt}
use Rattle.session_model.specs.Called.{is_halt}
use Rattle.session_model.specs.Headings.{Heading}
use Rattle.session_model.specs.Judged.{Opening, SourceTerms, RoverTerms, Judged, waiting, source, rover, judged}
use Rattle.session_model.specs.Promises.{IsSoundIn, CountsAll}
use Rattle.session_model.specs.Replies.{text_if, opening_text, kept_frames}
use Rattle.session_model.specs.Reports.{IsHeadingOf}
use Rattle.session_model.specs.Setting.{shapes, bases_at}
use Rattle.session_core.specs.Standing.{IsSentBy}
use Rattle.caster_link.specs.Links.{is_torn}
use Rattle.run_promise.specs.Calls.{Call, call, at_one, without_reads, segments_of, ReadOn}
use Rattle.run_promise.specs.Begun.{IsBegun}
use Rattle.run_promise.specs.Selected.{Selects}
use Rattle.run_promise.specs.Promised.{Carries, Holds, IsReplied, asked, publishes, WasTaken, Was, is_release}

-- ---- histories

-- at each mountpoint whole frames alone were published (RTCM 10403.3, transport layer)
abbrev pub AllFrames : List (History RingCall) → Type 0
AllFrames histories =
    (mount : ℕ) → All (λ frame. IsTrue (is_frame frame)) (published_in (history_at histories mount))

-- each of the histories goes on to the later one
abbrev pub GoOnTo : List (History RingCall) → List (History RingCall) → Type 0
GoOnTo now histories =
    (mount : ℕ) → (more : History RingCall)
    × (history_at histories mount ≡ history_at now mount ++ more)

-- From these histories to those these are, at every mountpoint, in order, all calls of this caller,
-- each with the answer at its own point of the history.
abbrev pub AreCallsBetween : Config → List (History RingCall) → List (History RingCall) → ℕ
    → List Call → Type 0
AreCallsBetween c start now me calls =
    (mount : ℕ) → (more : History RingCall)
    × (history_at now mount ≡ history_at start mount ++ more)
    × (told (answer_at (shapes c) mount) me (history_at start mount) more ≡ at_one mount calls)

-- ---- a connection that was halted, by a place that was worn or by want of memory

-- a rover that entered: its calls are the first of those that its reports select
pub record HasEnteredFirst (c : Config) (histories : List (History RingCall)) (told : Connection)
    (terms : RoverTerms) (before tail : List ℕ) (calls : List Call) : Type 0 where
  pub entered : told.receipt.entered ≡ true
  pub missing : List Call
  pub selects : Selects terms.admission.near c.hysteresis terms.admission.group
      (bases_at c terms.admission.bases) (option_to_list terms.first ++ reports tail)
      (calls ++ missing)
  pub filter : All (λ (segment : Segment). segment.cursor.filter ≡ terms.admission.group)
      told.receipt.segments
  pub body : List ℕ
  pub bytes : told.bytes ≡ before ++ text_if terms.version replies.RoverOk [] ++ body
  pub holds : Holds (unwrap_or terms.version One) body
      (kept_frames c histories told.receipt.segments)

-- the claim is given back, unless that turn was refused
abbrev pub given_back : (settled : Bool) → ℕ → ℕ → List (ℕ × RingCall)
given_back true mount claim = (mount, Release claim) ∷ []
given_back false mount claim = []

-- a source or a relay that was given its claim: the frames that it published are the first of what
-- its body carries
pub record HasClaimedFirst (told : Connection) (terms : SourceTerms) (before body : List ℕ)
    (calls : List Call) : Type 0 where
  pub claim : ℕ
  pub later : List Call
  pub given : calls ≡ call terms.mount Claim (Given claim) ∷ later
  pub carried : List ℕ
  pub carries : Carries terms.chunked body carried
  pub frames : List (List ℕ)
  pub missing : List (List ℕ)
  pub first : (cut carried).frames ≡ frames ++ missing
  pub published : asked later
      ≡ publishes terms.mount claim frames ++ given_back told.receipt.settled terms.mount claim
  pub bytes : told.bytes ≡ before ++ text_if terms.version replies.SourceOk []

-- What it was, by its judgement: it may have been halted before it called anything, and was sent
-- nothing behind what was sent before then.
abbrev pub WasFirst : Config → List (History RingCall) → Connection → List ℕ → List Call → Judged
    → Type 0
WasFirst c histories told before calls (source terms body) =
    HasClaimedFirst told terms before body calls ⊎ WasTaken told terms before calls
    ⊎ IsReplied told before calls []
WasFirst c histories told before calls (rover terms tail) =
    HasEnteredFirst c histories told terms before tail calls
    ⊎ ((told.receipt.entered ≡ false)
    × (IsReplied told before calls []
    ⊎ IsReplied told before calls (text_if terms.version replies.Full [])))
WasFirst c histories told before calls j = Was c histories told before [] calls j

-- ---- one link

-- What its bytes say it is; where memory was lacking before it called anything, nothing is said.
abbrev pub IsJudgedBy : Config → Opening → List ℕ → Receipt → List Call → Judged → Type 0
IsJudgedBy c opening given receipt calls j =
    ((heading : Heading) × IsHeadingOf (Some opening) given heading
    × (j ≡ judged c opening heading given))
    ⊎ ((receipt.ending ≡ Memory) × (receipt.entered ≡ false) × (calls ≡ []) × (j ≡ waiting))

-- what is told of a link to which this is due
abbrev pub told_as : ℕ → Receipt → List ℕ → Connection
told_as me receipt due = record { number = me; receipt = receipt; bytes = due }

-- A link with this opening gave these bytes, was given those, and came to this receipt when its
-- connection was closed for this reason.
-- Its caller called for it from the first of these histories to the next; the last are the whole.
pub record IsLinkKept (c : Config) (opening : Opening) (me : ℕ)
    (start now histories : List (History RingCall)) (given written : List ℕ) (last : Last)
    (receipt : Receipt) : Type 0 where
  -- all calls, and the segments that the answers give
  pub calls : List Call
  pub all_calls : AreCallsBetween c start now me calls
  pub read_on : ReadOn [] calls
  pub segments : receipt.segments ≡ reverse (segments_of calls)
  pub sent : receipt.sent ≡ sent_in receipt.segments
  pub overrun : receipt.overrun ≡ overrun_in receipt.segments
  -- each was begun by a Join of this caller, behind all that was published there by then
  pub begun : All (IsBegun histories me) receipt.segments
  -- frames sent and frames counted as overrun are together the permitted ones
  pub sound : All (IsSoundIn c histories) receipt.segments
  pub counts : All (CountsAll c histories) receipt.segments
  -- what its bytes say it is, and what is due to it
  pub j : Judged
  pub judged_is : IsJudgedBy c opening given receipt (without_reads calls) j
  pub due : List ℕ
  -- that was written, or the first of it where a write failed or it was halted before its first
  -- call
  pub cut_off : Bool
  pub why : cut_off ≡ true → (is_torn last ≡ true)
      ⊎ ((is_halt receipt.ending ≡ true) × (receipt.entered ≡ false) × (calls ≡ []))
  pub written_is : IsSentBy cut_off written due
  -- what it was, if it was not halted: all but a claim that is not given back
  pub kept_back : List Call
  pub settled : receipt.settled ≡ true → kept_back ≡ []
  pub releases : All (λ (one : Call). IsTrue (is_release one.asked)) kept_back
  pub was : is_halt receipt.ending ≡ false → Was c histories (told_as me receipt due)
      (opening_text c opening) [] (without_reads calls ++ kept_back) j
  -- and if it was
  pub first : is_halt receipt.ending ≡ true → WasFirst c histories (told_as me receipt due)
      (opening_text c opening) (without_reads calls) j
