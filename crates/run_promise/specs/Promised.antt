-- What is promised of the report of a recorded run: each connection's segments, frames and bytes,
-- by what came in on it and by one history for each mountpoint.
use Rattle.std.specs.Prelude.{◌≡◌, ◌≢◌, ℕ, ◌≤◌, ◌+◌, ◌⊎◌, ⊤, Bool, true, false, IsTrue, ◌==◌, ◌&&◌, List, [], ◌∷◌, ◌++◌, length, map, reverse, option_to_list, unwrap_or, None, Some}
use Rattle.std.specs.List.{All, list_any}
use Rattle.rtcm_frame.specs.Cut.{cut}
use Rattle.chunk_body.specs.Text.{IsOpen, IsPlain}
use Rattle.turn_log.specs.History.{History}
use Rattle.gga_read.specs.Report.{reports}
use Rattle.mount_ring.specs.declared.call.RingCall.{RingCall}
use Rattle.mount_ring.specs.declared.call.RingCall.TheVariants.{Claim, Release, Publish}
use Rattle.mount_ring.specs.declared.call.RingAnswer.TheVariants.{Given, Taken}
use Rattle.rover_cursor.specs.declared.segment.Segment.{Segment}
use Rattle.session_calls.specs.Rings.{history_at}
use Rattle.rover_session.specs.Made.{sent_in, overrun_in}
use Rattle.ntrip_head.specs.declared.request.Version.{Version}
use Rattle.ntrip_head.specs.declared.request.Version.TheVariants.{One, Two}
use Rattle.ntrip_reply.specs.declared.kind.Reply.TheVariants as replies
use Rattle.session_script.specs.declared.Event.{Event}
use Rattle.cast_config.specs.declared.config.Config.{Config}
use Rattle.session_model.specs.declared.report.Connection.{Connection}
use Rattle.session_model.specs.declared.report.Report.{Report}
use Rattle.session_model.specs.Setting.{bases_at}
use Rattle.session_model.specs.Setting as setting
use Rattle.session_model.specs.Headings.{Heading}
use Rattle.session_model.specs.Judged.{Opening, SourceTerms, RoverTerms, Judged, waiting, finished, source, rover, judged}
use Rattle.session_model.specs.Replies.{replied_text, text_if, opening_text, kept_frames}
use Rattle.session_model.specs.Promises.{IsSoundIn, CountsAll}
use Rattle.session_model.specs.Reports.{opened_as, bytes_to, AreHeadings, mount_total}
use Rattle.caster_replay.specs.Runs.{is_cut}
use Rattle.run_promise.specs.Calls.{Call, call, AreAllCalls, without_reads, segments_of, ReadOn}
use Rattle.run_promise.specs.Selected.{Selects}

-- ---- bodies

-- the bytes that a source's body carries: all of it, or what its chunks hold so far
abbrev pub Carries : (chunked : Bool) → List ℕ → List ℕ → Type 0
Carries false body carried = carried ≡ body
Carries true body carried = IsPlain body carried

-- A rover's body holds exactly these frames: under NTRIP 1.0 (RTCM 10410.0) it is cut into them,
-- with no junk and no rest (RTCM 10403.3, transport layer), and under NTRIP 2.0 (RTCM 10410.1) it
-- is a chunked body that goes on (RFC 9112, section 7.1), whose data are.
abbrev pub Holds : Version → List ℕ → List (List ℕ) → Type 0
Holds One body frames = cut body ≡ record { frames = frames; junk = 0; rest = [] }
Holds Two body frames =
    (carried : List ℕ) × IsOpen body × IsPlain body carried
    × (cut carried ≡ record { frames = frames; junk = 0; rest = [] })

-- ---- each kind of connection, with its calls that are no reads

-- it called nothing, and was sent this reply behind what was sent before: a relay's request, of
-- everybody else nothing
abbrev pub IsReplied : Connection → List ℕ → List Call → List ℕ → Type 0
IsReplied told before calls reply = (calls ≡ []) × (told.bytes ≡ before ++ reply)

-- A rover that was let in: its calls are those that its reports select among its bases. Behind its
-- reply it was sent exactly the frames of its segments, in order. One that sent no head has no
-- version: it is sent no reply, and its frames as under NTRIP 1.0.
pub record HasEntered (c : Config) (histories : List (History RingCall)) (told : Connection)
    (terms : RoverTerms) (before tail rest : List ℕ) (calls : List Call) : Type 0 where
  pub entered : told.receipt.entered ≡ true
  pub all_bytes : rest ≡ []
  pub selects : Selects terms.admission.near c.hysteresis terms.admission.group
      (bases_at c terms.admission.bases) (option_to_list terms.first ++ reports tail) calls
  pub filter : All (λ (segment : Segment). segment.cursor.filter ≡ terms.admission.group)
      told.receipt.segments
  -- by its filter, over all that its mountpoint's history published, from its Join to its last
  -- Read: it was sent the permitted frames but for those in its laps, each of which the ring had
  -- overrun and counts the permitted frames in it
  pub sound : All (IsSoundIn c histories) told.receipt.segments
  -- and those sent and those counted as overrun are together all permitted ones
  pub counts : All (CountsAll c histories) told.receipt.segments
  pub body : List ℕ
  pub bytes : told.bytes ≡ before ++ text_if terms.version replies.RoverOk [] ++ body
  pub holds : Holds (unwrap_or terms.version One) body
      (kept_frames c histories told.receipt.segments)

-- calls without their answers, and those that publish these frames under a claim
abbrev pub asked : List Call → List (ℕ × RingCall)
asked calls = map (λ (one : Call). (one.mount, one.asked)) calls

abbrev pub publishes : ℕ → ℕ → List (List ℕ) → List (ℕ × RingCall)
publishes mount claim frames = map (λ frame. (mount, Publish claim frame)) frames

-- A source or a relay that was given its claim: it published under it, at its mountpoint, each
-- whole frame of what its body carries, in order, and nothing else, and gave the claim back.
pub record HasClaimed (told : Connection) (terms : SourceTerms) (before body rest : List ℕ)
    (calls : List Call) : Type 0 where
  -- all its bytes came in, or its chunked body had ended or was broken
  pub all_bytes : (rest ≡ []) ⊎ ((terms.chunked ≡ true) × (IsOpen body → ⊥))
  pub claim : ℕ
  pub later : List Call
  pub given : calls ≡ call terms.mount Claim (Given claim) ∷ later
  pub carried : List ℕ
  pub carries : Carries terms.chunked body carried
  pub published : asked later
      ≡ publishes terms.mount claim (cut carried).frames ++ (terms.mount, Release claim) ∷ []
  pub bytes : told.bytes ≡ before ++ text_if terms.version replies.SourceOk []

-- one whose mountpoint another caller held
abbrev pub WasTaken : Connection → SourceTerms → List ℕ → List Call → Type 0
WasTaken told terms before calls =
    (caller claim : ℕ) × (calls ≡ call terms.mount Claim (Taken caller claim) ∷ [])
    × (told.bytes ≡ before ++ text_if terms.version replies.Taken [])

-- What a connection was, by its judgement: `before` is what it was sent before a reply (a relay's
-- request, else nothing), `rest` are the bytes that came in on it when it was over. How it ended is
-- not promised here, nor why an account was full.
abbrev pub Was : Config → List (History RingCall) → Connection → List ℕ → List ℕ → List Call
    → Judged → Type 0
Was c histories told before rest calls waiting = (rest ≡ []) × IsReplied told before calls []
Was c histories told before rest calls (finished reply end) =
    IsReplied told before calls (replied_text reply (setting.table c))
Was c histories told before rest calls (source terms body) =
    HasClaimed told terms before body rest calls ⊎ WasTaken told terms before calls
Was c histories told before rest calls (rover terms tail) =
    HasEntered c histories told terms before tail rest calls
    ⊎ ((told.receipt.entered ≡ false)
    × IsReplied told before calls (text_if terms.version replies.Full []))

-- ---- one connection, and all of them

-- whether this is the judgement of a rover
abbrev pub is_rover : Judged → Bool
is_rover waiting = false
is_rover (finished reply end) = false
is_rover (source terms body) = false
is_rover (rover terms tail) = true

-- By what is read of its head (`heads`), and by its bytes that came in before it was over (`text`),
-- it was judged. It entered an account if it is a rover, and one that is let in. Its calls are all
-- that the histories have of it, and they give its segments, whose sums are told.
pub record IsAccounted (c : Config) (heads : ℕ → Heading) (lets_in : ℕ → Bool) (script : List Event)
    (histories : List (History RingCall)) (told : Connection) : Type 0 where
  pub opening : Opening
  pub opened : opened_as told.number script ≡ Some opening
  pub text : List ℕ
  pub rest : List ℕ
  pub came : bytes_to told.number script ≡ text ++ rest
  pub entered : told.receipt.entered
      ≡ (is_rover (judged c opening (heads told.number) text) && lets_in told.number)
  pub calls : List Call
  pub all_calls : AreAllCalls c histories told.number calls
  pub read_on : ReadOn [] calls
  pub segments : told.receipt.segments ≡ reverse (segments_of calls)
  pub sent : told.receipt.sent ≡ sent_in told.receipt.segments
  pub overrun : told.receipt.overrun ≡ overrun_in told.receipt.segments
  pub was : Was c histories told (opening_text c opening) rest (without_reads calls)
      (judged c opening (heads told.number) text)

-- in increasing order of number
abbrev pub AreOrdered : ℕ → List Connection → Type 0
AreOrdered least [] = ⊤
AreOrdered least (told ∷ more) = (least ≤ told.number) × AreOrdered (told.number + 1) more

-- a connection of this number is told of
abbrev pub is_told : ℕ → List Connection → Bool
is_told number connections = list_any (λ (told : Connection). told.number == number) connections

-- The histories, one for each mountpoint, have the published frames and the claims that the report
-- counts. Each number that the script opens is told of once, with all of this, and no entry of a
-- history is of another.
pub record IsKept (c : Config) (heads : ℕ → Heading) (lets_in : ℕ → Bool) (script : List Event)
    (histories : List (History RingCall)) (r : Report) : Type 0 where
  pub one_each : length histories ≡ length c.mount
  pub totals : r.closed.mounts ≡ map mount_total histories
  pub ordered : AreOrdered 0 r.connections
  pub all_told : (n : ℕ) → opened_as n script ≢ None → IsTrue (is_told n r.connections)
  pub accounted : All (IsAccounted c heads lets_in script histories) r.connections
  pub nothing_else : (mount : ℕ) → All (λ (entry : ℕ × RingCall).
      IsTrue (is_told entry.0 r.connections)) (history_at histories mount)

-- ---- in the order of the script

-- whether a call gives a claim back
abbrev pub is_release : RingCall → Bool
is_release (Release claim) = true
is_release _ = false

-- By these events the connection of this number is a source that has not ended: none of them closes
-- it, and its body, where it comes in chunks, has not ended and is not broken.
pub record GoesOn (c : Config) (heads : ℕ → Heading) (script : List Event) (number : ℕ)
    : Type 0 where
  pub uncut : is_cut number script ≡ false
  pub opening : Opening
  pub opened : opened_as number script ≡ Some opening
  pub terms : SourceTerms
  pub body : List ℕ
  pub is_source : judged c opening (heads number) (bytes_to number script) ≡ source terms body
  pub still : terms.chunked ≡ true → IsOpen body

-- The early history of a mountpoint is a beginning of the later one, but for claims that are given
-- back: a script that stops early closes its sources, which adds their Releases at the end.
pub record IsEarlier (c : Config) (heads : ℕ → Heading) (script : List Event)
    (early now : History RingCall) : Type 0 where
  pub front : History RingCall
  pub back : History RingCall
  pub later : History RingCall
  pub early_is : early ≡ front ++ back
  pub now_is : now ≡ front ++ later
  -- the sources that have not ended give their claims back, and none of them did before
  pub given_back : All (λ (entry : ℕ × RingCall). IsTrue (is_release entry.1)
      × GoesOn c heads script entry.0) back
  pub none_before : All (λ (entry : ℕ × RingCall). IsTrue (is_release entry.1)
      → GoesOn c heads script entry.0 → ⊥) front
  -- nobody calls later whom an event has closed
  pub none_closed : All (λ (entry : ℕ × RingCall). is_cut entry.0 script ≡ false) later

abbrev pub AreEarlier : Config → (ℕ → Heading) → List Event → List (History RingCall)
    → List (History RingCall) → Type 0
AreEarlier c heads script early histories =
    (mount : ℕ) → IsEarlier c heads script (history_at early mount) (history_at histories mount)

-- The report keeps it with some histories, where `heads` are what the bytes of each connection, by
-- its number, say of a head. They come about in the order of the script: whatever beginning of it
-- were all, some report would keep it with the beginnings of these histories. Which rovers are let
-- in is the same in all these reports: no beginning may take a rover that was let in for one whose
-- account was full, so that its calls would stand later than its bytes came in.
pub record IsPromised (c : Config) (script : List Event) (r : Report) : Type 0 where
  pub heads : ℕ → Heading
  pub are_heads : AreHeadings script heads
  pub histories : List (History RingCall)
  pub lets_in : ℕ → Bool
  pub kept : IsKept c heads lets_in script histories r
  pub in_order : (first later : List Event) → script ≡ first ++ later
      → (early : List (History RingCall)) × (so_far : Report)
      × IsKept c heads lets_in first early so_far × AreEarlier c heads first early histories
