-- What is promised of the report of a recorded run in which rovers are greeted.
use Rattle.std.specs.Prelude.{◌≡◌, ◌≢◌, ℕ, ◌⊎◌, ⊤, Bool, true, false, List, [], ◌∷◌, ◌++◌, take, unwrap_or, Some}
use Rattle.last_frames.specs.Last.{last_permitted}
use Rattle.turn_log.specs.History.{History}
use Rattle.mount_ring.specs.declared.call.RingCall.{RingCall}
use Rattle.rover_cursor.specs.declared.segment.Segment.{Segment}
use Rattle.ntrip_head.specs.declared.request.Version.TheVariants.{One}
use Rattle.ntrip_reply.specs.declared.kind.Reply.TheVariants as replies
use Rattle.session_script.specs.declared.Event.{Event}
use Rattle.cast_config.specs.declared.config.Config.{Config}
use Rattle.session_model.specs.declared.report.Connection.{Connection}
use Rattle.session_model.specs.declared.report.Report.{Report}
use Rattle.session_model.specs.Headings.{Heading}
use Rattle.session_model.specs.Judged.{Opening, sends_head, relays, bare_source, bare_rover, RoverTerms, rover, judged}
use Rattle.session_model.specs.Promises.{permits_of, published_at}
use Rattle.session_model.specs.Replies.{text_if, opening_text, kept_of, kept_frames}
use Rattle.session_model.specs.Reports.{opened_as, bytes_to}
use Rattle.run_promise.specs.Promised.{Holds, IsPromised}

-- ---- the frames

-- of each of six messages (1005, 1006, 1007, 1008, 1033 and 1230 of RTCM 10403.3) the last frame
-- that was published at the segment's mountpoint before the segment began, where it is permitted
abbrev pub greeting_of : Config → List (History RingCall) → Segment → List (List ℕ)
greeting_of c histories segment =
    last_permitted (permits_of c segment) (take segment.from (published_at histories segment))

-- These are the frames by which a segment is greeted, before those later ones: its greeting. None
-- may be sent where another segment followed before this one was read.
abbrev pub IsGreeting : Config → List (History RingCall) → Segment → List Segment → List (List ℕ)
    → Type 0
IsGreeting c histories segment later frames =
    (frames ≡ greeting_of c histories segment)
    ⊎ ((frames ≡ []) × (segment.to ≡ segment.from) × (later ≢ []))

-- these frames are, of each of these segments in order, first its greeting and then what it kept
abbrev pub AreGreeted : Config → List (History RingCall) → List Segment → List (List ℕ) → Type 0
AreGreeted c histories [] frames = frames ≡ []
AreGreeted c histories (segment ∷ later) frames =
    (greeting rest : List (List ℕ))
    × (frames ≡ greeting ++ (kept_of c histories segment ++ rest))
    × IsGreeting c histories segment later greeting
    × AreGreeted c histories later rest

-- whether a rover joins by bytes that come in: a bare one that does not take the nearest of its
-- bases joins as it opens
abbrev pub joins_by_bytes : Opening → RoverTerms → Bool
joins_by_bytes sends_head terms = true
joins_by_bytes (relays n) terms = true
joins_by_bytes (bare_source mount) terms = true
joins_by_bytes (bare_rover mount) terms = terms.admission.near

-- a rover that joins by bytes is greeted, and another one is sent what its segments kept
abbrev pub AreSent : (joins_by_bytes : Bool) → Config → List (History RingCall) → List Segment
    → List (List ℕ) → Type 0
AreSent true c histories segments frames = AreGreeted c histories segments frames
AreSent false c histories segments frames = frames ≡ kept_frames c histories segments

-- ---- one connection

-- A rover that was let in. By what its head says and by its bytes it was judged to be one, and
-- behind its reply it was sent a body that holds exactly these frames of its segments.
pub record IsGreetedRover (c : Config) (heads : ℕ → Heading) (script : List Event)
    (histories : List (History RingCall)) (told : Connection) : Type 0 where
  pub opening : Opening
  pub opened : opened_as told.number script ≡ Some opening
  pub text : List ℕ
  pub rest : List ℕ
  pub came : bytes_to told.number script ≡ text ++ rest
  pub terms : RoverTerms
  pub tail : List ℕ
  pub is_rover : judged c opening (heads told.number) text ≡ rover terms tail
  pub frames : List (List ℕ)
  pub sent : AreSent (joins_by_bytes opening terms) c histories told.receipt.segments frames
  pub body : List ℕ
  pub bytes : told.bytes
      ≡ opening_text c opening ++ text_if terms.version replies.RoverOk [] ++ body
  pub holds : Holds (unwrap_or terms.version One) body frames

-- one that was let in as a rover is sent this, and any other what it is sent without greetings
abbrev pub IsSentSo : (let_in : Bool) → Config → (ℕ → Heading) → List Event
    → List (History RingCall)
    → Connection → Connection → Type 0
IsSentSo true c heads script histories told plain = IsGreetedRover c heads script histories told
IsSentSo false c heads script histories told plain = told.bytes ≡ plain.bytes

-- what is told of a connection with greetings, where this is told of it without
abbrev pub IsToldSo : Config → (ℕ → Heading) → List Event → List (History RingCall) → Connection
    → Connection → Type 0
IsToldSo c heads script histories told plain =
    (told.number ≡ plain.number) × (told.receipt ≡ plain.receipt)
    × IsSentSo told.receipt.entered c heads script histories told plain

-- the same of all, in order
abbrev pub AreToldSo : Config → (ℕ → Heading) → List Event → List (History RingCall)
    → List Connection → List Connection → Type 0
AreToldSo c heads script histories [] [] = ⊤
AreToldSo c heads script histories [] (plain ∷ others) = ⊥
AreToldSo c heads script histories (told ∷ more) [] = ⊥
AreToldSo c heads script histories (told ∷ more) (plain ∷ others) =
    IsToldSo c heads script histories told plain × AreToldSo c heads script histories more others

-- ---- the report

-- There is a report that keeps the promise of a run without greetings, and the sums are its sums.
-- By its heads and by its histories, the connections are told so where it tells of these.
pub record IsGreeted (c : Config) (script : List Event) (r : Report) : Type 0 where
  pub plain : Report
  pub promised : IsPromised c script plain
  pub closed : r.closed ≡ plain.closed
  pub told : AreToldSo c promised.heads script promised.histories r.connections plain.connections
