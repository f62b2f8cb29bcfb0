-- What a rover's session stands for: the report of its head, the bytes that came since, all that it
-- called, and what the histories of the mountpoints tell of its segments.
use Rattle.std.specs.Prelude.{◌≡◌, ℕ, ◌<◌, Bool, IsTrue, List, [], ◌∷◌, ◌++◌, length, map, reverse, Option, None}
use Rattle.std.specs.List.{flat_map, All}
use Rattle.rtcm_frame.specs.Transport.{is_frame}
use Rattle.cast_text.specs.Lines.{LineState}
use Rattle.cast_text.specs.Lines as lines
use Rattle.ntrip_head.specs.declared.request.Version.{Version}
use Rattle.turn_log.specs.History.{History}
use Rattle.gga_read.specs.declared.Position.{Position}
use Rattle.base_select.specs.declared.Base.{Base}
use Rattle.mount_ring.specs.declared.call.RingCall.{RingCall}
use Rattle.mount_ring.specs.declared.call.RingCall.TheVariants.{Look, Read}
use Rattle.mount_ring.specs.declared.call.RingAnswer.TheVariants as answers
use Rattle.mount_ring.specs.declared.shape.RingShape.{RingShape}
use Rattle.mount_ring.specs.History.{permits_at}
use Rattle.rover_cursor.specs.declared.segment.Segment.{Segment}
use Rattle.rover_cursor.specs.declared.fault.SegFault.{SegFault}
use Rattle.rover_cursor.specs.Segments.{read_on}
use Rattle.rover_cursor.specs.Sound.{IsSound, kept}
use Rattle.mount_ring.specs.declared.cursor.ReadReport.{ReadReport}
use Rattle.rover_cursor.specs.Told.{IsSegment, published_in, report_in, frames_in}
use Rattle.session_calls.specs.Steps.{Step, at_ring}
use Rattle.session_calls.specs.Plans.{Plan, IsMade}
use Rattle.session_calls.specs.Rings.{history_at, shape_at, Went, WentOn}
use Rattle.rover_session.specs.declared.admitted.Admitted.{Admitted}
use Rattle.rover_session.specs.Owed.{Terms, if_live, rover_plan, reads}
use Rattle.rover_session.specs.Body.{body_of}
use Rattle.rover_session.specs.Made.{base_after, bases_joined, segments_after, mounts_of, present_base, owed_among, IsMadeUntil}

-- ---- what a session keeps

-- what a rover was admitted to, as it is kept
abbrev pub terms_of : Admitted → Terms
terms_of admitted = record {
  near = admitted.near;
  filter = admitted.filter;
  hysteresis = admitted.hysteresis;
  bases = admitted.bases.items;
}

-- a session as contracts see it
pub record Rover : Type 0 where
  pub version : Version
  pub me : ℕ
  pub terms : Terms
  -- the line that is coming
  pub line : LineState
  -- the newest first
  pub segments : List Segment
  pub halt : Option SegFault

-- ---- what it may call

-- the filter of this number is one of each mountpoint's
abbrev pub KnowsFilter : List RingShape → ℕ → Type 0
KnowsFilter shapes filter = All (λ (shape : RingShape). filter < length shape.filters) shapes

-- each base is one of so many mountpoints
abbrev pub AreWithin : ℕ → List Base → Type 0
AreWithin count bases = All (λ (base : Base). base.mount < count) bases

-- ---- looks

-- looks on these bases, each with the claim that it was answered
abbrev pub looked : List (Base × Option ℕ) → List Step
looked lives =
    map (λ (live : Base × Option ℕ). at_ring live.0.mount Look (answers.Looked live.1)) lives

-- the bases among them that are held
abbrev pub held_in : List (Base × Option ℕ) → List Base
held_in lives = flat_map (λ (live : Base × Option ℕ). if_live live.0 live.1) lives

-- one look was made on each of these bases, in order, and told that some of them are held
pub record AskedEach (shapes : List RingShape) (alone : Bool) (old now : List (History RingCall))
    (me : ℕ) (bases held : List Base) : Type 0 where
  -- each base with the claim under which it is held, if it is
  pub lives : List (Base × Option ℕ)
  pub asked : bases ≡ map (λ (live : Base × Option ℕ). live.0) lives
  pub held_are : held ≡ held_in lives
  pub went : Went shapes alone old now me (looked lives)

-- the same of the first of these bases, before a look was refused
abbrev pub AskedFirst : List RingShape → (alone : Bool) → List (History RingCall)
    → List (History RingCall)
    → ℕ → List Base → Type 0
AskedFirst shapes alone old now me bases =
    (first : List Base) × (rest : List Base) × (held : List Base) × (bases ≡ first ++ rest)
    × AskedEach shapes alone old now me first held

-- ---- segments, the newest first

-- the mountpoint of the segment is one of these, and the segment is sound over the frames that
-- were published there
pub record IsSoundAt (shapes : List RingShape) (histories : List (History RingCall))
    (segment : Segment) : Type 0 where
  pub within : segment.mount < length shapes
  pub sound : IsSound (permits_at (shape_at shapes segment.mount) segment.cursor.filter)
      (shape_at shapes segment.mount).capacity
      (published_in (history_at histories segment.mount)) segment

-- The newest segment is what the history of its mountpoint tells of this caller, and the others are
-- sound.
abbrev pub IsResumable : List RingShape → ℕ → List (History RingCall) → List Segment → Type 0
IsResumable shapes me histories [] = Unit {0}
IsResumable shapes me histories (segment ∷ older) =
    (segment.mount < length shapes)
    × IsSegment (shape_at shapes segment.mount) me (history_at histories segment.mount) segment
    × All (IsSoundAt shapes histories) older

-- So it was at some moment, and this caller called nothing since.
abbrev pub WasResumable : List RingShape → ℕ → List (History RingCall) → List Segment → Type 0
WasResumable shapes me now segments =
    (earlier : List (History RingCall)) × IsResumable shapes me earlier segments
    × WentOn earlier now me

-- the frames that a segment was sent, of those that were published at its mountpoint
abbrev pub frames_of : List RingShape → List (History RingCall) → Segment → List (List ℕ)
frames_of shapes histories segment =
    kept (permits_at (shape_at shapes segment.mount) segment.cursor.filter)
    (published_in (history_at histories segment.mount)) segment

-- and all of these segments, in the order in which they were sent
abbrev pub frames_sent : List RingShape → List (History RingCall) → List Segment → List (List ℕ)
frames_sent shapes histories [] = []
frames_sent shapes histories (segment ∷ older) =
    frames_sent shapes histories older ++ frames_of shapes histories segment

-- The newest of these segments can be read on by this caller, and these are all the frames that
-- were sent in them.
pub record SentSoFar (shapes : List RingShape) (me : ℕ) (histories : List (History RingCall))
    (segments : List Segment) (frames : List (List ℕ)) : Type 0 where
  pub resumable : IsResumable shapes me histories segments
  pub sent : frames_sent shapes histories segments ≡ frames

-- Segments that could be read on can be, whatever became of them, and were sent no frame more.
abbrev pub KeepsSegments : List RingShape → ℕ → List (History RingCall) → List (History RingCall)
    → List Segment → List Segment → Type 0
KeepsSegments shapes me old now before after =
    IsResumable shapes me old before
    → SentSoFar shapes me now after (frames_sent shapes old before)

-- what a read from where a segment stands is answered, as the histories after it tell
abbrev pub report_at : List RingShape → List (History RingCall) → ℕ → Segment → ReadReport
report_at shapes histories budget segment =
    report_in (shape_at shapes segment.mount) (history_at histories segment.mount) segment.cursor
    budget

-- and the frames that it takes
abbrev pub frames_at : List RingShape → List (History RingCall) → ℕ → Segment → List (List ℕ)
frames_at shapes histories budget segment =
    frames_in (shape_at shapes segment.mount) (history_at histories segment.mount) segment.cursor
    budget

-- A caller read on in a segment at its mountpoint, by this budget. The read took these frames, and
-- told their number.
pub record HasReadAt (shapes : List RingShape) (alone : Bool) (old now : List (History RingCall))
    (me budget : ℕ) (before after : Segment) (frames : List (List ℕ)) (count : ℕ) : Type 0 where
  -- it was one turn there, a read from where the segment stood, and nothing else was called
  pub went : Went shapes alone old now me
      (at_ring before.mount (Read before.cursor budget)
      (answers.Read (report_at shapes now budget before)) ∷ [])
  -- the segment goes on by what was answered
  pub followed : after ≡ read_on (report_at shapes now budget before) before
  -- and is still what the history of its mountpoint tells of this caller
  pub segment : IsSegment (shape_at shapes before.mount) me (history_at now before.mount) after
  pub taken : frames ≡ frames_at shapes now budget before
  pub counted : count ≡ length frames

-- those that a turn's read of the newest segment takes
abbrev pub frames_read : List RingShape → List (History RingCall) → ℕ → List Segment
    → List (List ℕ)
frames_read shapes histories budget [] = []
frames_read shapes histories budget (segment ∷ older) = frames_at shapes histories budget segment

-- ---- what it was told and called

-- From one moment to another the caller made this plan, or at a refusal the first of it: no step
-- was a read, and with them these segments became those.
pub record Followed (shapes : List RingShape) (alone : Bool) (old now : List (History RingCall))
    (me : ℕ) (plan : Plan) (refused : Option SegFault) (before after : List Segment)
    : Type 0 where
  pub steps : List Step
  pub went : Went shapes alone old now me steps
  pub made : IsMadeUntil refused plan steps
  pub no_read : owed_among steps ≡ steps
  pub base : base_after (present_base before) steps ≡ present_base after
  pub segments : after ≡ segments_after before steps
  -- one segment more for each Join
  pub mounts : mounts_of after ≡ reverse (bases_joined steps) ++ mounts_of before
  pub keeps : KeepsSegments shapes me old now before after

-- The session was told this report of its head, if any, and then these bytes, and these are all its
-- steps so far: those that are no reads are all that is owed for what it was told, or once it is
-- halted the first of it.
pub record Stands (rover : Rover) (first : Option Position) (bytes : List ℕ) (steps : List Step)
    : Type 0 where
  -- of a session that goes on
  pub line : rover.halt ≡ None → lines.StandsFor rover.line bytes
  pub owed : IsMadeUntil rover.halt (rover_plan rover.terms first bytes) (owed_among steps)
  pub base : base_after None (owed_among steps) ≡ present_base rover.segments
  pub segments : rover.segments ≡ segments_after [] steps
  -- one segment for each Join
  pub mounts : mounts_of rover.segments ≡ reverse (bases_joined steps)

-- A call made further steps, none of them a read, and the session stands with them for these bytes.
pub record Told (shapes : List RingShape) (alone : Bool) (old now : List (History RingCall))
    (rover : Rover) (first : Option Position) (bytes : List ℕ) (steps : List Step) : Type 0 where
  pub more : List Step
  pub went : Went shapes alone old now rover.me more
  pub no_read : owed_among more ≡ more
  pub stands : Stands rover first bytes (steps ++ more)

-- A turn made one read of the newest of these segments, or nothing where there is none, and the
-- session stands with it for the same bytes.
pub record ReadOn (shapes : List RingShape) (alone : Bool) (old now : List (History RingCall))
    (budget : ℕ) (before : List Segment) (rover : Rover) (first : Option Position)
    (bytes : List ℕ) (steps : List Step) : Type 0 where
  pub more : List Step
  pub went : Went shapes alone old now rover.me more
  pub read : IsMade (reads budget before) more
  pub stands : Stands rover first bytes (steps ++ more)

-- A turn read on in the newest segment and sent the frames that the read took, which are so many.
pub record TurnSent (shapes : List RingShape) (alone : Bool) (old now : List (History RingCall))
    (budget : ℕ) (before after : Rover) (frames : List (List ℕ)) (out_old out_new : List ℕ)
    (count : ℕ) : Type 0 where
  -- the session stands with the read for all that it stood for
  pub read : (first : Option Position) (bytes : List ℕ) (steps : List Step)
      → Stands before first bytes steps
      → ReadOn shapes alone old now budget before.segments after first bytes steps
  -- each is a whole frame with the right checksum
  pub valid : All (λ frame. IsTrue (is_frame frame)) frames
  pub counted : count ≡ length frames
  -- they were sent behind all frames before
  pub sent : frames_sent shapes now after.segments
      ≡ frames_sent shapes old before.segments ++ frames
  -- and their bytes, as the version has them, stand behind all bytes before
  pub body : out_new ≡ out_old ++ body_of before.version frames

-- What stands between two calls of a session, where nobody else called: its bases are among these
-- mountpoints, its filter is one of theirs, and its segments are what these histories tell.
pub record IsServed (shapes : List RingShape) (histories : List (History RingCall)) (rover : Rover)
    : Type 0 where
  pub within : AreWithin (length shapes) rover.terms.bases
  pub filter : KnowsFilter shapes rover.terms.filter
  pub resumable : IsResumable shapes rover.me histories rover.segments

-- nothing changes what a rover was admitted to, and how it is served
abbrev pub SameAdmission : Rover → Rover → Type 0
SameAdmission old new =
    (new.version ≡ old.version) × (new.me ≡ old.me) × (new.terms ≡ old.terms)

-- nothing of a session but its segments changed
abbrev pub SameButSegments : Rover → Rover → Type 0
SameButSegments old new = new ≡ record old { segments = new.segments }

-- a session before its first call
abbrev pub IsNew : Rover → Type 0
IsNew rover = (rover.segments ≡ []) × (rover.halt ≡ None) × lines.StandsFor rover.line []
