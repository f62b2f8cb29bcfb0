-- A segment as the history of its mountpoint tells it: begun by its caller's last Join, and read on
-- by each Read since, each by its answer at its own point.
use Rattle.std.specs.Prelude.{ℕ, ◌<◌, ◌≡◌, Bool, true, false, List, [], ◌∷◌, ◌++◌, length, IsTrue}
use Rattle.std.specs.List.{list_all}
use Rattle.turn_log.specs.History.{History, own}
use Rattle.turn_log.specs.Heard.{Heard}
use Rattle.mount_ring.specs.declared.Cursor.{Cursor}
use Rattle.mount_ring.specs.declared.ReadReport.{ReadReport}
use Rattle.mount_ring.specs.declared.RingCall.{RingCall}
use Rattle.mount_ring.specs.declared.RingCall.TheVariants.{Claim, Release, Publish, Join, Look, Read}
use Rattle.mount_ring.specs.declared.RingAnswer.TheVariants as answers
use Rattle.mount_ring.specs.Reads.{read_report, read_frames}
use Rattle.mount_ring.specs.History.{Shape, state_of, answer, permits_at, own_answers}
use Rattle.rover_cursor.specs.declared.segment.Segment.{Segment}
use Rattle.rover_cursor.specs.Segments.{newest_segments, read_on}
use Rattle.rover_cursor.specs.Sound.{IsSound}

-- the frames that a history published, in order
abbrev pub published_in : History RingCall → List (List ℕ)
published_in history = (state_of history).published

-- all that a read answers after this history, by the filter of its cursor
abbrev pub report_in : Shape → History RingCall → Cursor → ℕ → ReadReport
report_in shape history cursor budget =
    read_report (permits_at shape cursor.filter) shape.capacity (published_in history) cursor budget

-- and the frames that it takes
abbrev pub frames_in : Shape → History RingCall → Cursor → ℕ → List (List ℕ)
frames_in shape history cursor budget =
    read_frames (permits_at shape cursor.filter) shape.capacity (published_in history) cursor budget

-- the segments that a caller's answers in this history give, the newest first
abbrev pub segments_told : Shape → ℕ → ℕ → History RingCall → List Segment
segments_told shape mount me history = newest_segments mount (own_answers shape me history)

-- The segment is the newest one that the history tells of this caller, one of the ring's filters is
-- its own, and it is sound over the frames that the history published.
pub record IsSegment (shape : Shape) (me : ℕ) (history : History RingCall) (segment : Segment)
    : Type 0 where
  -- the segments before it
  pub older : List Segment
  pub told : segments_told shape segment.mount me history ≡ segment ∷ older
  pub known : segment.cursor.filter < length shape.filters
  pub sound : IsSound (permits_at shape segment.cursor.filter) shape.capacity
      (published_in history) segment

-- whether a call leaves its caller's segment as it was: it neither joins nor reads
abbrev pub is_quiet : RingCall → Bool
is_quiet Claim = true
is_quiet (Release claim) = true
is_quiet (Publish claim frame) = true
is_quiet (Join filter) = false
is_quiet Look = true
is_quiet (Read cursor budget) = false

-- the history went on, and this caller neither joined nor read since
abbrev pub Resumes : ℕ → History RingCall → History RingCall → Type 0
Resumes me old now =
    (more : History RingCall) × (now ≡ old ++ more) × IsTrue (list_all is_quiet (own me more))

-- A caller read on in a segment, by this budget. The read took these frames, and told their number.
pub record HasRead (shape : Shape) (alone : Bool) (old now : History RingCall) (me budget : ℕ)
    (before after : Segment) (frames : List (List ℕ)) (count : ℕ) : Type 0 where
  -- it was one turn, a read from where the segment stood, and the caller called nothing else
  pub heard : Heard alone (λ history caller call. answer shape (state_of history) call) old now me
      ((Read before.cursor budget, answers.Read (report_in shape now before.cursor budget)) ∷ [])
  -- the segment goes on by what was answered
  pub followed : after ≡ read_on (report_in shape now before.cursor budget) before
  -- and is still what the history tells of this caller
  pub segment : IsSegment shape me now after
  pub taken : frames ≡ frames_in shape now before.cursor budget
  pub counted : count ≡ length frames
