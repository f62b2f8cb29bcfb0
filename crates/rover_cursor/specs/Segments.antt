-- The segments that a rover's answers give: joining begins one, and each read goes on with the
-- last.
use Rattle.std.specs.Prelude.{ℕ, ◌+◌, List, [], ◌∷◌, ◌++◌, fold, option_to_list}
use Rattle.mount_ring.specs.declared.Cursor.{Cursor}
use Rattle.mount_ring.specs.declared.ReadReport.{ReadReport}
use Rattle.mount_ring.specs.declared.RingAnswer.{RingAnswer}
use Rattle.mount_ring.specs.declared.RingAnswer.TheVariants.{Given, Taken, Released, At, Joined, Looked, Read}
pub use Rattle.mount_ring.specs.Places.{lap_overrun}
use Rattle.rover_cursor.specs.declared.segment.Segment.{Segment}

-- a segment of this mountpoint that begins at this cursor
abbrev pub begun : ℕ → Cursor → Segment
begun mount cursor = record {
  mount = mount;
  from = cursor.next;
  to = cursor.next;
  sent = 0;
  overrun = 0;
  laps = [];
  cursor = cursor;
}

-- a segment after one more read
abbrev pub read_on : ReadReport → Segment → Segment
read_on report segment = record {
  mount = segment.mount;
  from = segment.from;
  to = report.cursor.next;
  sent = segment.sent + report.taken;
  overrun = segment.overrun + lap_overrun report.lapped;
  laps = segment.laps ++ option_to_list report.lapped;
  cursor = report.cursor;
}

-- the newest segment read on
abbrev pub newest_read_on : ReadReport → List Segment → List Segment
newest_read_on report [] = []
newest_read_on report (segment ∷ older) = read_on report segment ∷ older

-- the segments after one more answer, the newest first
abbrev pub after_answer : ℕ → List Segment → RingAnswer → List Segment
after_answer mount segments (Given claim) = segments
after_answer mount segments (Taken caller claim) = segments
after_answer mount segments Released = segments
after_answer mount segments (At place) = segments
after_answer mount segments (Joined cursor) = begun mount cursor ∷ segments
after_answer mount segments (Looked claim) = segments
after_answer mount segments (Read report) = newest_read_on report segments

-- the segments of all answers to one caller at this mountpoint, the newest first
abbrev pub newest_segments : ℕ → List RingAnswer → List Segment
newest_segments mount answers = fold (after_answer mount) [] answers
