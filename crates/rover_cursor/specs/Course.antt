-- A rover that reads again and again, while more is published.
use Rattle.std.specs.Prelude.{ℕ, Bool, List, [], ◌++◌, fold}
use Rattle.mount_ring.specs.declared.Cursor.{Cursor}
use Rattle.mount_ring.specs.Reads.{read_report, read_frames}
use Rattle.mount_ring.specs.History.{Shape, State, permits_at, joined}
use Rattle.rover_cursor.specs.declared.segment.Segment.{Segment}
use Rattle.rover_cursor.specs.Segments.{begun, read_on}

-- the frames that are published next, and the budget of the read after them
pub record Round : Type 0 where
  pub more : List (List ℕ)
  pub budget : ℕ

-- all frames that were published, the segment, and all frames that its reads took, in order
pub record Course : Type 0 where
  pub published : List (List ℕ)
  pub segment : Segment
  pub taken : List (List ℕ)

-- after one more round at a ring of this capacity
abbrev pub after_round : (List ℕ → Bool) → ℕ → Course → Round → Course
after_round permits capacity course round =
    let published : List (List ℕ) = course.published ++ round.more in
    let cursor : Cursor = course.segment.cursor in
    record {
      published = published;
      segment = read_on (read_report permits capacity published cursor round.budget) course.segment;
      taken = course.taken ++ read_frames permits capacity published cursor round.budget;
    }

-- when a rover joins, through the filter of this number
abbrev pub course_begun : Shape → State → ℕ → ℕ → Course
course_begun shape state mount number = record {
  published = state.published;
  segment = begun mount (joined shape state number);
  taken = [];
}

-- from its joining on, over all these rounds
abbrev pub course_of : Shape → State → ℕ → ℕ → List Round → Course
course_of shape state mount number rounds =
    fold (after_round (permits_at shape number) shape.capacity)
    (course_begun shape state mount number) rounds
