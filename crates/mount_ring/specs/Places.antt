-- Reads and histories in the words of frames and their places. The laws say by these what the
-- answers owe.
use Rattle.std.specs.Prelude.{ℕ, ◌+◌, ◌-◌, ◌≤◌, Bool, true, ◌&&◌, List, [], ◌∷◌, ◌++◌, length, take, drop, Option, None, Some}
use Rattle.mount_ring.specs.declared.cursor.Cursor.{Cursor}
use Rattle.mount_ring.specs.declared.cursor.Lap.{Lap}
use Rattle.mount_ring.specs.declared.cursor.ReadReport.{ReadReport}
use Rattle.mount_ring.specs.declared.call.RingCall.{RingCall}
use Rattle.mount_ring.specs.declared.call.RingCall.TheVariants.{Claim, Release, Publish, Join, Look, Read}
use Rattle.mount_ring.specs.declared.call.RingAnswer.{RingAnswer}
use Rattle.mount_ring.specs.declared.call.RingAnswer.TheVariants as answers
use Rattle.mount_ring.specs.Reads.{read_report, read_frames}
use Rattle.mount_ring.specs.History.{Shape, State, after, answer, fits}

-- the frames at the places from `from` up to, not including, `to`
abbrev pub between : ℕ → ℕ → List (List ℕ) → List (List ℕ)
between from to published = take (to - from) (drop from published)

-- a read with this filter at a ring of this capacity where these frames were published: from a
-- cursor within them, with this budget
pub record Reading : Type 0 where
  pub permits : List ℕ → Bool
  pub capacity : ℕ
  pub published : List (List ℕ)
  pub cursor : Cursor
  pub budget : ℕ
  pub within : cursor.next ≤ length published

-- what it answers
abbrev pub reading_report : Reading → ReadReport
reading_report reading =
    read_report reading.permits reading.capacity reading.published reading.cursor reading.budget

-- the frames that it takes
abbrev pub taken_by : Reading → List (List ℕ)
taken_by reading =
    read_frames reading.permits reading.capacity reading.published reading.cursor reading.budget

-- the place behind a lap, or this place where there was none
abbrev pub behind_lap : ℕ → Option Lap → ℕ
behind_lap place None = place
behind_lap place (Some lap) = lap.to

-- the overrun of a lap, or 0 where there was none
abbrev pub lap_overrun : Option Lap → ℕ
lap_overrun None = 0
lap_overrun (Some lap) = lap.overrun

-- where a read begins: behind its lap, or at its cursor where it was not lapped
abbrev pub begin_of : Reading → ℕ
begin_of reading = behind_lap reading.cursor.next (reading_report reading).lapped

-- where a read ends
abbrev pub end_of : Reading → ℕ
end_of reading = (reading_report reading).cursor.next

-- the frames that one call publishes
abbrev pub frames_of : RingCall → List (List ℕ)
frames_of Claim = []
frames_of (Release claim) = []
frames_of (Publish claim frame) = frame ∷ []
frames_of (Join filter) = []
frames_of Look = []
frames_of (Read cursor budget) = []

-- the frames of all Publish entries, in order
abbrev pub published_by : List (ℕ × RingCall) → List (List ℕ)
published_by [] = []
published_by (entry ∷ entries) = frames_of entry.1 ++ published_by entries

-- whether an answer gives a claim, as 1 or 0
abbrev pub gives : RingAnswer → ℕ
gives (answers.Given claim) = 1
gives (answers.Taken caller claim) = 0
gives answers.Released = 0
gives (answers.At place) = 0
gives (answers.Joined cursor) = 0
gives (answers.Looked claim) = 0
gives (answers.Read report) = 0

-- how many claims the answers to these entries give, from this state on
abbrev pub claims_given : Shape → State → List (ℕ × RingCall) → ℕ
claims_given shape state [] = 0
claims_given shape state (entry ∷ entries) =
    gives (answer shape state entry.1) + claims_given shape (after state entry) entries

-- whether each of these entries is a call that its caller may make at that point, from this state
-- on
abbrev pub are_fit : Shape → State → List (ℕ × RingCall) → Bool
are_fit shape state [] = true
are_fit shape state (entry ∷ entries) =
    fits shape state entry.0 entry.1 && are_fit shape (after state entry) entries
