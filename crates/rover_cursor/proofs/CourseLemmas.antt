-- A rover's segment over all of its reads, and each of its laps.
use Rattle.std.proofs.Common.{◌≡◌, ℕ, zero, suc, ◌+◌, ◌<◌, ◌≤◌, Bool, List, [], ◌∷◌, ◌++◌, length, get_or, refl, ap, ◌∙◌, sym, arith, All, AllPairs, fold}
use Rattle.std.specs.List.{count_by}
use Rattle.std.proofs.lemmas.List.Kept.{AllPairs-cons}
use Rattle.mount_ring.specs.declared.Lap.{Lap}
use Rattle.mount_ring.specs.Reads.{read_frames}
use Rattle.mount_ring.specs.History.{Shape, State, permits_at, joined}
use Rattle.rover_cursor.specs.declared.segment.Segment.{Segment}
use Rattle.rover_cursor.specs.Sound.{between, kept, LapsBetween, IsSound}
use Rattle.rover_cursor.specs.Course.{Round, Course, after_round, course_begun, course_of}
use Rattle.rover_cursor.proofs.SoundLemmas.{LapsBetween-le, IsSound-append, IsSound-read, IsSound-begun, kept-append, kept-read, kept-begun, sound_counts}

-- ---- each lap

-- what is true of each lap between two places
abbrev pub IsLapBetween : (List ℕ → Bool) → ℕ → List (List ℕ) → ℕ → ℕ → Lap → Type 0
IsLapBetween permits capacity frames from to lap =
    (from ≤ lap.from) × (lap.from < lap.to) × (lap.to + capacity ≡ lap.published) × (lap.published ≤ length frames)
    × (lap.overrun ≡ count_by permits (between lap.from lap.to frames)) × (lap.to ≤ to)

each_lap : (permits : List ℕ → Bool) (capacity : ℕ) (frames : List (List ℕ)) (from : ℕ) (laps : List Lap) (to : ℕ) →
    LapsBetween permits capacity frames from laps to → All (IsLapBetween permits capacity frames from to) laps
each_lap permits capacity frames from [] to h k d below = absurd (let e : ⊥ = omega (arith, below) in e)
each_lap permits capacity frames from (lap ∷ laps) to h zero d below =
    (h.0, h.1, h.2, h.3, h.4, LapsBetween-le permits capacity frames lap.to laps to h.5)
each_lap permits capacity frames from (lap ∷ laps) to h (suc k) d below =
    let later : IsLapBetween permits capacity frames lap.to to (get_or laps k d) =
    each_lap permits capacity frames lap.to laps to h.5 k d (omega (arith, below)) in
    (omega (arith, h.0, h.1, later.0), later.1, later.2, later.3, later.4, later.5)

pub sound_lap : (permits : List ℕ → Bool) (capacity : ℕ) (frames : List (List ℕ)) (segment : Segment)
    → IsSound permits capacity frames segment →
    All (IsLapBetween permits capacity frames segment.from segment.to) segment.laps
sound_lap permits capacity frames segment sound = each_lap permits capacity frames segment.from segment.laps
    segment.to sound.laps

pub laps_ordered : (permits : List ℕ → Bool) (capacity : ℕ) (frames : List (List ℕ)) (from : ℕ) (laps : List Lap)
    (to : ℕ) →
    LapsBetween permits capacity frames from laps to → AllPairs (λ (earlier later : Lap). earlier.to ≤ later.from) laps
laps_ordered permits capacity frames from [] to h = λ i j d before below. absurd (let e : ⊥ = omega (arith, below) in e)
laps_ordered permits capacity frames from (lap ∷ laps) to h =
    AllPairs-cons (λ (earlier later : Lap). earlier.to ≤ later.from) lap laps
    (λ k d below. (each_lap permits capacity frames lap.to laps to h.5 k d below).0)
    (laps_ordered permits capacity frames lap.to laps to h.5)

-- ---- all reads from joining on

-- what stays true of a course
abbrev pub IsOwed : (List ℕ → Bool) → ℕ → ℕ → Course → Type 0
IsOwed permits capacity from course =
    IsSound permits capacity course.published course.segment × (course.segment.from ≡ from)
    × (course.taken ≡ kept permits course.published course.segment)

owed_round : (permits : List ℕ → Bool) (capacity from : ℕ) (course : Course) (round : Round) →
    IsOwed permits capacity from course → IsOwed permits capacity from (after_round permits capacity course round)
owed_round permits capacity from course round owed =
    let frames : List (List ℕ) = course.published ++ round.more in
    let sound : IsSound permits capacity frames course.segment =
    IsSound-append permits capacity course.published round.more course.segment owed.0 in (
      IsSound-read permits capacity frames course.segment round.budget sound,
      owed.1,
      ap (λ l. l ++ read_frames permits capacity frames course.segment.cursor round.budget)
          (owed.2 ∙ sym (kept-append permits capacity course.published round.more course.segment owed.0))
          ∙ sym (kept-read permits capacity frames course.segment round.budget sound),
    )

owed_rounds : (permits : List ℕ → Bool) (capacity from : ℕ) (course : Course) (rounds : List Round) →
    IsOwed permits capacity from course
    → IsOwed permits capacity from (fold (after_round permits capacity) course rounds)
owed_rounds permits capacity from course [] owed = owed
owed_rounds permits capacity from course (round ∷ rounds) owed =
    owed_rounds permits capacity from (after_round permits capacity course round) rounds
    (owed_round permits capacity from course round owed)

pub owed : (shape : Shape) (state : State) (mount number : ℕ) (rounds : List Round) →
    IsOwed (permits_at shape number) shape.capacity (length state.published) (course_of shape state mount number rounds)
owed shape state mount number rounds =
    owed_rounds (permits_at shape number) shape.capacity (length state.published)
    (course_begun shape state mount number) rounds (
      IsSound-begun _ _ _ mount _ refl refl,
      refl,
      sym
          (kept-begun (permits_at shape number) state.published mount (joined shape state number)),
    )

pub owed_counts : (shape : Shape) (state : State) (mount number : ℕ) (rounds : List Round) →
    length (course_of shape state mount number rounds).taken
    + (course_of shape state mount number rounds).segment.overrun
    ≡ count_by (permits_at shape number)
    (between (length state.published) (course_of shape state mount number rounds).segment.to
    (course_of shape state mount number rounds).published)
owed_counts shape state mount number rounds =
    let course : Course = course_of shape state mount number rounds in
    let is : IsOwed (permits_at shape number) shape.capacity (length state.published) course =
    owed shape state mount number rounds in
    ap (λ (n : ℕ). n + course.segment.overrun) (ap length is.2 ∙ sym is.0.sent)
    ∙ sound_counts (permits_at shape number) shape.capacity course.published course.segment is.0
    ∙ ap (λ (n : ℕ). count_by (permits_at shape number) (between n course.segment.to course.published)) is.1
