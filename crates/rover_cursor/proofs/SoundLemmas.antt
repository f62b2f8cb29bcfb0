-- A segment is sound when it begins, and stays so over each read and while more frames are
-- published.
use Rattle.std.proofs.Common.{lt-ltb, ◌≡◌, ℕ, ◌+◌, ◌-◌, ◌<◌, ◌≤◌, Bool, true, List, [], ◌∷◌, ◌++◌, length, take, drop, refl, ap, ◌∙◌, sym, subst, arith, append_assoc, append-nil, length-append, Option, None, Some}
use Rattle.std.specs.Prelude.{option_to_list}
use Rattle.std.specs.List.{filter, count_by, sum_by}
use Rattle.std.proofs.lemmas.List.{take-append-le}
use Rattle.std.proofs.Math.Seq.{take-length}
use Rattle.std.proofs.lemmas.List.Elements.{filter-append}
use Rattle.std.proofs.lemmas.List.Sums.{length-filter, sum_by-append, sum_by-cons, count_by-le-length}
use Rattle.mount_ring.specs.declared.Cursor.{Cursor}
use Rattle.mount_ring.specs.declared.Lap.{Lap}
use Rattle.mount_ring.specs.Reads.{read_report, read_frames, read_lap, read_start, read_end}
use Rattle.rover_cursor.specs.declared.segment.Segment.{Segment}
use Rattle.rover_cursor.specs.Segments.{begun, read_on, lap_overrun}
use Rattle.mount_ring.specs.History.{Shape, State, permits_at, is_readable}
use Rattle.mount_ring.proofs.HistoryLemmas.{readable_from}
use Rattle.mount_ring.proofs.ReadLemmas.{between-append, between-between, length-between, count_by-append, Begins, read_begins, read_ends, read_frames_between}
use Rattle.rover_cursor.specs.Sound.{between, outside, kept, LapsBetween, IsSound}

-- ---- laps

-- the laps lie where they lay when the place after them moves on
pub LapsBetween-longer : (permits : List ℕ → Bool) (capacity : ℕ) (frames : List (List ℕ)) (from : ℕ)
    (laps : List Lap) (to later : ℕ) →
    LapsBetween permits capacity frames from laps to → to ≤ later → LapsBetween permits capacity frames from laps later
LapsBetween-longer permits capacity frames from [] to later laps_are further = omega arith
LapsBetween-longer permits capacity frames from (lap ∷ laps) to later h further =
    (h.0, h.1, h.2, h.3, h.4, LapsBetween-longer permits capacity frames lap.to laps to later h.5 further)

pub outside-longer : (permits : List ℕ → Bool) (capacity : ℕ) (frames : List (List ℕ)) (from : ℕ) (laps : List Lap)
    (to later : ℕ) →
    LapsBetween permits capacity frames from laps to → to ≤ later →
    outside from laps later frames ≡ outside from laps to frames ++ between to later frames
outside-longer permits capacity frames from [] to later laps_are further =
    sym (between-between from to later frames laps_are further)
outside-longer permits capacity frames from (lap ∷ laps) to later h further =
    ap (λ l. between from lap.from frames ++ l)
    (outside-longer permits capacity frames lap.to laps to later h.5 further)
    ∙ sym (append_assoc (between from lap.from frames) (outside lap.to laps to frames) (between to later frames))

-- the laps begin before they end
pub LapsBetween-le : (permits : List ℕ → Bool) (capacity : ℕ) (frames : List (List ℕ)) (from : ℕ) (laps : List Lap)
    (to : ℕ) →
    LapsBetween permits capacity frames from laps to → from ≤ to
LapsBetween-le permits capacity frames from [] to h = h
LapsBetween-le permits capacity frames from (lap ∷ laps) to h =
    let after : lap.to ≤ to = LapsBetween-le permits capacity frames lap.to laps to h.5 in omega (arith, h.0, h.1)

-- one more lap, from where they end
pub LapsBetween-lapped : (permits : List ℕ → Bool) (capacity : ℕ) (frames : List (List ℕ)) (from : ℕ)
    (laps : List Lap) (to : ℕ) (lap : Lap) (later : ℕ) →
    LapsBetween permits capacity frames from laps to → lap.from ≡ to → lap.from < lap.to
    → lap.to + capacity ≡ lap.published →
    lap.published ≤ length frames → lap.overrun ≡ count_by permits (between lap.from lap.to frames) → lap.to ≤ later →
    LapsBetween permits capacity frames from (laps ++ lap ∷ []) later
LapsBetween-lapped permits capacity frames from [] to lap later h at some over kept counted further =
    (omega (arith, h, at), some, over, kept, counted, further)
LapsBetween-lapped permits capacity frames from (first ∷ laps) to lap later h at some over kept counted further = (
  h.0,
  h.1,
  h.2,
  h.3,
  h.4,
  LapsBetween-lapped permits capacity frames first.to laps to lap later h.5 at some over
      kept counted further,
)

pub outside-lapped : (permits : List ℕ → Bool) (capacity : ℕ) (frames : List (List ℕ)) (from : ℕ) (laps : List Lap)
    (to : ℕ) (lap : Lap) (later : ℕ) →
    LapsBetween permits capacity frames from laps to → lap.from ≡ to →
    outside from (laps ++ lap ∷ []) later frames ≡ outside from laps to frames ++ between lap.to later frames
outside-lapped permits capacity frames from [] to lap later h at =
    ap (λ (n : ℕ). between from n frames ++ between lap.to later frames) at
outside-lapped permits capacity frames from (first ∷ laps) to lap later h at =
    ap (λ l. between from first.from frames ++ l)
    (outside-lapped permits capacity frames first.to laps to lap later h.5 at)
    ∙ sym (append_assoc (between from first.from frames) (outside first.to laps to frames)
    (between lap.to later frames))

-- ---- more frames

pub LapsBetween-append : (permits : List ℕ → Bool) (capacity : ℕ) (frames more : List (List ℕ)) (from : ℕ)
    (laps : List Lap) (to : ℕ) →
    LapsBetween permits capacity frames from laps to → LapsBetween permits capacity (frames ++ more) from laps to
LapsBetween-append permits capacity frames more from [] to h = h
LapsBetween-append permits capacity frames more from (lap ∷ laps) to h =
    let order : lap.from ≤ lap.to = omega (arith, h.1) in
    let inside : lap.to ≤ length frames = omega (arith, h.2, h.3) in
    let longer : lap.published ≤ length (frames ++ more) = omega (arith, h.3, length-append frames more) in (
      h.0,
      h.1,
      h.2,
      longer,
      h.4 ∙ ap (count_by permits) (sym (between-append lap.from lap.to frames more order inside)),
      LapsBetween-append permits capacity frames more lap.to laps to h.5,
    )

pub outside-append : (permits : List ℕ → Bool) (capacity : ℕ) (frames more : List (List ℕ)) (from : ℕ)
    (laps : List Lap) (to : ℕ) →
    LapsBetween permits capacity frames from laps to → to ≤ length frames →
    outside from laps to (frames ++ more) ≡ outside from laps to frames
outside-append permits capacity frames more from [] to h within = between-append from to frames more h within
outside-append permits capacity frames more from (lap ∷ laps) to h within =
    let inside : lap.from ≤ length frames = omega (arith, h.1, h.2, h.3) in
    ap (λ l. l ++ outside lap.to laps to (frames ++ more)) (between-append from lap.from frames more h.0 inside)
    ∙ ap (λ l. between from lap.from frames ++ l)
    (outside-append permits capacity frames more lap.to laps to h.5 within)

-- what a segment was sent stays what it is when more is published
pub kept-append : (permits : List ℕ → Bool) (capacity : ℕ) (frames more : List (List ℕ)) (segment : Segment) →
    IsSound permits capacity frames segment → kept permits (frames ++ more) segment ≡ kept permits frames segment
kept-append permits capacity frames more segment sound =
    ap (filter permits)
    (outside-append permits capacity frames more segment.from segment.laps segment.to sound.laps sound.within)

-- a sound segment stays sound when more is published
pub IsSound-append : (permits : List ℕ → Bool) (capacity : ℕ) (frames more : List (List ℕ)) (segment : Segment) →
    IsSound permits capacity frames segment → IsSound permits capacity (frames ++ more) segment
IsSound-append permits capacity frames more segment sound = record {
  within = omega (arith, sound.within, length-append frames more);
  laps = LapsBetween-append permits capacity frames more segment.from segment.laps segment.to sound.laps;
  sent = sound.sent ∙ ap length (sym (kept-append permits capacity frames more segment sound));
  overrun = sound.overrun;
  next = sound.next;
  passed = sound.passed ∙ ap (count_by permits) (sym (take-append-le segment.to frames more sound.within));
}

-- ---- a segment begins

pub kept-begun : (permits : List ℕ → Bool) (frames : List (List ℕ)) (mount : ℕ) (cursor : Cursor) →
    kept permits frames (begun mount cursor) ≡ []
kept-begun permits frames mount cursor =
    let none : cursor.next - cursor.next ≡ 0 = omega arith in
    ap (λ (n : ℕ). filter permits (take n (drop cursor.next frames))) none

pub IsSound-begun : (permits : List ℕ → Bool) (capacity : ℕ) (frames : List (List ℕ)) (mount : ℕ) (cursor : Cursor) →
    cursor.next ≡ length frames → cursor.passed ≡ count_by permits frames
    → IsSound permits capacity frames (begun mount cursor)
IsSound-begun permits capacity frames mount cursor next passed = record {
  within = omega (arith, next);
  laps = omega arith;
  sent = sym (ap length (kept-begun permits frames mount cursor));
  overrun = refl;
  next = refl;
  passed = passed ∙ ap (count_by permits) (sym (ap (λ (n : ℕ). take n frames) next ∙ take-length frames));
}

-- ---- a read

pub laps_read : (permits : List ℕ → Bool) (capacity : ℕ) (frames : List (List ℕ)) (from : ℕ) (laps : List Lap)
    (at : ℕ) (lapped : Option Lap) (begin to : ℕ) →
    LapsBetween permits capacity frames from laps at → Begins permits capacity frames at lapped begin → begin ≤ to →
    LapsBetween permits capacity frames from (laps ++ option_to_list lapped) to
laps_read permits capacity frames from laps at None begin to h begins further =
    subst (λ (l : List Lap). LapsBetween permits capacity frames from l to) (sym (append-nil laps))
    (LapsBetween-longer permits capacity frames from laps at to h (omega (arith, begins, further)))
laps_read permits capacity frames from laps at (Some lap) begin to h begins further =
    LapsBetween-lapped permits capacity frames from laps at lap to h begins.0 begins.1 begins.2
    (omega (arith, begins.3)) begins.4 (omega (arith, begins.5, further))

-- the frames outside of them
pub outside_read : (permits : List ℕ → Bool) (capacity : ℕ) (frames : List (List ℕ)) (from : ℕ) (laps : List Lap)
    (at : ℕ) (lapped : Option Lap) (begin to : ℕ) →
    LapsBetween permits capacity frames from laps at → Begins permits capacity frames at lapped begin → begin ≤ to →
    outside from (laps ++ option_to_list lapped) to frames ≡ outside from laps at frames ++ between begin to frames
outside_read permits capacity frames from laps at None begin to h begins further =
    ap (λ (l : List Lap). outside from l to frames) (append-nil laps)
    ∙ outside-longer permits capacity frames from laps at to h (omega (arith, begins, further))
    ∙ ap (λ (n : ℕ). outside from laps at frames ++ between n to frames) (sym begins)
outside_read permits capacity frames from laps at (Some lap) begin to h begins further =
    outside-lapped permits capacity frames from laps at lap to h begins.0
    ∙ ap (λ (n : ℕ). outside from laps at frames ++ between n to frames) (sym begins.5)

-- the overrun after a read
overrun_read : (laps : List Lap) (lapped : Option Lap) →
    sum_by (λ (lap : Lap). lap.overrun) laps + lap_overrun lapped
    ≡ sum_by (λ (lap : Lap). lap.overrun) (laps ++ option_to_list lapped)
overrun_read laps None = omega (arith, ap (sum_by (λ (lap : Lap). lap.overrun)) (append-nil laps))
overrun_read laps (Some lap) =
    omega (
      arith,
      sum_by-append (λ (lap : Lap). lap.overrun) laps (lap ∷ []),
      sum_by-cons (λ (lap : Lap). lap.overrun)
          lap [],
    )

-- what a segment was sent grows by what the read takes
pub kept-read : (permits : List ℕ → Bool) (capacity : ℕ) (frames : List (List ℕ)) (segment : Segment) (budget : ℕ) →
    IsSound permits capacity frames segment →
    kept permits frames (read_on (read_report permits capacity frames segment.cursor budget) segment)
    ≡ kept permits frames segment ++ read_frames permits capacity frames segment.cursor budget
kept-read permits capacity frames segment budget sound =
    let within : segment.cursor.next ≤ length frames = omega (arith, sound.next, sound.within) in
    let laps_are : LapsBetween permits capacity frames segment.from segment.laps segment.cursor.next =
    subst (λ (n : ℕ). LapsBetween permits capacity frames segment.from segment.laps n) (sym sound.next) sound.laps in
    ap (filter permits) (outside_read permits capacity frames segment.from segment.laps segment.cursor.next
    (read_lap permits capacity frames segment.cursor) (read_start capacity frames segment.cursor)
    (read_end permits capacity frames segment.cursor budget) laps_are
    (read_begins permits capacity frames segment.cursor within)
    (read_ends permits capacity frames segment.cursor budget within).0)
    ∙ filter-append permits (outside segment.from segment.laps segment.cursor.next frames) _
    ∙ ap (λ l. filter permits (outside segment.from segment.laps segment.cursor.next frames) ++ l)
    (read_frames_between permits capacity frames segment.cursor budget)
    ∙ ap (λ (n : ℕ). filter permits (outside segment.from segment.laps n frames) ++ read_frames permits capacity
    frames segment.cursor budget) sound.next

-- a sound segment stays sound over a read
pub IsSound-read : (permits : List ℕ → Bool) (capacity : ℕ) (frames : List (List ℕ)) (segment : Segment) (budget : ℕ) →
    IsSound permits capacity frames segment →
    IsSound permits capacity frames (read_on (read_report permits capacity frames segment.cursor budget) segment)
IsSound-read permits capacity frames segment budget sound =
    let within : segment.cursor.next ≤ length frames = omega (arith, sound.next, sound.within) in
    let laps_are : LapsBetween permits capacity frames segment.from segment.laps segment.cursor.next =
    subst (λ (n : ℕ). LapsBetween permits capacity frames segment.from segment.laps n) (sym sound.next) sound.laps in
    record {
      within = (read_ends permits capacity frames segment.cursor budget within).1;
      laps = laps_read permits capacity frames segment.from segment.laps segment.cursor.next
          (read_lap permits capacity frames segment.cursor) (read_start capacity frames segment.cursor)
          (read_end permits capacity frames segment.cursor budget) laps_are
          (read_begins permits capacity frames segment.cursor within)
          (read_ends permits capacity frames segment.cursor budget within).0;
      sent = ap (λ (n : ℕ). n + length (read_frames permits capacity frames segment.cursor budget)) sound.sent
          ∙ sym (length-append (kept permits frames segment)
          (read_frames permits capacity frames segment.cursor budget))
          ∙ ap length (sym (kept-read permits capacity frames segment budget sound));
      overrun = ap (λ (n : ℕ). n + lap_overrun (read_lap permits capacity frames segment.cursor)) sound.overrun
          ∙ overrun_read segment.laps (read_lap permits capacity frames segment.cursor);
      next = refl;
      passed = refl;
    }

-- ---- the promise of a segment

outside_counts : (permits : List ℕ → Bool) (capacity : ℕ) (frames : List (List ℕ)) (from : ℕ) (laps : List Lap)
    (to : ℕ) →
    LapsBetween permits capacity frames from laps to →
    count_by permits (outside from laps to frames) + sum_by (λ (lap : Lap). lap.overrun) laps
    ≡ count_by permits (between from to frames)
outside_counts permits capacity frames from [] to h = omega arith
outside_counts permits capacity frames from (lap ∷ laps) to h =
    let later : lap.to ≤ to = LapsBetween-le permits capacity frames lap.to laps to h.5 in
    let whole : count_by permits (between from lap.from frames) + count_by permits (between lap.from to frames)
    ≡ count_by permits (between from to frames) =
    sym (count_by-append permits (between from lap.from frames) (between lap.from to frames))
    ∙ ap (count_by permits) (between-between from lap.from to frames h.0 (omega (arith, h.1, later))) in
    let behind : count_by permits (between lap.from lap.to frames) + count_by permits (between lap.to to frames)
    ≡ count_by permits (between lap.from to frames) =
    sym (count_by-append permits (between lap.from lap.to frames) (between lap.to to frames))
    ∙ ap (count_by permits) (between-between lap.from lap.to to frames (omega (arith, h.1)) later) in
    let rest : count_by permits (outside lap.to laps to frames) + sum_by (λ (lap : Lap). lap.overrun) laps
    ≡ count_by permits (between lap.to to frames) =
    outside_counts permits capacity frames lap.to laps to h.5 in
    let first : lap.overrun ≡ count_by permits (between lap.from lap.to frames) = h.4 in
    let split : count_by permits (between from lap.from frames ++ outside lap.to laps to frames)
    ≡ count_by permits (between from lap.from frames) + count_by permits (outside lap.to laps to frames) =
    count_by-append permits (between from lap.from frames) (outside lap.to laps to frames) in
    let total : sum_by (λ (lap : Lap). lap.overrun) (lap ∷ laps)
    ≡ lap.overrun + sum_by (λ (lap : Lap). lap.overrun) laps =
    sum_by-cons (λ (lap : Lap). lap.overrun) lap laps in
    omega (arith, whole, behind, rest, first, split, total)

-- frames sent and frames counted as overrun are together the permitted ones from where the segment
-- began to where its last read ended
pub sound_counts : (permits : List ℕ → Bool) (capacity : ℕ) (frames : List (List ℕ)) (segment : Segment) →
    IsSound permits capacity frames segment →
    segment.sent + segment.overrun ≡ count_by permits (between segment.from segment.to frames)
sound_counts permits capacity frames segment sound =
    let sent : segment.sent ≡ count_by permits (outside segment.from segment.laps segment.to frames) =
    sound.sent ∙ length-filter permits (outside segment.from segment.laps segment.to frames) in
    omega (
      arith,
      sent,
      sound.overrun,
      outside_counts permits capacity frames segment.from segment.laps segment.to
          sound.laps,
    )

-- so they are no more than the places from the first frame on
pub sound_few : (permits : List ℕ → Bool) (capacity : ℕ) (frames : List (List ℕ)) (segment : Segment) →
    IsSound permits capacity frames segment → segment.sent + segment.overrun ≤ segment.to
sound_few permits capacity frames segment sound =
    let order : segment.from ≤ segment.to = LapsBetween-le permits capacity frames segment.from segment.laps
    segment.to sound.laps in
    omega (
      arith,
      order,
      sound_counts permits capacity frames segment sound,
      count_by-le-length permits (between segment.from segment.to frames),
      length-between segment.from segment.to frames order sound.within,
    )

-- and the segment's cursor may be read
pub sound_readable : (shape : Shape) (state : State) (segment : Segment)
    → segment.cursor.filter < length shape.filters →
    IsSound (permits_at shape segment.cursor.filter) shape.capacity state.published segment
    → is_readable shape state segment.cursor ≡ true
sound_readable shape state segment known sound =
    readable_from shape state segment.cursor (
      omega (arith, sound.next, sound.within),
      lt-ltb segment.cursor.filter (length shape.filters) known,
      sound.passed
          ∙ ap (λ (n : ℕ). count_by (permits_at shape segment.cursor.filter) (take n state.published)) (sym sound.next),
    )
