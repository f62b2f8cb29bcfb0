-- Reads in the words of frames and their places: which a read looks at, which it takes, and which
-- were lapped.
use Rattle.std.proofs.Common.{◌≡◌, ℕ, zero, suc, ◌+◌, ◌-◌, ◌<◌, ◌≤◌, min, Bool, true, false, cond, List, [], ◌∷◌, ◌++◌, length, take, drop, refl, ap, ◌∙◌, sym, subst, arith, Option, None, Some}
use Rattle.std.specs.Prelude.{if◌then◌else◌, nat_lt}
use Rattle.std.specs.List.{filter, count_by}
use Rattle.std.proofs.lemmas.List.{take-append-le, drop-append-le, length-take, length-drop, drop-drop}
use Rattle.std.proofs.Math.Seq.{take-add}
use borrow.Author.Tests.{ltb-true, ltb-false}
use Rattle.std.proofs.lemmas.List.Elements.{filter-append}
use Rattle.std.proofs.lemmas.List.Sums.{length-filter, sum_by-append}
use Rattle.mount_ring.specs.declared.cursor.Cursor.{Cursor}
use Rattle.mount_ring.specs.declared.cursor.Lap.{Lap}
use Rattle.mount_ring.specs.Reads.{looked, read_frames, read_lap, read_start, read_end, oldest, most_taken}
use Rattle.mount_ring.specs.Places.{between, behind_lap, lap_overrun, Reading, reading_report, taken_by, begin_of, end_of}

-- ---- parts of the published frames

-- a part of a list is that part of the list with more behind it
pub between-append : (from to : ℕ) (frames more : List (List ℕ)) → from ≤ to → to ≤ length frames →
    between from to (frames ++ more) ≡ between from to frames
between-append from to frames more ordered within =
    let before : from ≤ length frames = omega arith in
    let short : to - from ≤ length (drop from frames) = omega (arith, length-drop from frames) in
    ap (take (to - from)) (drop-append-le from frames more before)
    ∙ take-append-le (to - from) (drop from frames) more short

pub between-between : (from mid to : ℕ) (frames : List (List ℕ)) → from ≤ mid → mid ≤ to →
    between from mid frames ++ between mid to frames ≡ between from to frames
between-between from mid to frames low high =
    let place : from + (mid - from) ≡ mid = omega arith in
    let start : drop mid frames ≡ drop (mid - from) (drop from frames) =
    ap (λ (n : ℕ). drop n frames) (sym place) ∙ sym (drop-drop (mid - from) from frames) in
    let count : (mid - from) + (to - mid) ≡ to - from = omega arith in
    ap (λ l. between from mid frames ++ take (to - mid) l) start
    ∙ sym (take-add (mid - from) (to - mid) (drop from frames))
    ∙ ap (λ (n : ℕ). take n (drop from frames)) count

pub length-between : (from to : ℕ) (frames : List (List ℕ)) → from ≤ to → to ≤ length frames
    → length (between from to frames) ≡ to - from
length-between from to frames ordered within = length-take (to - from) (drop from frames)
    ∙ omega (arith, length-drop from frames)

pub count_by-append : (permits : List ℕ → Bool) (xs ys : List (List ℕ)) → count_by permits (xs ++ ys)
    ≡ count_by permits xs + count_by permits ys
count_by-append permits xs ys = sum_by-append (λ x. cond (permits x) 1 0) xs ys

-- ---- how far a read looks

pub looked-le : (permits : List ℕ → Bool) (budget : ℕ) (frames : List (List ℕ))
    → looked permits budget frames ≤ length frames
looked-le permits zero frames = omega arith
looked-le permits (suc budget) [] = omega arith
looked-le permits (suc budget) (frame ∷ frames) =
    omega (arith, looked-le permits (cond (permits frame) budget (suc budget)) frames)

-- what a read takes is what the filter permits of the frames that it looks at
pub filter-looked : (permits : List ℕ → Bool) (budget : ℕ) (frames : List (List ℕ)) →
    filter permits (take (looked permits budget frames) frames) ≡ take budget (filter permits frames)
filter-looked permits zero frames = refl
filter-looked permits (suc budget) [] = refl
filter-looked permits (suc budget) (frame ∷ frames) =
    elim (permits frame) as (λ b. cond b
    (frame ∷ filter permits (take (looked permits (cond b budget (suc budget)) frames) frames))
    (filter permits (take (looked permits (cond b budget (suc budget)) frames) frames))
    ≡ take (suc budget) (cond b (frame ∷ filter permits frames) (filter permits frames))) [
      | true ↦ ap (λ l. frame ∷ l) (filter-looked permits budget frames)
      | false ↦ filter-looked permits (suc budget) frames
    ]

-- ---- where a read begins and ends

-- where a read begins, seen from where the cursor stood: there, or behind a lap that the ring had
-- overwritten
abbrev pub Begins : (List ℕ → Bool) → ℕ → List (List ℕ) → ℕ → Option Lap → ℕ → Type 0
Begins permits capacity frames at None from = from ≡ at
Begins permits capacity frames at (Some lap) from =
    (lap.from ≡ at) × (lap.from < lap.to) × (lap.to + capacity ≡ lap.published) × (lap.published ≡ length frames)
    × (lap.overrun ≡ count_by permits (between lap.from lap.to frames)) × (from ≡ lap.to)

read_begins_by : (permits : List ℕ → Bool) (capacity : ℕ) (frames : List (List ℕ)) (cursor : Cursor) (test : Bool) →
    nat_lt cursor.next (oldest capacity frames) ≡ test → cursor.next ≤ length frames →
    Begins permits capacity frames cursor.next
    (if test then Some (record {
      from = cursor.next;
      to = oldest capacity frames;
      published = length frames;
      overrun = count_by permits (take (oldest capacity frames - cursor.next) (drop cursor.next frames));
    }) else None) (read_start capacity frames cursor)
read_begins_by permits capacity frames cursor true is within =
    let below : cursor.next < oldest capacity frames = omega (arith, ltb-true, is) in
    (refl, below, omega (arith, below), refl, refl, omega (arith, below))
read_begins_by permits capacity frames cursor false is within =
    let above : oldest capacity frames ≤ cursor.next = omega (arith, ltb-false, is) in
    omega (arith, above)

pub read_begins : (permits : List ℕ → Bool) (capacity : ℕ) (frames : List (List ℕ)) (cursor : Cursor)
    → cursor.next ≤ length frames →
    Begins permits capacity frames cursor.next (read_lap permits capacity frames cursor)
    (read_start capacity frames cursor)
read_begins permits capacity frames cursor within =
    read_begins_by permits capacity frames cursor (nat_lt cursor.next (oldest capacity frames)) refl within

pub read_ends : (permits : List ℕ → Bool) (capacity : ℕ) (frames : List (List ℕ)) (cursor : Cursor) (budget : ℕ)
    → cursor.next ≤ length frames →
    (read_start capacity frames cursor ≤ read_end permits capacity frames cursor budget)
    × (read_end permits capacity frames cursor budget ≤ length frames)
read_ends permits capacity frames cursor budget within =
    let start : ℕ = read_start capacity frames cursor in
    let bound : looked permits (min budget most_taken) (drop start frames) ≤ length frames - start =
    omega (arith, looked-le permits (min budget most_taken) (drop start frames), length-drop start frames) in
    let low : start ≤ length frames = omega arith in
    (omega arith, omega (arith, bound, low))

-- what a read takes is what the filter permits of the frames from where it begins to where it ends
pub read_frames_between : (permits : List ℕ → Bool) (capacity : ℕ) (frames : List (List ℕ)) (cursor : Cursor)
    (budget : ℕ) →
    filter permits (between (read_start capacity frames cursor) (read_end permits capacity frames cursor budget) frames)
    ≡ read_frames permits capacity frames cursor budget
read_frames_between permits capacity frames cursor budget =
    let start : ℕ = read_start capacity frames cursor in
    let count : read_end permits capacity frames cursor budget - start
    ≡ looked permits (min budget most_taken) (drop start frames) = omega arith in
    ap (λ (n : ℕ). filter permits (take n (drop start frames))) count
    ∙ filter-looked permits (min budget most_taken) (drop start frames)

-- a read that takes fewer than its budget looks at all
pub looked_all : (permits : List ℕ → Bool) (budget : ℕ) (frames : List (List ℕ)) →
    length (take budget (filter permits frames)) < budget → looked permits budget frames ≡ length frames
looked_all permits zero frames few = absurd (let e : ⊥ = omega (arith, few) in e)
looked_all permits (suc budget) [] few = refl
looked_all permits (suc budget) (frame ∷ frames) few =
    elim (permits frame) as (λ b. length
    (take (suc budget) (cond b (frame ∷ filter permits frames) (filter permits frames))) < suc budget
    → suc (looked permits (cond b budget (suc budget)) frames) ≡ length (frame ∷ frames)) [
      | true ↦ λ h. ap (λ (n : ℕ). suc n) (looked_all permits budget frames (omega (arith, h)))
      | false ↦ λ h. ap (λ (n : ℕ). suc n) (looked_all permits (suc budget) frames h)
    ] few

-- at every place before its end it had found fewer than its budget
pub looked_least : (permits : List ℕ → Bool) (budget : ℕ) (frames : List (List ℕ)) (place : ℕ) →
    place < looked permits budget frames → length (filter permits (take place frames)) < budget
looked_least permits zero frames place before = absurd (let e : ⊥ = omega (arith, before) in e)
looked_least permits (suc budget) [] place before = absurd (let e : ⊥ = omega (arith, before) in e)
looked_least permits (suc budget) (frame ∷ frames) zero before = omega arith
looked_least permits (suc budget) (frame ∷ frames) (suc place) before =
    elim (permits frame) as (λ b. suc place < suc (looked permits (cond b budget (suc budget)) frames)
    → length (cond b (frame ∷ filter permits (take place frames)) (filter permits (take place frames))) < suc budget) [
      | true ↦ λ h. omega (arith, looked_least permits budget frames place (omega (arith, h)))
      | false ↦ λ h. omega (arith, looked_least permits (suc budget) frames place (omega (arith, h)))
    ] before

-- ---- the laws of a read

behind_begins : (permits : List ℕ → Bool) (capacity : ℕ) (frames : List (List ℕ)) (place : ℕ) (lapped : Option Lap)
    (from : ℕ) →
    Begins permits capacity frames place lapped from → behind_lap place lapped ≡ from
behind_begins permits capacity frames place None from begins = sym begins
behind_begins permits capacity frames place (Some lap) from begins = sym begins.5

pub reading_begins : (r : Reading) →
    Begins r.permits r.capacity r.published r.cursor.next (reading_report r).lapped
    (read_start r.capacity r.published r.cursor)
reading_begins r = read_begins r.permits r.capacity r.published r.cursor r.within

pub begin_is : (r : Reading) → begin_of r ≡ read_start r.capacity r.published r.cursor
begin_is r = behind_begins r.permits r.capacity r.published r.cursor.next (reading_report r).lapped _ (reading_begins r)

pub reading_ordered : (r : Reading) → (r.cursor.next ≤ begin_of r) × (begin_of r ≤ end_of r)
    × (end_of r ≤ length r.published)
reading_ordered r =
    let ends : (read_start r.capacity r.published r.cursor ≤ end_of r) × (end_of r ≤ length r.published) =
    read_ends r.permits r.capacity r.published r.cursor r.budget r.within in
    (omega (arith, begin_is r), omega (arith, begin_is r, ends.0), ends.1)

pub reading_all : (r : Reading) → (reading_report r).taken < min r.budget 16 → end_of r ≡ length r.published
reading_all r few =
    let start : ℕ = read_start r.capacity r.published r.cursor in
    let low : start ≤ length r.published = omega (arith, r.within) in
    omega (
      arith,
      looked_all r.permits (min r.budget 16) (drop start r.published) few,
      length-drop start r.published,
      low,
    )

pub reading_least : (r : Reading) (place : ℕ) → begin_of r ≤ place → place < end_of r →
    count_by r.permits (between (begin_of r) place r.published) < min r.budget 16
reading_least r place behind before =
    let start : ℕ = read_start r.capacity r.published r.cursor in
    let least : count_by r.permits (between start place r.published) < min r.budget 16 =
    omega (
      arith,
      length-filter r.permits (between start place r.published),
      looked_least r.permits (min r.budget 16) (drop start r.published) (place - start)
          (omega (arith, begin_is r, behind, before)),
    ) in
    subst (λ (n : ℕ). count_by r.permits (between n place r.published) < min r.budget 16) (sym (begin_is r)) least

pub reading_takes : (r : Reading) → taken_by r ≡ filter r.permits (between (begin_of r) (end_of r) r.published)
reading_takes r =
    sym (read_frames_between r.permits r.capacity r.published r.cursor r.budget)
    ∙ ap (λ (n : ℕ). filter r.permits (between n (end_of r) r.published)) (sym (begin_is r))

-- the permitted frames from the cursor on are those that the lap names and those that the read took
pub reading_in_order : (r : Reading) → filter r.permits (between r.cursor.next (end_of r) r.published)
    ≡ filter r.permits (between r.cursor.next (begin_of r) r.published) ++ taken_by r
reading_in_order r =
    let places : (r.cursor.next ≤ begin_of r) × (begin_of r ≤ end_of r)
    × (end_of r ≤ length r.published) = reading_ordered r in
    ap (filter r.permits) (sym (between-between r.cursor.next (begin_of r) (end_of r) r.published places.0 places.1))
    ∙ filter-append r.permits (between r.cursor.next (begin_of r) r.published)
    (between (begin_of r) (end_of r) r.published)
    ∙ ap (λ l. filter r.permits (between r.cursor.next (begin_of r) r.published) ++ l) (sym (reading_takes r))

overrun_begins : (permits : List ℕ → Bool) (capacity : ℕ) (frames : List (List ℕ)) (place : ℕ) (lapped : Option Lap)
    (from : ℕ) →
    Begins permits capacity frames place lapped from
    → lap_overrun lapped ≡ count_by permits (between place (behind_lap place lapped) frames)
overrun_begins permits capacity frames place None from begins =
    let none : place - place ≡ 0 = omega arith in
    sym (ap (λ (n : ℕ). count_by permits (take n (drop place frames))) none)
overrun_begins permits capacity frames place (Some lap) from begins =
    begins.4 ∙ ap (λ (n : ℕ). count_by permits (between n lap.to frames)) begins.0

pub reading_counted : (r : Reading) → (reading_report r).taken + lap_overrun (reading_report r).lapped
    ≡ count_by r.permits (between r.cursor.next (end_of r) r.published)
reading_counted r =
    let over : lap_overrun (reading_report r).lapped ≡ count_by r.permits (between r.cursor.next (begin_of r) r.published) =
    overrun_begins r.permits r.capacity r.published r.cursor.next (reading_report r).lapped _ (reading_begins r) in
    let took : (reading_report r).taken ≡ count_by r.permits (between (begin_of r) (end_of r) r.published) =
    ap length (reading_takes r) ∙ length-filter r.permits (between (begin_of r) (end_of r) r.published) in
    let places : (r.cursor.next ≤ begin_of r) × (begin_of r ≤ end_of r)
    × (end_of r ≤ length r.published) = reading_ordered r in
    let both : count_by r.permits (between r.cursor.next (end_of r) r.published)
    ≡ count_by r.permits (between r.cursor.next (begin_of r) r.published) + count_by r.permits
    (between (begin_of r) (end_of r) r.published) =
    ap (count_by r.permits) (sym (between-between r.cursor.next (begin_of r) (end_of r) r.published places.0 places.1))
    ∙ count_by-append r.permits (between r.cursor.next (begin_of r) r.published)
    (between (begin_of r) (end_of r) r.published) in
    omega (arith, over, took, both)
