-- One of several places, by its number.
use Rattle.std.proofs.Common.{◌≡◌, ℕ, ◌<◌, ◌≤◌, Bool, List, [], ◌∷◌, length, map, get_or, set, refl, sym, ap, subst, ◌∙◌, arith}
use Rattle.std.specs.List.{All, list_all, Contains}
use Rattle.std.proofs.lemmas.List.{append-nil, get_or-map, get_or-set_same, length-map, length-set}
use base.Stored.{Gv}
use Rattle.turn_log.specs.History.{History}
use Rattle.turn_log.specs.declared.TurnFault.{TurnFault}
use Rattle.turn_log.specs.declared.TurnFault.TheVariants as turns
use Rattle.turn_log.specs.Faults.{IsFault}
use Rattle.mount_ring.specs.declared.call.RingCall.{RingCall}
use Rattle.mount_ring.specs.declared.shape.RingShape.{RingShape}
use Rattle.mount_ring.specs.Shapes.{shape_of}
use Rattle.rover_cursor.specs.declared.fault.SegFault.{SegFault}
use Rattle.rover_cursor.specs.declared.fault.SegFault.TheVariants.{Worn, Memory}
use Rattle.rover_cursor.specs.Refusals.{handed_on, IsRefusal}
use Rattle.turn_log.specs.Turn.{SamePlace}
use Rattle.mount_ring.specs.declared.call.RingCall.TheVariants as calls
use Rattle.mount_ring.specs.declared.call.RingAnswer.TheVariants as answers
use Rattle.mount_ring.specs.declared.cursor.Cursor.{Cursor}
use Rattle.mount_ring.specs.declared.cursor.ReadReport.{ReadReport}
use Rattle.mount_ring.specs.History.{Shape}
use Rattle.rover_cursor.specs.declared.segment.Segment.{Segment}
use Rattle.rover_cursor.specs.Segments.{read_on}
use Rattle.rover_cursor.specs.Told.{IsSegment, Resumes, HasRead, report_in, frames_in}
use Rattle.session_calls.specs.Steps.{at_ring}
use Rattle.session_calls.specs.Rings.{history_at, shape_at, Went, SamePlaces, IsAmong}
use Rattle.session_calls.proofs.PlaceLemmas.{kept_by_one, later_by_one, later_both, went_turn}
use Rattle.rover_session.specs.Made.{IsRefusedBy}
use Rattle.rover_session.specs.Places.{AtRing, StayAtRings}
use Rattle.rover_session.specs.Standing.{HasReadAt}

-- ---- what stands at one place

pub history_here : {P : Type 0} (seen : P → History RingCall) (places : List P) (mount : ℕ) (d : P)
    → mount < length places → history_at (map seen places) mount ≡ seen (get_or places mount d)
history_here seen places mount d within = get_or-map seen places mount d [] within

pub history_new : {P : Type 0} (seen : P → History RingCall) (places : List P) (mount : ℕ) (new : P)
    → mount < length places → history_at (map seen (set places mount new)) mount ≡ seen new
history_new seen places mount new within =
    get_or-map seen (set places mount new) mount new [] (omega (arith, within, length-set places mount new))
    ∙ ap seen (get_or-set_same places mount new new within)

pub shape_here : {P : Type 0} (shape : P → RingShape) (places : List P) (mount : ℕ) (d : P)
    → mount < length places → shape_at (map shape places) mount ≡ shape_of (shape (get_or places mount d))
shape_here shape places mount d within =
    ap shape_of (get_or-map shape places mount d (record { capacity = 0; filters = [] }) within)

-- what holds of each shape holds of the shape of each place
pub filter_here : {P : Type 0} (shape : P → RingShape) (IsSuch : RingShape → Type 0) (places : List P) (mount : ℕ)
    (d : P)
    → mount < length places → All IsSuch (map shape places) → IsSuch (shape (get_or places mount d))
filter_here shape IsSuch places mount d within all =
    let none : RingShape = record { capacity = 0; filters = [] } in
    subst IsSuch (get_or-map shape places mount d none within)
    (all mount none (omega (arith, within, length-map places shape)))

-- ---- a segment at its place

-- what is said by shape and history of the place is said by those of its number
pub read_named : {P A : Type 0} (shape : P → RingShape) (seen : P → History RingCall) (places : List P) (mount : ℕ)
    (d new : P) → mount < length places → (f : Shape → History RingCall → A)
    → f (shape_of (shape (get_or places mount d))) (seen new)
    ≡ f (shape_at (map shape places) mount) (history_at (map seen (set places mount new)) mount)
read_named shape seen places mount d new within f =
    ap (λ (s : Shape). f s (seen new)) (sym (shape_here shape places mount d within))
    ∙ ap (f (shape_at (map shape places) mount)) (sym (history_new seen places mount new within))

pub segment_named : {P : Type 0} (shape : P → RingShape) (seen : P → History RingCall) (places : List P) (mount : ℕ)
    (d new : P) (me : ℕ) (segment : Segment) → mount < length places
    → IsSegment (shape_of (shape (get_or places mount d))) me (seen new) segment
    → IsSegment (shape_at (map shape places) mount) me (history_at (map seen (set places mount new)) mount) segment
segment_named shape seen places mount d new me segment within is =
    subst (λ (h : History RingCall). IsSegment (shape_at (map shape places) mount) me h segment)
    (sym (history_new seen places mount new within))
    (subst (λ (s : Shape). IsSegment s me (seen new) segment) (sym (shape_here shape places mount d within)) is)

-- the next read may be made at the place
pub read_resumes : {P : Type 0} (shape : P → RingShape) (seen : P → History RingCall) (places : List P) (mount : ℕ)
    (d : P) (me : ℕ) (segment : Segment) → mount < length places
    → IsSegment (shape_at (map shape places) mount) me (history_at (map seen places) mount) segment
    → (h : History RingCall) × IsSegment (shape_of (shape (get_or places mount d))) me h segment
    × Resumes me h (seen (get_or places mount d))
read_resumes shape seen places mount d me segment within is =
    let here : History RingCall = seen (get_or places mount d) in (
      here,
      subst (λ (h : History RingCall). IsSegment (shape_of (shape (get_or places mount d))) me h segment)
          (history_here seen places mount d within)
          (subst (λ (s : Shape). IsSegment s me (history_at (map seen places) mount) segment)
          (shape_here shape places mount d within) is),
      ([], sym (append-nil here), refl),
    )

-- a read of the place is one at its number
pub read_by_one : {P : Type 0} (shape : P → RingShape) (alone : P → Bool) (seen : P → History RingCall)
    (places : List P) (d new : P) (me budget : ℕ) (before after : Segment) (frames : List (List ℕ)) (count : ℕ)
    → before.mount < length places
    → HasRead (shape_of (shape (get_or places before.mount d))) (alone (get_or places before.mount d))
    (seen (get_or places before.mount d)) (seen new) me budget before after frames count
    → HasReadAt (map shape places) (list_all alone places) (map seen places) (map seen (set places before.mount new)) me
    budget before after frames count
read_by_one shape alone seen places d new me budget before after frames count within read =
    let mount : ℕ = before.mount in
    let cursor : Cursor = before.cursor in
    let here : Shape = shape_of (shape (get_or places mount d)) in record {
      went = subst (λ (report : ReadReport). Went (map shape places) (list_all alone places) (map seen places)
          (map seen (set places mount new)) me (at_ring mount (calls.Read cursor budget) (answers.Read report) ∷ []))
          (read_named shape seen places mount d new within (λ s h. report_in s h cursor budget))
          (went_turn shape alone seen places mount d new me (calls.Read cursor budget)
          (answers.Read (report_in here (seen new) cursor budget)) within read.heard);
      followed = read.followed
          ∙ read_named shape seen places mount d new within (λ s h. read_on (report_in s h cursor budget) before);
      segment = segment_named shape seen places mount d new me after within read.segment;
      taken = read.taken ∙ read_named shape seen places mount d new within (λ s h. frames_in s h cursor budget);
      counted = read.counted;
    }

-- ---- all places

-- a place changes as a turn changes it, and the others do not change
pub stay_by_one : {P : Type 0} (ring : AtRing P) (places : List P) (mount : ℕ) (d new : P)
    → SamePlace ring.shape ring.speaks ring.may_lack ring.alone ring.home (get_or places mount d) new
    → ring.worn (get_or places mount d) ≤ ring.worn new → StayAtRings ring places (set places mount new)
stay_by_one ring places mount d new same worn = record {
  same = (
    kept_by_one ring.shape places mount d new same.0,
    kept_by_one ring.speaks places mount d new same.1,
    kept_by_one ring.may_lack places mount d new same.2,
    kept_by_one ring.alone places mount d new same.3,
    kept_by_one ring.home places mount d new same.4,
  );
  worn = later_by_one ring.worn places mount d new worn;
}

pub stay_still : {P : Type 0} (ring : AtRing P) (places : List P) → StayAtRings ring places places
stay_still ring places = record { same = (refl, refl, refl, refl, refl); worn = λ n. omega arith }

-- places that stay what they are, and then again
pub same_places_both : {P : Type 0} (shape : P → RingShape) (speaks : P → ℕ → Bool) (may_lack alone : P → Bool)
    (home : P → Gv) (a b c : List P) → SamePlaces shape speaks may_lack alone home a b
    → SamePlaces shape speaks may_lack alone home b c → SamePlaces shape speaks may_lack alone home a c
same_places_both shape speaks may_lack alone home a b c x y =
    (y.0 ∙ x.0, y.1 ∙ x.1, y.2 ∙ x.2, y.3 ∙ x.3, y.4 ∙ x.4)

pub stay_both : {P : Type 0} (ring : AtRing P) (a b c : List P) → StayAtRings ring a b → StayAtRings ring b c
    → StayAtRings ring a c
stay_both ring a b c x y = record {
  same = same_places_both ring.shape ring.speaks ring.may_lack ring.alone ring.home a b c x.same y.same;
  worn = later_both (map ring.worn a) (map ring.worn b) (map ring.worn c) x.worn y.worn;
}

-- ---- refusals

worn_among : {P : Type 0} (worn : P → ℕ) (places : List P) (place : P) → Contains places place
    → Contains (map worn places) (worn place)
worn_among worn places place (k, within, is) =
    (k, omega (arith, within, length-map places worn), get_or-map worn places k place (worn place) within ∙ ap worn is)

-- a look that was refused
pub look_refused : {P : Type 0} (may_lack : P → Bool) (worn : P → ℕ) (places : List P) (fault : TurnFault)
    → IsAmong (λ place. IsFault (may_lack place) (worn place) fault) places
    → IsRefusedBy (map worn places) (handed_on fault)
look_refused may_lack worn places (turns.Worn given) (place, among, is) =
    (subst (Contains (map worn places)) is.0 (worn_among worn places place among), is.1)
look_refused may_lack worn places turns.Memory among = tt

-- a call of a segment that was refused at its place
pub turn_refused : {P : Type 0} (may_lack : Bool) (worn : P → ℕ) (places : List P) (mount : ℕ) (new : P)
    (fault : SegFault) → mount < length places → IsRefusal may_lack (worn new) fault
    → IsRefusedBy (map worn (set places mount new)) fault
turn_refused may_lack worn places mount new (Worn given) within is =
    let there : Contains (set places mount new) new =
    (mount, omega (arith, within, length-set places mount new), get_or-set_same places mount new new within) in (
      subst (Contains (map worn (set places mount new))) (sym is.0) (worn_among worn (set places mount new) new there),
      is.1,
    )
turn_refused may_lack worn places mount new Memory within is = tt
