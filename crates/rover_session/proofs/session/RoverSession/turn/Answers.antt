use Rattle.std.proofs.Common.{◌≡◌, Bool, List, [], map, set, refl, sym, ap, subst, ◌∙◌, arith}
use Rattle.std.specs.Prelude.{reverse}
use Rattle.std.proofs.lemmas.List.{length-map}
use Rattle.turn_log.specs.History.{History}
use Rattle.mount_ring.specs.declared.call.RingCall.{RingCall}
use Rattle.mount_ring.specs.declared.shape.RingShape.{RingShape}
use Rattle.rover_cursor.specs.declared.segment.Segment.{Segment}
use Rattle.session_calls.specs.Rings.{AllSpeak, all_alone}
use Rattle.rover_session.specs.Standing.{Rover, IsResumable, TurnSent, frames_read}
use Rattle.rover_session.specs.Kept.{rover_in}
use Rattle.rover_session.proofs.SegmentLemmas.{was_resumable}
use Rattle.rover_session.proofs.TurnLemmas.{resumed, segment_told, segment_within, turn_made, turn_none, turn_resumable, same_items, no_items, on_err_all}
use Rattle.rover_session.proofs.session.RoverSession.turn.Goals as goal

pub returns-in-Some-clause-resumable : goal.returns-in-Some-clause-resumable
returns-in-Some-clause-resumable g c = was_resumable _ _ _ _ c.requires.resumes

pub returns-in_default-checked_sub-clause-turned : goal.returns-in_default-checked_sub-clause-turned
returns-in_default-checked_sub-clause-turned g c =
    let shapes : List RingShape = map g.T.Turns.shape c.args.places.now in
    let alone : Bool = all_alone g.T.Turns.alone c.args.places.now in
    let histories : List (History RingCall) = map g.T.Turns.seen c.args.places.now in
    let items : List Segment = c.self.inside.segments.items in
    let none : items ≡ [] =
    no_items items (λ some. c.in_default-checked_sub.ensures
    (omega (arith, c.len.ensures, c.self.inside.segments.ok))) in
    subst (λ (r : Rover). TurnSent shapes alone histories histories c.args.budget r r
    (frames_read shapes histories c.args.budget r.segments) c.args.out.now.items c.args.out.now.items 0)
    c.self.view_is
    (turn_none shapes alone histories c.args.budget (rover_in c.self.inside) c.args.out.now.items (ap reverse none))

pub returns-in_default-checked_sub-clause-resumable : goal.returns-in_default-checked_sub-clause-resumable
returns-in_default-checked_sub-clause-resumable g c = was_resumable _ _ _ _ c.requires.resumes

pub returns-then-is_err-clause-resumable : goal.returns-then-is_err-clause-resumable
returns-then-is_err-clause-resumable g c = was_resumable _ _ _ _ c.requires.resumes

-- ---- the read of the newest segment

pub read_at-requires-clause-within : goal.read_at-requires-clause-within
read_at-requires-clause-within g c =
    omega (
      arith,
      length-map c.args.places.now g.T.Turns.shape,
      segment_within (map g.T.Turns.shape c.args.places.now) c.self.inside.segments.items
          c.in-Some-checked_sub.newest _ c.index_mut-segment.result.now
          (omega (arith, c.in-Some-checked_sub.ensures, c.len.ensures, c.self.inside.segments.ok))
          c.index_mut-segment.ensures.value c.self.inside.admitted.me (map g.T.Turns.seen c.args.places.now)
          (resumed (map g.T.Turns.shape c.args.places.now) (map g.T.Turns.seen c.args.places.now) c.self.inside
          c.args.self.now c.self.view_is c.requires.resumes),
    )

pub read_at-requires-clause-speaks : goal.read_at-requires-clause-speaks
read_at-requires-clause-speaks g c =
    subst (λ (r : Rover). AllSpeak g.T.Turns.speaks c.args.places.now r.me) (sym c.self.view_is) c.requires.speaks

pub read_at-requires-clause-segment : goal.read_at-requires-clause-segment
read_at-requires-clause-segment g c =
    segment_told (map g.T.Turns.shape c.args.places.now) c.self.inside.segments.items c.in-Some-checked_sub.newest _
    c.index_mut-segment.result.now (omega (
      arith,
      c.in-Some-checked_sub.ensures,
      c.len.ensures,
      c.self.inside.segments.ok,
    ))
    c.index_mut-segment.ensures.value c.self.inside.admitted.me (map g.T.Turns.seen c.args.places.now)
    (resumed (map g.T.Turns.shape c.args.places.now) (map g.T.Turns.seen c.args.places.now) c.self.inside
    c.args.self.now c.self.view_is c.requires.resumes)

-- ---- it was refused, and all stays

-- the segments that are kept
kept : (g : Rattle.rover_session.proofs.session.RoverSession.turn.Given.Over) (c : goal.After-from_residual g)
    → set c.self.inside.segments.items c.in-Some-checked_sub.newest c.read_at.new.segment
    ≡ c.self.inside.segments.items
kept g c =
    same_items (map g.T.Turns.shape c.args.places.now) c.self.inside.segments.items c.in-Some-checked_sub.newest _
    c.index_mut-segment.result.now (omega (
      arith,
      c.in-Some-checked_sub.ensures,
      c.len.ensures,
      c.self.inside.segments.ok,
    ))
    c.index_mut-segment.ensures.value c.read_at.new.segment c.in_err-taken.ensures.err.1

pub returns-in_err-taken-clause-resumable : goal.returns-in_err-taken-clause-resumable
returns-in_err-taken-clause-resumable g c =
    let shapes : List RingShape = map g.T.Turns.shape c.args.places.now in
    subst (λ (r : Rover). IsResumable shapes r.me (map g.T.Turns.seen c.read_at.new.places)
    (reverse (set c.self.inside.segments.items c.in-Some-checked_sub.newest c.read_at.new.segment))) c.self.view_is
    (subst (λ (h : List (History RingCall)). IsResumable shapes c.self.inside.admitted.me h
    (reverse (set c.self.inside.segments.items c.in-Some-checked_sub.newest c.read_at.new.segment)))
    (sym c.in_err-taken.ensures.err.0)
    (subst (λ (l : List Segment). IsResumable shapes c.self.inside.admitted.me (map g.T.Turns.seen c.args.places.now)
    (reverse l)) (sym (kept g c)) (resumed (map g.T.Turns.shape c.args.places.now)
    (map g.T.Turns.seen c.args.places.now) c.self.inside c.args.self.now c.self.view_is c.requires.resumes)))

pub returns-in_err-taken-clause-err : goal.returns-in_err-taken-clause-err
returns-in_err-taken-clause-err g c =
    let rover : Rover = rover_in c.self.inside in
    on_err_all _ c.from_residual.result (
      ap (λ (l : List Segment). record rover { segments = reverse l }) (kept g c) ∙ c.self.view_is,
      c.in_err-taken.ensures.err.0,
      c.reserve.ensures.items,
    )

-- ---- it was made

pub returns-clause-turned : goal.returns-clause-turned
returns-clause-turned g c =
    let place = g.T.Turns in
    let shapes : List RingShape = map place.shape c.args.places.now in
    let alone : Bool = all_alone place.alone c.args.places.now in
    let old : List (History RingCall) = map place.seen c.args.places.now in
    let now : List (History RingCall) = map place.seen c.read_at.new.places in
    let items : List Segment = c.self.inside.segments.items in
    let rover : Rover = rover_in c.self.inside in
    let next : Rover = record rover {
      segments = reverse (set items c.in-Some-checked_sub.newest c.read_at.new.segment);
    } in
    subst (λ (r : Rover). TurnSent shapes alone old now c.args.budget r next
    (frames_read shapes now c.args.budget r.segments) c.args.out.now.items c.append_frames.new.out.items
    c.in_ok-taken.taken) c.self.view_is
    (turn_made shapes items c.in-Some-checked_sub.newest _ c.index_mut-segment.result.now
    (omega (arith, c.in-Some-checked_sub.ensures, c.len.ensures, c.self.inside.segments.ok))
    c.index_mut-segment.ensures.value alone rover.me old now c.args.budget c.read_at.new.segment c.read_at.new.out
    c.in_ok-taken.taken c.in_ok-taken.ensures.read rover c.frames.result.now c.args.out.now.items
    c.reserve.new.self.items c.append_frames.new.out.items refl refl (resumed (map g.T.Turns.shape c.args.places.now)
    (map g.T.Turns.seen c.args.places.now) c.self.inside c.args.self.now c.self.view_is c.requires.resumes) c.frames.ensures.frames
    c.append_frames.ensures.valid c.reserve.ensures.items c.append_frames.ensures.items)

pub returns-clause-resumable : goal.returns-clause-resumable
returns-clause-resumable g c =
    let place = g.T.Turns in
    let shapes : List RingShape = map place.shape c.args.places.now in
    let items : List Segment = c.self.inside.segments.items in
    let now : List (History RingCall) = map place.seen c.read_at.new.places in
    subst (λ (r : Rover). IsResumable shapes r.me now
    (reverse (set items c.in-Some-checked_sub.newest c.read_at.new.segment))) c.self.view_is
    (turn_resumable shapes items c.in-Some-checked_sub.newest _ c.index_mut-segment.result.now
    (omega (arith, c.in-Some-checked_sub.ensures, c.len.ensures, c.self.inside.segments.ok))
    c.index_mut-segment.ensures.value (all_alone place.alone c.args.places.now) c.self.inside.admitted.me
    (map place.seen c.args.places.now) now c.args.budget c.read_at.new.segment c.read_at.new.out c.in_ok-taken.taken
    c.in_ok-taken.ensures.read (resumed (map g.T.Turns.shape c.args.places.now)
    (map g.T.Turns.seen c.args.places.now) c.self.inside c.args.self.now c.self.view_is c.requires.resumes))
