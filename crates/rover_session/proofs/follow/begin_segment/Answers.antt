use Rattle.std.proofs.Common.{List, Option, Some, map, refl, ap, arith}
use Rattle.std.specs.Prelude.{reverse}
use Rattle.std.proofs.lemmas.List.{length-map}
use Rattle.std.proofs.lemmas.Result.{err_from_is_err_and}
use Rattle.turn_log.specs.History.{History}
use Rattle.mount_ring.specs.declared.call.RingCall.{RingCall}
use Rattle.mount_ring.specs.declared.shape.RingShape.{RingShape}
use Rattle.rover_cursor.specs.declared.fault.SegFault.{SegFault}
use Rattle.rover_cursor.specs.declared.fault.SegFault.TheVariants.{Memory}
use Rattle.session_calls.specs.Plans.{Plan, done}
use Rattle.session_calls.specs.Rings.{all_alone}
use Rattle.rover_session.specs.Owed.{joins}
use Rattle.rover_session.specs.Standing.{Followed}
use Rattle.rover_session.proofs.FollowedLemmas.{followed_same, followed_joined, pushed, err_at}
use Rattle.rover_session.proofs.follow.begin_segment.Goals as goal

pub returns-then-is_err-clause-followed : goal.returns-then-is_err-clause-followed
returns-then-is_err-clause-followed g c =
    followed_same _ _ _ _ c.args.me (joins c.args.filter (Some c.args.mount) done) (Some Memory)
    (reverse c.args.segments.now.items) (reverse c.reserve.new.self.items) tt refl (ap reverse c.reserve.ensures.items)

pub returns-in_err-segment-clause-followed : goal.returns-in_err-segment-clause-followed
returns-in_err-segment-clause-followed g c =
    let place = g.T.Turns in
    let shapes : List RingShape = map place.shape c.args.places.now in
    let old : List (History RingCall) = map place.seen c.args.places.now in
    let now : List (History RingCall) = map place.seen c.join_at.new.places in
    let plan : Plan = joins c.args.filter (Some c.args.mount) done in
    let p = err_from_is_err_and c.from_residual.result c.from_residual.ensures.1 in
    err_at (λ (refused : Option SegFault). Followed shapes (all_alone place.alone c.args.places.now) old now c.args.me
    plan
    refused (reverse c.args.segments.now.items) (reverse c.reserve.new.self.items)) c.from_residual.result p.0 p.1
    (followed_same shapes (all_alone place.alone c.args.places.now) old now c.args.me plan (Some p.0)
    (reverse c.args.segments.now.items) (reverse c.reserve.new.self.items) tt c.in_err-segment.ensures.err
    (ap reverse c.reserve.ensures.items))

pub returns-clause-followed : goal.returns-clause-followed
returns-clause-followed g c =
    let place = g.T.Turns in
    followed_joined (map place.shape c.args.places.now) (all_alone place.alone c.args.places.now)
    (map place.seen c.args.places.now) (map place.seen c.join_at.new.places) c.args.me c.args.mount c.args.filter
    c.in_ok-segment.segment (reverse c.args.segments.now.items) (reverse c.push_reserved.new.self.items)
    (omega (arith, c.requires.within, length-map c.args.places.now place.shape)) c.in_ok-segment.ensures.went
    c.in_ok-segment.ensures.begun c.in_ok-segment.ensures.segment
    (pushed c.args.segments.now.items c.reserve.new.self.items c.push_reserved.new.self.items c.in_ok-segment.segment
    c.reserve.ensures.items c.push_reserved.ensures.items)
