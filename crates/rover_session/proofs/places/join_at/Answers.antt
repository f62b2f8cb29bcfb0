-- The place that is joined changes as a turn changes it, and the others do not change.
use Rattle.std.proofs.Common.{◌<◌, List, length, map, get_or, sym, ap, subst, ◌∙◌}
use Rattle.std.proofs.lemmas.Result.{IfOk-weaker, on_err_weaker, MatchResult-weaker}
use Rattle.turn_log.specs.History.{History}
use Rattle.mount_ring.specs.declared.call.RingCall.{RingCall}
use Rattle.mount_ring.specs.declared.call.RingCall.TheVariants.{Join}
use Rattle.mount_ring.specs.declared.call.RingAnswer.TheVariants.{Joined}
use Rattle.mount_ring.specs.declared.shape.RingShape.{RingShape}
use Rattle.mount_ring.specs.History.{Shape}
use Rattle.rover_cursor.specs.declared.segment.Segment.{Segment}
use Rattle.rover_cursor.specs.Segments.{begun}
use Rattle.rover_cursor.specs.Told.{IsSegment}
use Rattle.session_calls.specs.Rings.{shape_at}
use Rattle.session_calls.proofs.PlaceLemmas.{kept_by_one, went_turn}
use Rattle.rover_session.proofs.AtLemmas.{history_new, shape_here, filter_here, stay_by_one, turn_refused}
use Rattle.rover_session.proofs.places.join_at.Goals as goal

pub join-requires-clause-filter : goal.join-requires-clause-filter
join-requires-clause-filter g c =
    filter_here g.T.Turns.shape (λ (shape : RingShape). c.args.filter < length shape.filters) c.args.places.now
    c.args.mount c.index-places-mount.result c.requires.within c.requires.filter

pub returns-clause-stay : goal.returns-clause-stay
returns-clause-stay g c =
    stay_by_one g.T.Turns c.args.places.now c.args.mount c.index-places-mount.result c.join.new.place
    c.join.ensures.same c.join.ensures.worn

pub returns-clause-went : goal.returns-clause-went
returns-clause-went g c =
    IfOk-weaker c.join.result _ _
    (λ (segment : Segment) heard. went_turn g.T.Turns.shape g.T.Turns.alone g.T.Turns.seen c.args.places.now
    c.args.mount c.index-places-mount.result c.join.new.place c.args.me (Join c.args.filter) (Joined segment.cursor)
    c.requires.within heard) c.join.ensures.heard

pub returns-clause-begun : goal.returns-clause-begun
returns-clause-begun g c =
    IfOk-weaker c.join.result _ _
    (λ (segment : Segment) is. is ∙ ap (begun c.args.mount) (sym (ap (λ (s : Segment). s.cursor) is)))
    c.join.ensures.begun

pub returns-clause-segment : goal.returns-clause-segment
returns-clause-segment g c =
    let shapes : List RingShape = map g.T.Turns.shape c.args.places.now in
    IfOk-weaker c.join.result _ _
    (λ (segment : Segment) is.
    subst (λ (h : History RingCall). IsSegment (shape_at shapes c.args.mount) c.args.me h segment)
    (sym (history_new g.T.Turns.seen c.args.places.now c.args.mount c.join.new.place c.requires.within))
    (subst (λ (s : Shape). IsSegment s c.args.me (g.T.Turns.seen c.join.new.place) segment)
    (sym (shape_here g.T.Turns.shape c.args.places.now c.args.mount c.index-places-mount.result c.requires.within))
    is)) c.join.ensures.segment

pub returns-clause-err : goal.returns-clause-err
returns-clause-err g c =
    on_err_weaker c.join.result
    (kept_by_one g.T.Turns.seen c.args.places.now c.args.mount c.index-places-mount.result c.join.new.place)
    c.join.ensures.err

pub returns-clause-cause : goal.returns-clause-cause
returns-clause-cause g c =
    MatchResult-weaker c.join.result c.join.ensures.fault (λ segment any. any)
    (λ fault is. turn_refused (g.T.Turns.may_lack (get_or c.args.places.now c.args.mount c.index-places-mount.result))
    g.T.Turns.worn c.args.places.now c.args.mount c.join.new.place fault c.requires.within is)
