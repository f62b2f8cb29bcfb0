use Rattle.std.proofs.Common.{ℕ, ◌++◌, Bool, List, Option, None, Some, option_to_list, Err, map, take, refl, sym, ap, subst, ◌∙◌}
use Rattle.std.specs.Prelude.{reverse}
use Rattle.std.proofs.lemmas.Result.{err_from_is_err_and}
use Rattle.turn_log.specs.History.{History}
use Rattle.mount_ring.specs.declared.call.RingCall.{RingCall}
use Rattle.mount_ring.specs.declared.shape.RingShape.{RingShape}
use Rattle.rover_cursor.specs.declared.segment.Segment.{Segment}
use Rattle.rover_cursor.specs.declared.fault.SegFault.{SegFault}
use Rattle.session_calls.specs.Rings.{all_alone}
use Rattle.session_calls.proofs.PlaceLemmas.{speak_same, alone_same}
use Rattle.rover_session.specs.Owed.{Terms, heeds}
use Rattle.rover_session.specs.Made.{present_base}
use Rattle.rover_session.specs.Standing.{terms_of, KnowsFilter}
use Rattle.rover_session.proofs.AtLemmas.{stay_still, stay_both}
use Rattle.rover_session.proofs.FollowedLemmas.{followed_as, keeps_both, err_at}
use Rattle.rover_session.proofs.HeededLemmas.{HeededUntil, heeded_none, heeded_next, heeded_refused}
use Rattle.rover_session.proofs.follow.heed_all.Goals as goal

pub heed-requires-clause-speaks : goal.heed-requires-clause-speaks
heed-requires-clause-speaks g c =
    speak_same g.T.Turns.speaks c.args.places.now c.loop-byte.places c.args.admitted.now.me
    c.loop-byte.invariant.stay.same.1 c.requires.speaks

pub heed-requires-clause-filter : goal.heed-requires-clause-filter
heed-requires-clause-filter g c =
    subst (λ (shapes : List RingShape). KnowsFilter shapes c.args.admitted.now.filter)
    (sym c.loop-byte.invariant.stay.same.0) c.requires.filter

pub loop-byte-init : goal.loop-byte-init
loop-byte-init g c =
    let place = g.T.Turns in record {
      stay = stay_still place c.args.places.now;
      keeps = λ is. record { resumable = is; sent = refl };
      heeded = λ before stands.
          heeded_none (map place.shape c.args.places.now) (all_alone place.alone c.args.places.now)
          (map place.seen c.args.places.now) c.args.admitted.now.me c.args.admitted.now.near
          (terms_of c.args.admitted.now) (reverse c.args.segments.now.items) c.args.reader.now before stands;
    }

pub loop-byte-preserved : goal.loop-byte-preserved
loop-byte-preserved g c =
    let place = g.T.Turns in
    let old = c.args.places.now in
    let mid = c.loop-byte.places in
    let new = c.heed.new.places in
    let shapes : List RingShape = map place.shape old in
    let alone : Bool = all_alone place.alone old in
    let at_old : List (History RingCall) = map place.seen old in
    let at_mid : List (History RingCall) = map place.seen mid in
    let now : List (History RingCall) = map place.seen new in
    let me : ℕ = c.args.admitted.now.me in
    let near : Bool = c.args.admitted.now.near in
    let terms : Terms = terms_of c.args.admitted.now in
    let a : List Segment = reverse c.args.segments.now.items in
    let b : List Segment = reverse c.loop-byte.segments.items in
    let after : List Segment = reverse c.heed.new.segments.items in
    let same = c.loop-byte.invariant.stay.same in
    let followed = followed_as shapes (map place.shape mid) alone (all_alone place.alone mid) at_mid now me
    (heeds near terms (present_base b) (option_to_list c.push-report.result)) None b after same.0
    (alone_same place.alone old mid same.3) c.in_ok-heed.ensures.followed in record {
      stay = stay_both place old mid new c.loop-byte.invariant.stay c.heed.ensures.stay;
      keeps = keeps_both shapes me at_old at_mid now a b after c.loop-byte.invariant.keeps followed.keeps;
      heeded = λ before stands.
          let x = c.loop-byte.invariant.heeded before stands in
          heeded_next shapes alone at_old me near terms a at_mid now c.loop-byte.reader c.push-report.new.self before
          c.args.bytes.now c.loop-byte.byte-index c.push-report.result b after c.loop-byte-test.true x
          (c.push-report.ensures.stands (before ++ take c.loop-byte.byte-index c.args.bytes.now) x.line)
          (c.push-report.ensures.reports (before ++ take c.loop-byte.byte-index c.args.bytes.now) x.line) followed;
    }

pub returns-in_err-heed-clause-followed : goal.returns-in_err-heed-clause-followed
returns-in_err-heed-clause-followed g c =
    let place = g.T.Turns in
    let old = c.args.places.now in
    let mid = c.loop-byte.places in
    let shapes : List RingShape = map place.shape old in
    let alone : Bool = all_alone place.alone old in
    let at_old : List (History RingCall) = map place.seen old in
    let at_mid : List (History RingCall) = map place.seen mid in
    let now : List (History RingCall) = map place.seen c.heed.new.places in
    let me : ℕ = c.args.admitted.now.me in
    let near : Bool = c.args.admitted.now.near in
    let terms : Terms = terms_of c.args.admitted.now in
    let a : List Segment = reverse c.args.segments.now.items in
    let b : List Segment = reverse c.loop-byte.segments.items in
    let after : List Segment = reverse c.heed.new.segments.items in
    let same = c.loop-byte.invariant.stay.same in
    let fault : SegFault = c.in_err-heed.field-0.0 in
    let followed = followed_as shapes (map place.shape mid) alone (all_alone place.alone mid) at_mid now me
    (heeds near terms (present_base b) (option_to_list c.push-report.result)) (Some fault) b after same.0
    (alone_same place.alone old mid same.3) c.in_err-heed.ensures.followed in
    let p = err_from_is_err_and c.from_residual.result c.from_residual.ensures.1 in
    λ before stands.
    let x = c.loop-byte.invariant.heeded before stands in
    err_at (λ (refused : Option SegFault). HeededUntil shapes alone at_old me near terms a now refused before
    c.args.bytes.now after) c.from_residual.result fault (p.1 ∙ ap Err p.2)
    (heeded_refused shapes alone at_old me near terms a at_mid now c.loop-byte.reader before c.args.bytes.now
    c.loop-byte.byte-index c.push-report.result fault b after c.loop-byte-test.true x
    (c.push-report.ensures.reports (before ++ take c.loop-byte.byte-index c.args.bytes.now) x.line) followed)
